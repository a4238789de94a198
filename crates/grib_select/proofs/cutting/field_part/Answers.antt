use Rattle.std.proofs.Common.{◌≡◌, ℕ, ◌≤◌, Bool, List, length, sym, ap, ◌∙◌, ne_eqb, subst}
use Rattle.grib_base.specs.Rules.{choose}
use Rattle.grib_base.specs.declared.profile.Profile.TheVariants.{Open}
use Rattle.grib_base.specs.declared.limits.TheConstants.{MOST_OCTETS}
use Rattle.grib2_message.specs.Fields.{part_octets, field_bitmap}
use Rattle.grib_select.specs.Single.{field_part}
use Rattle.grib_select.proofs.Alone.{part_short}
use Rattle.grib_select.proofs.cutting.field_part.Goals as goal

pub returns-then-number-eq-BITMAP-clause-short : goal.returns-then-number-eq-BITMAP-clause-short
returns-then-number-eq-BITMAP-clause-short c =
    subst (λ (s : List ℕ). length s ≤ MOST_OCTETS) (sym c.bitmap.ensures.octets)
    (part_short Open c.args.message.now c.args.field 6 c.requires.message c.requires.first c.requires.last)

pub returns-in-Some-clause-short : goal.returns-in-Some-clause-short
returns-in-Some-clause-short c =
    let m = c.args.message.now in
    let i = c.args.field in
    let n = c.args.number in
    let is : field_part m i n ≡ part_octets m i n = ap (λ (b : Bool). choose b (λ _. field_bitmap m i) (λ _. part_octets m i n)) (ne_eqb n 6 c.if-number-eq-BITMAP.false) in
    subst (λ (s : List ℕ). length s ≤ MOST_OCTETS) (is ∙ sym c.in-Some.ensures.part.1) (part_short Open m i n c.requires.message c.requires.first c.requires.last)
