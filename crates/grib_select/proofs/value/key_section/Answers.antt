use Rattle.std.proofs.Common.{ℕ, List, sym, subst}
use Rattle.grib_select.specs.Values.{HasKeys}
use Rattle.grib_select.proofs.Within.{part_keys}
use Rattle.grib_select.proofs.value.key_section.Goals as goal

pub returns-clause-keys : goal.returns-clause-keys
returns-clause-keys c =
    let m = c.args.message.now in
    subst (λ (s : List ℕ). HasKeys c.args.number s) (sym c.in-Some.ensures.part.1)
    (part_keys m c.args.field c.args.number c.in-Some.ensures.passes c.requires.high c.requires.present c.if-number-eq0.false)
