use Rattle.std.proofs.Common.{ℕ, ◌≤◌, List, sym, subst}
use Rattle.grib_base.specs.declared.profile.Profile.TheVariants.{Open}
use Rattle.grib2_message.specs.Fields.{field_count}
use Rattle.grib2_message.specs.Message.{FieldReads}
use Rattle.grib2_message.proofs.Opened.{field_read}
use Rattle.grib2_message.proofs.readable.ReadableMessage.mask.Goals as goal

pub returns-clause-passes : goal.returns-clause-passes
returns-clause-passes c =
    let m = c.self.inside.message.now in
    let last = subst (λ (x : List ℕ). c.args.field ≤ field_count x) (sym c.self.view_is) c.requires.last in
    subst (λ (x : List ℕ). FieldReads x c.args.field) c.self.view_is
    (field_read Open m c.args.field c.places.ensures.passes (c.self.invariant c.args.field c.requires.first last))
