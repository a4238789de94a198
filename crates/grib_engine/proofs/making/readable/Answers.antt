use Rattle.std.proofs.Common.{◌≡◌, None}
use Rattle.grib2_message.specs.Message.{first_opaque}
use Rattle.grib_engine.proofs.making.readable.Goals as goal

pub unreachable-requires : goal.unreachable-requires
unreachable-requires c =
    let none : first_opaque c.args.message.now ≡ None = (c.field_holds.ensures.opaque c.args.message.now).1 (c.field_holds.ensures.stated c.args.message.now c.requires) in
    let some = c.in-Err.ensures.first in
    let no : ⊥ = cc in absurd no
