use Rattle.std.proofs.Common.{option_map, sym, ap, subst}
use Rattle.grib_reasons.specs.declared.cause.Cause.TheVariants.{Demoted}
use Rattle.grib_demote.specs.Demoted.{first_loss}
use Rattle.grib_edit.specs.Unchanged.{IsKept}
use Rattle.grib_edit.specs.Demoting.{field_cause}
use Rattle.grib_edit.proofs.KeptBy.{not_demoted}
use Rattle.grib_edit.proofs.demoting.demote_field.Goals as goal

pub returns-in-Ok : goal.returns-in-Ok
returns-in-Ok c = (ap (option_map (Demoted c.args.field)) c.in-Ok.ensures.0, c.in-Ok.ensures.1)

pub returns-in-Err : goal.returns-in-Err
returns-in-Err c =
    let loss = first_loss c.args.demoting.now.table.now c.args.demoting.now.matching c.args.demoting.now.keep_local c.args.demoting.now.any_earth c.args.message.now c.args.field in
    subst (IsKept (field_cause c.args.demoting.now.table.now c.args.demoting.now.matching c.args.demoting.now.keep_local c.args.demoting.now.any_earth c.args.message.now c.args.field)) (sym c.kept_by.ensures)
    (not_demoted c.args.field loss c.in-Err.fault c.in-Err.ensures)
