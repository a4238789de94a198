use Rattle.grib_demote.proofs.Holding.{field_holds}
use Rattle.grib_demote.proofs.field.Field.of.Goals as goal

pub returns-clause-holds : goal.returns-clause-holds
returns-clause-holds c = field_holds c.args.message.now c.args.field c.there.ensures.passes
