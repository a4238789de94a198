use Rattle.grib_dispatch.proofs.Editions.{passed_first}
use Rattle.grib_dispatch.proofs.reading.read_first.Goals as goal

pub returns-in_err-message : goal.returns-in_err-message
returns-in_err-message c = λ profile. passed_first profile _ c.args.octets.now c.from_residual.result _ c.requires.first c.from_residual.ensures.1 c.in_err-message.ensures
