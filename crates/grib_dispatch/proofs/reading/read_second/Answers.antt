use Rattle.grib_dispatch.proofs.Editions.{passed_second}
use Rattle.grib_dispatch.proofs.reading.read_second.Goals as goal

pub returns-in_err-message : goal.returns-in_err-message
returns-in_err-message c = passed_second c.args.profile _ c.args.octets.now c.from_residual.result _ c.requires.second c.from_residual.ensures.1 c.in_err-message.ensures
