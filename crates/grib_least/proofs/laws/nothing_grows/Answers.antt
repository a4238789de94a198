use Rattle.grib2_message.specs.Assembled.{assembled}
use Rattle.grib_least.specs.Least.{least_forms}
use Rattle.grib_least.proofs.Kept.{no_longer}
use Rattle.grib_least.proofs.laws.nothing_grows.Goals as goal

pub returns : goal.returns
returns c = λ profile message. no_longer message (assembled message (least_forms profile message))
