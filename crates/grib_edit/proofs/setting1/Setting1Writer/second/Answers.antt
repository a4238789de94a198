use Rattle.std.proofs.Common.{Some, [], refl}
use Rattle.grib_reasons.specs.declared.cause.Cause.TheVariants.{EditionTwo}
use Rattle.grib_command.specs.declared.answered.Answered.TheVariants.{Kept}
use Rattle.grib_edit.proofs.KeptBy.{kept}
use Rattle.grib_edit.proofs.setting1.Setting1Writer.second.Goals as goal

pub returns : goal.returns
returns g c =
    kept g.T.Sink.contents g.T.Sink.faults g.T.Sink.settled (Kept EditionTwo) (Some EditionTwo) c.args._place.now.message [] c.args._output.now refl
