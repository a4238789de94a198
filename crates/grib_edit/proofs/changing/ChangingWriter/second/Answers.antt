use Rattle.grib_edit.proofs.changing.ChangingWriter.second.Goals as goal

pub returns : goal.returns
returns g c = c.change.ensures c.args._place.now
