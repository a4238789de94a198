use Rattle.grib_stream.proofs.Notes.{notes_within}
use Rattle.grib_stream.proofs.laws.each_outcome_has_its_note.Goals as goal

pub returns : goal.returns
returns c = notes_within
