use Rattle.grib_stream.proofs.Within.{messages_taken}
use Rattle.grib_stream.proofs.laws.messages_of_what_was_taken.Goals as goal

pub returns : goal.returns
returns c = messages_taken
