use Rattle.grib.specs.Reading.{turns_left}
use Rattle.example_values.proofs.main.Given as goal

-- each message is nearer to the end of the input
abbrev pub decreases-loop-reader : goal.decreases-loop-reader
decreases-loop-reader l = turns_left l.reader
