use Rattle.grib.specs.Reading.{turns_left}
use Rattle.example_levels.proofs.main.Given as goal

-- each message is nearer to the end of the input
abbrev pub decreases-loop-levels : goal.decreases-loop-levels
decreases-loop-levels l = turns_left l.reader
