use Rattle.grib.specs.Reading.{turns_left}
use Rattle.grib_tests_library.proofs.reading.read_all.Given as goal

-- each message is nearer to the end of the input
abbrev pub decreases-loop-lines : goal.decreases-loop-lines
decreases-loop-lines g l = turns_left l.reader
