use Rattle.grib.specs.Reading.{turns_left}
use Rattle.example_find.proofs.main.Given as goal

-- the fields that are left can be asked for, and end
abbrev pub invariant-loop-field : goal.invariant-loop-field
invariant-loop-field l = (goal.iterator-loop-field).can_next l.field-iterator × (goal.iterator-loop-field).is_finite l.field-iterator

-- each message is nearer to the end of the input
abbrev pub decreases-loop-reader : goal.decreases-loop-reader
decreases-loop-reader l = turns_left l.reader
