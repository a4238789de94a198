use Rattle.std.proofs.Common.{◌≡◌, ◌≤◌, ◌+◌, ◌-◌, max, length}
use Rattle.grib_stream.specs.Reading.{Gathers}
use Rattle.grib_stream.proofs.gathering.gather.Given as goal

-- what was read so far, and no fault
abbrev pub invariant-loop-wanted : goal.invariant-loop-wanted
invariant-loop-wanted g l = record {
  read : Gathers (g.S.Source.left l.fn.input) (g.S.Source.left l.input) l.fn.window.octets l.window.octets l.fn.left l.left;
  short : length l.window.octets ≤ max l.wanted 65536;
  room : l.window.room ≤ max l.fn.window.room (l.wanted + 65536);
  calm : g.S.Source.faults l.input ≡ g.S.Source.faults l.fn.input;
}

abbrev pub decreases-loop-wanted : goal.decreases-loop-wanted
decreases-loop-wanted g l = l.wanted - length l.window.octets
