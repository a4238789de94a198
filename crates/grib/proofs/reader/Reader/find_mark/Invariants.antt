use Rattle.std.proofs.Common.{◌≡◌}
use Rattle.grib.specs.Reading.{Keeps, reads_left}
use Rattle.grib.proofs.reader.Reader.find_mark.Given as goal

-- the items that are left are those that were left, and the reader stands at none
abbrev pub invariant-loop-self : goal.invariant-loop-self
invariant-loop-self g l = record {
  keeps : Keeps g.S.Source.left l.fn.self l.self;
  none : l.self.size ≡ 0;
  calm : g.S.Source.faults l.self.source ≡ g.S.Source.faults l.fn.self.source;
}

abbrev pub decreases-loop-self : goal.decreases-loop-self
decreases-loop-self g l = reads_left l.self
