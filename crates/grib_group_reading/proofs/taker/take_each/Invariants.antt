use Rattle.std.proofs.Common.{◌≡◌, ◌+◌, length}
use Rattle.grib_group_reading.specs.CodeRuns.{Passed}
use Rattle.grib_group_reading.proofs.taker.take_each.Given as goal

abbrev pub invariant-loop-index : goal.invariant-loop-index
invariant-loop-index g l = record {
  so_far : Passed (g.T.Taker.took l.fn.taker) (g.R.CodeRun.codes l.fn.run) (g.R.CodeRun.codes l.run) l.taker;
  left : length (g.R.CodeRun.codes l.run) + l._index ≡ l._index-end;
  stands : g.R.CodeRun.stands l.run;
  room : g.T.Taker.room l.taker (length (g.R.CodeRun.codes l.run));
  limit : g.R.CodeRun.limit l.run ≡ g.R.CodeRun.limit l.fn.run;
}
