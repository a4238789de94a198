use Rattle.std.proofs.Common.{◌≡◌, ◌+◌, ◌≤◌, length}
use Rattle.grib_group_reading.specs.CodeRuns.{Passed}
use Rattle.grib_complex_reading.specs.Tells.{SteadilyTook}
use Rattle.grib_complex_reading.proofs.runs.keep_steadily.Given as goal

abbrev pub invariant-loop-index : goal.invariant-loop-index
invariant-loop-index g l = record {
  so_far : Passed (SteadilyTook g.K.Keeper.kept l.fn.taker) (g.R.CodeRun.codes l.fn.run) (g.R.CodeRun.codes l.run) l.taker;
  left : length (g.R.CodeRun.codes l.run) + l._index ≡ l._index-end;
  stands : g.R.CodeRun.stands l.run;
  limit : g.R.CodeRun.limit l.run ≡ l.taker.steady.limit;
  room : length (g.R.CodeRun.codes l.run) ≤ g.K.Keeper.room l.taker.keeper;
  steady : length (g.R.CodeRun.codes l.run) ≤ l.taker.steady.left;
}
