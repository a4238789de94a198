use Rattle.std.proofs.Common.{◌≡◌, ◌+◌, ◌≤◌, length}
use Rattle.grib_group_reading.specs.CodeRuns.{Passed}
use Rattle.grib_complex_reading.proofs.AtOnce.{PlainKept}
use Rattle.grib_complex_reading.proofs.runs.keep_plainly.Given as goal

abbrev pub invariant-loop-index : goal.invariant-loop-index
invariant-loop-index g l = record {
  so_far : Passed (PlainKept g.K.Keeper.kept l.fn.keeper) (g.R.CodeRun.codes l.fn.run) (g.R.CodeRun.codes l.run) l.keeper;
  left : length (g.R.CodeRun.codes l.run) + l._index ≡ l._index-end;
  stands : g.R.CodeRun.stands l.run;
  limit : g.R.CodeRun.limit l.run ≡ g.R.CodeRun.limit l.fn.run;
  room : length (g.R.CodeRun.codes l.run) ≤ g.K.Keeper.room l.keeper;
}
