use Rattle.std.proofs.Common.{◌≤◌, drop}
use Rattle.grib_simple.specs.Survey.{Surveys}
use Rattle.grib_simple.proofs.survey.Survey.of_each.Given as goal

abbrev pub invariant-loop-index : goal.invariant-loop-index
invariant-loop-index l = record {
  seen : Surveys l.most l.survey l.index (drop l.index l.points) l.points;
  few : l.survey.present ≤ l.index;
}
