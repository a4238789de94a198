use Rattle.std.proofs.Common.{◌≡◌, ◌<◌, ◌≤◌, true, length}
use Rattle.grib_split.specs.Alike.{HeadsFrom, Known}
use Rattle.grib_split.specs.Costs.{header_of}
use Rattle.grib_split.proofs.choosing.go_on.Given as goal

abbrev pub invariant-loop-at : goal.invariant-loop-at
invariant-loop-at l = record {
  size : length l.choices ≡ length l.codes;
  place : l.at < length l.codes;
  less : l.at ≤ l.from;
  known : Known (header_of l.costs) l.costs.reserved l.codes l.at l.slots (record { best = l.best; alike = 64; steady = true });
  heads : HeadsFrom l.costs l.codes l.at l.choices;
}

abbrev pub decreases-loop-at : goal.decreases-loop-at
decreases-loop-at l = l.at
