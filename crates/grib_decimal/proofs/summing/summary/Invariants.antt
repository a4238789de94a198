use Rattle.grib_decimal.specs.Summary.{IsTally}
use Rattle.grib_decimal.proofs.summing.summary.Given as goal

abbrev pub invariant-loop-index : goal.invariant-loop-index
invariant-loop-index l = IsTally l.points l.index l.tally
