use Rattle.std.proofs.Common.{◌≡◌, ◌-◌, ◌≤◌}
use Rattle.grib_complex_reading.specs.Same.{StaysWithin, after_same}
use Rattle.grib_complex_reading.proofs.running.Running.push_same.Given as goal

abbrev pub invariant-loop-done : goal.invariant-loop-done
invariant-loop-done l = record {
  most : l.done ≤ l.count;
  after : l.self ≡ after_same l.fn.self l.code l.done;
  within : StaysWithin l.fn.self l.code l.done;
}

abbrev pub decreases-loop-done : goal.decreases-loop-done
decreases-loop-done l = l.count - l.done
