use Rattle.std.proofs.Common.{◌≡◌, ◌↔◌, drop}
use Rattle.grib_same.specs.Wholes.{number_of}
use Rattle.grib_same.proofs.digits.are_same.Given as goal

abbrev pub invariant-loop-i : goal.invariant-loop-i
invariant-loop-i l =
    (number_of l.few l.few_top ≡ number_of l.many l.many_top) ↔ (number_of (drop l.i l.few) l.few_top ≡ number_of (drop l.i l.many) l.many_top)
