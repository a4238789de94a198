use Rattle.std.proofs.Common.{◌≡◌, ◌-◌, ◌++◌, take}
use Rattle.grib_bits.specs.Encoding.{octets_of}
use Rattle.grib_select.specs.Single.{first_parts}
use Rattle.grib_select.proofs.cutting.single.Given as goal

-- Section 0 and the parts so far
abbrev pub invariant-loop-number : goal.invariant-loop-number
invariant-loop-number l = l.out.items ≡ take 8 l.message ++ (octets_of 8 l.total ++ first_parts l.message l.field (l.number - 1))
