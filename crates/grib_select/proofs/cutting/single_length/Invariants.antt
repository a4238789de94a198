use Rattle.std.proofs.Common.{◌≡◌, ◌+◌, ◌-◌, ◌*◌, ◌≤◌, length}
use Rattle.grib_base.specs.declared.limits.TheConstants.{MOST_OCTETS}
use Rattle.grib_select.specs.Single.{first_parts}
use Rattle.grib_select.proofs.cutting.single_length.Given as goal

-- the octets of the parts so far
abbrev pub invariant-loop-number : goal.invariant-loop-number
invariant-loop-number l = record {
  sum : l.total ≡ 20 + length (first_parts l.message l.field (l.number - 1));
  bound : l.total ≤ 20 + MOST_OCTETS * (l.number - 1);
}
