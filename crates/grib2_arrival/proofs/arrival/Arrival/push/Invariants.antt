use Rattle.std.proofs.Common.{ℕ, ◌-◌, ◌≤◌, List, ◌++◌, length, take}
use Rattle.grib_base.specs.declared.profile.Profile.{Profile}
use Rattle.grib2_arrival.specs.Heard.{HeardUnder}
use Rattle.grib2_arrival.proofs.arrival.Arrival.push.Given as goal

-- what was heard so far
abbrev pub invariant-loop-count : goal.invariant-loop-count
invariant-loop-count l = record {
  within : l.count ≤ length l.piece;
  heard : (profile : Profile) (octets : List ℕ) → HeardUnder profile l.fn.self octets → HeardUnder profile l.self (octets ++ take l.count l.piece);
}

abbrev pub decreases-loop-count : goal.decreases-loop-count
decreases-loop-count l = length l.piece - l.count
