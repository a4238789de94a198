-- A run is no narrower than a part of it.
use Rattle.std.proofs.Common.{ℕ, ◌≤◌, List, take, drop, All, arith}
use Rattle.std.specs.List.{list_any}
use Rattle.std.proofs.lemmas.List.Elements.{All-take, All-drop}
use Rattle.grib_base.specs.declared.code.Code.{Code}
use Rattle.grib_packing.specs.Groupings.{width_of, greatest, smallest, present_codes, is_present, is_primary, is_secondary}
use Rattle.grib_codes.specs.Span.{IsTold}
use Rattle.grib_codes.proofs.Bounds.{IsWithin, within_all, all_below, width-within, primary_reserved}
use Rattle.grib_codes.proofs.Spans.{width_of-by, small_run}

-- codes within the bounds of a run
abbrev InBounds : List Code → Code → Type 0
InBounds run = IsWithin (smallest (present_codes run)) (greatest (present_codes run)) (list_any is_present run) (list_any is_primary run) (list_any is_secondary run)

narrower_in : (k : ℕ) (run part : List Code) → k ≤ 2 → All (IsTold k) run → All (InBounds run) part → width_of k part ≤ width_of k run
narrower_in k run part few told all =
    let within = width-within k _ _ _ _ _ part (small_run k run few (all_below k run told)) (λ primary secondary. primary_reserved k run told primary) all in
    omega (arith, within, width_of-by k run)

pub narrower_front : (k n : ℕ) (run : List Code) → k ≤ 2 → All (IsTold k) run → width_of k (take n run) ≤ width_of k run
narrower_front k n run few told = narrower_in k run (take n run) few told (All-take (InBounds run) n run (within_all run))

pub narrower_back : (k n : ℕ) (run : List Code) → k ≤ 2 → All (IsTold k) run → width_of k (drop n run) ≤ width_of k run
narrower_back k n run few told = narrower_in k run (drop n run) few told (All-drop (InBounds run) n run (within_all run))
