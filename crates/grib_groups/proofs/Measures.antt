-- The references and widths of groups, one after another.
use Rattle.std.proofs.Common.{◌≡◌, ℕ, ◌+◌, ◌^◌, ◌<◌, ◌≤◌, Bool, true, false, List, [], ◌∷◌, length, take, drop, get_or, map, refl, sym, All, subst, subst₂, arith, pow_mono, cond, ◌==◌}
use Rattle.std.specs.List.{list_any}
use Rattle.grib_base.specs.declared.code.Code.{Code}
use Rattle.grib_packing.specs.Groupings.{greatest, smallest, present_codes, is_present, is_primary, is_secondary, runs}
use Rattle.grib_packing.specs.Packed.{fields, group_fields, packed_number, reference_of}
use Rattle.grib_codes.specs.Span.{IsBelow}
use Rattle.grib_codes.proofs.Bounds.{width-few}
use Rattle.grib_codes.proofs.Spans.{reference_by, reference_of-by, smallest_at_most, small_run}
use Rattle.grib_groups.specs.declared.measuring.Measure.{Measure}
use Rattle.grib_groups.specs.Encoding.{AreMeasures, IsMeasure, measured_fields}
use Rattle.grib_groups.proofs.Parts.{runs-next}

-- ---- a reference has 32 bits at most

reference_by-few : (p q r : Bool) (least b : ℕ) → least < 2 ^ 32 → b ≤ 32 → reference_by p q r least b < 2 ^ 32
reference_by-few true q r least b small few = small
reference_by-few false true true least b small few = omega arith
reference_by-few false false true least b small few = let power : 2 ^ b ≤ 2 ^ 32 = pow_mono few in omega (arith, power)
reference_by-few false q false least b small few = let power : 2 ^ b ≤ 2 ^ 32 = pow_mono few in omega (arith, power)

pub reference-few : (b : ℕ) (run : List Code) → greatest (present_codes run) < 2 ^ 32 → b ≤ 32 → reference_of b run < 2 ^ 32
reference-few b run small few =
    let numbers = present_codes run in
    let low : smallest numbers < 2 ^ 32 = omega (arith, small, smallest_at_most numbers) in
    let below = reference_by-few (list_any is_present run) (list_any is_primary run) (list_any is_secondary run) (smallest numbers) b low few in
    subst (λ (n : ℕ). n < 2 ^ 32) (sym (reference_of-by b run)) below

-- ---- of the first groups

pub none_known : (k b : ℕ) (groups : List (List Code)) → AreMeasures k b [] groups
none_known k b [] = tt
none_known k b (run ∷ groups) = tt

first_known : (k b : ℕ) (known : List Measure) (run : List Code) (later : List (List Code)) → AreMeasures k b known (run ∷ later) → AreMeasures k b known (run ∷ [])
first_known k b [] run later h = tt
first_known k b (measure ∷ known) run later h = (h.0, tt)

later_known : (k b : ℕ) (known : List Measure) (run : List Code) (later : List (List Code)) → AreMeasures k b known (run ∷ later) → AreMeasures k b (drop 1 known) later
later_known k b [] run later h = none_known k b later
later_known k b (measure ∷ known) run later h = h.1

pub known-by : (k b j c : ℕ) (known : List Measure) (groups : List (List Code)) → j ≡ k → c ≡ b → AreMeasures k b known groups → AreMeasures j c known groups
known-by k b j c known groups ej ec are = subst₂ (λ (m n : ℕ). AreMeasures m n known groups) (sym ej) (sym ec) are

module _ (k b : ℕ) (lengths : List ℕ) (i : ℕ) (within : i < length lengths) where
  pub known-here : (known : List Measure) (rest run : List Code) → run ≡ take (get_or lengths i 0) rest → AreMeasures k b known (runs (drop i lengths) rest)
      → AreMeasures k b known (run ∷ [])
  known-here known rest run is_run are =
      let next = subst (AreMeasures k b known) (runs-next lengths i within rest) are in
      subst (λ (xs : List Code). AreMeasures k b known (xs ∷ [])) (sym is_run) (first_known k b known _ _ next)

  pub known-next : (known told : List Measure) (rest after : List Code) → told ≡ drop 1 known → after ≡ drop (get_or lengths i 0) rest
      → AreMeasures k b known (runs (drop i lengths) rest) → AreMeasures k b told (runs (drop (i + 1) lengths) after)
  known-next known told rest after is_told is_after are =
      let next = later_known k b known _ _ (subst (AreMeasures k b known) (runs-next lengths i within rest) are) in
      let later = subst (λ (xs : List Code). AreMeasures k b (drop 1 known) (runs (drop (i + 1) lengths) xs)) (sym is_after) next in
      subst (λ (ms : List Measure). AreMeasures k b ms (runs (drop (i + 1) lengths) after)) (sym is_told) later

  -- with that of the next group before those of the groups after it
  pub known-more : (measure : Measure) (known : List Measure) (rest run after : List Code) → run ≡ take (get_or lengths i 0) rest → after ≡ drop (get_or lengths i 0) rest
      → IsMeasure k b measure run → AreMeasures k b known (runs (drop (i + 1) lengths) after) → AreMeasures k b (measure ∷ known) (runs (drop i lengths) rest)
  known-more measure known rest run after is_run is_after is are =
      let here = subst (IsMeasure k b measure) is_run is in
      let later = subst (λ (xs : List Code). AreMeasures k b known (runs (drop (i + 1) lengths) xs)) is_after are in
      subst (AreMeasures k b (measure ∷ known)) (sym (runs-next lengths i within rest)) (here, later)

-- ---- the packed numbers of a group

pub measured-is : (k b : ℕ) (measure : Measure) (run : List Code) → IsMeasure k b measure run → group_fields k b run ≡ measured_fields measure run
measured-is k b measure run h =
    let w = measure.width in
    let r = measure.reference in
    subst (λ (x : ℕ). cond (x == 0) [] (fields x (map (packed_number x (reference_of b run)) run)) ≡ measured_fields measure run) h.width
    (subst (λ (x : ℕ). cond (w == 0) [] (fields w (map (packed_number w x) run)) ≡ measured_fields measure run) h.reference refl)

pub narrow : (k b : ℕ) (measure : Measure) (run : List Code) → IsMeasure k b measure run → k ≤ 2 → All (IsBelow k) run → measure.width ≤ 32
narrow k b measure run h few below = omega (arith, h.width, width-few k run (small_run k run few below))
