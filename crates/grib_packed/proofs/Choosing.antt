-- The lengths that are found group by group are a chosen grouping.
use Rattle.std.proofs.Common.{◌≡◌, ◌⊎◌, inl, inr, ℕ, zero, suc, ◌+◌, ◌-◌, ◌<◌, ◌≤◌, min, Bool, true, false, cond, nat_lt, List, [], ◌∷◌, length, drop, map, refl, sym, ap, ◌∙◌, subst, arith, length-drop, ltb-true, ltb-false}
use Rattle.std.specs.List.{range_with_len}
use Rattle.grib_base.specs.declared.code.Code.{Code}
use Rattle.grib_packing.specs.Groupings.{Chosen, cost_of}
use Rattle.grib_split.specs.Least.{IsLeast, Best, AreLeastAfter}
use Rattle.grib_split.proofs.Optimal.{chosen_step}
use Rattle.grib_split.proofs.Following.{none_chosen}
use Rattle.grib_packed.specs.Chosen.{cheapest, chosen_within}

-- ---- the first of those that cost least

-- of the lengths from 1 on and below `from`, n costs least, and a smaller one costs more
record BestBelow (cost : ℕ → ℕ) (from n : ℕ) : Type 0 where
  some : 1 ≤ n
  below : n < from
  least : (l : ℕ) → 1 ≤ l → l < from → cost n ≤ cost l
  first : (l : ℕ) → 1 ≤ l → l < n → cost n < cost l

below_or_last : (l from : ℕ) → l < from + 1 → (l < from) ⊎ (l ≡ from)
below_or_last l from within = grind arith

not_above : (cost : ℕ → ℕ) (m from : ℕ) → cost m ≤ cost from → ((l : ℕ) → 1 ≤ l → l < from → cost m ≤ cost l)
    → (l : ℕ) → 1 ≤ l → l < from + 1 → cost m ≤ cost l
not_above cost m from last before l some within = elim (below_or_last l from within) [
  | inl below ↦ before l some below
  | inr is ↦ subst (λ (k : ℕ). cost m ≤ cost k) (sym is) last
]

-- one length more
one_more : (cost : ℕ → ℕ) (from n : ℕ) (b : Bool) → nat_lt (cost from) (cost n) ≡ b → BestBelow cost from n → BestBelow cost (from + 1) (cond b from n)
one_more cost from n true is h =
    let less : cost from < cost n = ltb-true (cost from) (cost n) is in
    record {
      some = omega (arith, h.some, h.below);
      below = omega arith;
      least = not_above cost from from (omega arith) (λ l some below. let more = h.least l some below in omega (arith, less, more));
      first = λ l some below. let more = h.least l some below in omega (arith, less, more);
    }
one_more cost from n false is h =
    let no_less : cost n ≤ cost from = ltb-false (cost from) (cost n) is in
    record {
      some = h.some;
      below = omega (arith, h.below);
      least = not_above cost n from no_less h.least;
      first = h.first;
    }

one_of_two : (b : Bool) (begun : ℕ → List ℕ) (m n : ℕ) → cond b (begun m) (begun n) ≡ begun (cond b m n)
one_of_two true begun m n = refl
one_of_two false begun m n = refl

module _ (header : ℕ) (width : List Code → ℕ) (codes : List Code) (begun : ℕ → List ℕ) where
  abbrev cost : ℕ → ℕ
  cost l = cost_of header width (begun l) codes

  found : (count from n : ℕ) → BestBelow (λ l. cost_of header width (begun l) codes) from n
      → (m : ℕ) × (cheapest header width codes (begun n) (map begun (range_with_len from count)) ≡ begun m)
      × BestBelow (λ l. cost_of header width (begun l) codes) (from + count) m
  found zero from n h =
      let same : from ≡ from + 0 = omega arith in
      (n, refl, subst (λ (k : ℕ). BestBelow cost k n) same h)
  found (suc count) from n h =
      let b = nat_lt (cost from) (cost n) in
      let rest = found count (from + 1) (cond b from n) (one_more cost from n b refl h) in
      let same : from + 1 + count ≡ from + suc count = omega arith in
      let others = map begun (range_with_len (from + 1) count) in (
        rest.0,
        ap (λ ls. cheapest header width codes ls others) (one_of_two b begun from n) ∙ rest.1,
        subst (λ (k : ℕ). BestBelow cost k rest.0) same rest.2,
      )

-- ---- the chosen grouping of what follows each first group

-- the lengths that are tried: those up to 64 that fit
tried : (l n : ℕ) → 1 ≤ n → l ≤ 64 → l ≤ n → l < 2 + (min 64 n - 1)
tried l n some most fits = omega arith

not_tried : (l n : ℕ) → 1 ≤ n → l < 2 + (min 64 n - 1) → (l ≤ 64) × (l ≤ n)
not_tried l n some below = (omega arith, omega arith)

chosen_least : (header : ℕ) (width : List Code → ℕ) (codes : List Code) (lengths : List ℕ) → Chosen header width codes lengths
    → IsLeast header width codes (cost_of header width lengths codes)
chosen_least header width codes lengths c = record { lengths = lengths; grouping = c.grouping; reached = refl; least = c.least }

best_of : (header : ℕ) (width : List Code → ℕ) (codes : List Code) (rest : ℕ → List ℕ) (n : ℕ) → 1 ≤ length codes
    → BestBelow (λ l. cost_of header width (l ∷ rest l) codes) (2 + (min 64 (length codes) - 1)) n
    → Best header width codes (λ l. cost_of header width (rest l) (drop l codes)) n
best_of header width codes rest n some h =
    let within = not_tried n (length codes) some h.below in
    record {
      some = h.some;
      most = within.0;
      fits = within.1;
      least = λ l positive most fits. h.least l positive (tried l (length codes) some most fits);
      first = h.first;
    }

only_one : (cost : ℕ → ℕ) → BestBelow cost 2 1
only_one cost = record {
  some = omega arith;
  below = omega arith;
  least = λ l some below. let one : l ≡ 1 = omega arith in subst (λ (k : ℕ). cost 1 ≤ cost k) (sym one) (omega arith);
  first = λ l some below. absurd (omega arith);
}

pub within_chosen : (groups header : ℕ) (width : List Code → ℕ) (codes : List Code) → length codes ≤ groups
    → Chosen header width codes (chosen_within groups header width codes)
within_chosen zero header width codes few = none_chosen header width codes (omega arith)
within_chosen (suc groups) header width [] few = none_chosen header width [] refl
within_chosen (suc groups) header width (code ∷ codes) few =
    let all = code ∷ codes in
    let rest = λ (l : ℕ). chosen_within groups header width (drop l all) in
    let begun = λ (l : ℕ). l ∷ rest l in
    let f = found header width all begun (min 64 (length all) - 1) 2 1 (only_one (λ l. cost_of header width (begun l) all)) in
    let some : 1 ≤ length all = omega arith in
    let best = best_of header width all rest f.0 some f.2 in
    let later = λ (l : ℕ) (positive : 1 ≤ l). within_chosen groups header width (drop l all) (omega (arith, length-drop l all)) in
    let rests : AreLeastAfter header width all (λ l. cost_of header width (rest l) (drop l all)) =
    λ l positive most fits. chosen_least header width (drop l all) (rest l) (later l positive) in
    subst (λ (ls : List ℕ). Chosen header width all ls) (sym f.1)
    (chosen_step header width all (λ l. cost_of header width (rest l) (drop l all)) f.0 (rest f.0) best rests (later f.0 best.some))
