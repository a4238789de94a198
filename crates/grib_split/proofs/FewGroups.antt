-- Of codes that take no bits, the fewest groups are chosen.
use Rattle.std.proofs.Common.{◌≡◌, ◌⊎◌, inl, inr, ℕ, zero, suc, ◌+◌, ◌-◌, ◌*◌, ◌/◌, ◌%◌, ◌<◌, ◌≤◌, List, [], ◌∷◌, length, take, drop, replicate, All, ap, sym, ◌∙◌, subst, arith, drop-drop}
use Rattle.std.specs.Prelude.{slice_index}
use Rattle.std.specs.List.{sum}
use Rattle.std.proofs.Math.Nat.{mul-suc, mul-le-mul_left}
use Rattle.std.proofs.lemmas.Bool.{cases_lt}
use Rattle.std.proofs.lemmas.List.{get_or_past, length-replicate}
use Rattle.std.proofs.lemmas.List.Elements.{All-head, All-tail, All-cons, All-replicate}
use Rattle.grib_base.specs.declared.code.Code.{Code}
use Rattle.grib_packing.specs.Groupings.{IsGrouping, cost_of, Chosen}
use Rattle.grib_split.specs.Fewest.{TakesNone, fewest}
use Rattle.grib_split.proofs.Optimal.{Allowed, sum-cons}

-- ---- the cost is that of the headers

takes_none-drop : (width : List Code → ℕ) (codes : List Code) (n : ℕ) → TakesNone width codes → TakesNone width (drop n codes)
takes_none-drop width codes n none from m = ap (λ (cs : List Code). width (take m cs)) (drop-drop from n codes) ∙ none (n + from) m

headers_alone : (header : ℕ) (width : List Code → ℕ) (lengths : List ℕ) (codes : List Code) → TakesNone width codes → cost_of header width lengths codes ≡ header * length lengths
headers_alone header width [] codes none = omega arith
headers_alone header width (n ∷ ns) codes none =
    let here : width (take n codes) ≡ 0 = none 0 n in
    let rest = headers_alone header width ns (drop n codes) (takes_none-drop width codes n none) in
    rw here (omega (arith, rest, mul-suc header (length ns)))

-- ---- how far lengths reach

most_of : (ls : List ℕ) → All Allowed ls → sum ls ≤ 64 * length ls
most_of [] each = omega arith
most_of (l ∷ ls) each =
    let head = All-head Allowed l ls each in
    omega (arith, sum-cons l ls, head.1, most_of ls (All-tail Allowed l ls each))

reach : (ls : List ℕ) → All Allowed ls → (k : ℕ) → k < length ls → sum ls + 64 * suc k ≤ sum (take k ls) + slice_index ls k + 64 * length ls
reach [] each k within = absurd (omega arith)
reach (l ∷ ls) each zero within = omega (arith, sum-cons l ls, most_of ls (All-tail Allowed l ls each))
reach (l ∷ ls) each (suc k) within =
    omega (arith, sum-cons l ls, sum-cons l (take k ls), reach ls (All-tail Allowed l ls each) k (omega arith))

sum-full : (m : ℕ) → sum (replicate m 64) ≡ 64 * m
sum-full zero = omega arith
sum-full (suc m) = omega (arith, sum-cons 64 (replicate m 64), sum-full m)

full : (m k : ℕ) → k < m → sum (take k (replicate m 64)) + slice_index (replicate m 64) k ≡ 64 * suc k
full zero k within = absurd (omega arith)
full (suc m) zero within = omega arith
full (suc m) (suc k) within = omega (arith, sum-cons 64 (take k (replicate m 64)), full m k (omega arith))

-- ---- the fewest groups

module _ (n : ℕ) (some : 1 ≤ n) where
  length-fewest : length (fewest n) ≡ suc ((n - 1) / 64)
  length-fewest = omega (arith, length-replicate {A = ℕ} ((n - 1) / 64) 64)

  fewest_reach : (k : ℕ) → k < length (fewest n) → sum (take k (fewest n)) + slice_index (fewest n) k + 64 * length (fewest n) ≡ n + 64 * suc k
  fewest_reach zero within = omega (arith, length-fewest)
  fewest_reach (suc k) within =
      let m = (n - 1) / 64 in
      omega (arith, length-fewest, sum-cons ((n - 1) % 64 + 1) (take k (replicate m 64)), full m k (omega (arith, length-fewest)))

  fewest_grouping : IsGrouping n (fewest n)
  fewest_grouping = record {
    each = All-cons Allowed ((n - 1) % 64 + 1) (replicate ((n - 1) / 64) 64) (omega arith, omega arith) (All-replicate Allowed ((n - 1) / 64) 64 (omega arith, omega arith));
    total = omega (arith, sum-cons ((n - 1) % 64 + 1) (replicate ((n - 1) / 64) 64), sum-full ((n - 1) / 64));
  }

  -- no grouping has fewer
  none_fewer : (other : List ℕ) → IsGrouping n other → length (fewest n) ≤ length other
  none_fewer other g = omega (arith, length-fewest, g.total, most_of other g.each)

  -- and where another has as few, the first length that differs is greater
  first_of_few : (other : List ℕ) → IsGrouping n other → length other ≤ length (fewest n) → (k : ℕ) → take k (fewest n) ≡ take k other
      → slice_index (fewest n) k ≤ slice_index other k
  first_of_few other g few k same = go (cases_lt k (length (fewest n))) where
    go : (k < length (fewest n)) ⊎ (length (fewest n) ≤ k) → slice_index (fewest n) k ≤ slice_index other k
    go (inl within) =
        omega (arith, fewest_reach k within, ap sum same, none_fewer other g, g.total, reach other g.each k (omega (arith, within, none_fewer other g)))
    go (inr past) = omega (arith, get_or_past (fewest n) k 0 past)

as_few : (header l m : ℕ) → 1 ≤ header → header * l ≡ header * m → l ≤ m
as_few header l m some same = go (cases_lt m l) where
  go : (m < l) ⊎ (l ≤ m) → l ≤ m
  go (inl more) = absurd (let at_least = mul-le-mul_left header more in omega (arith, at_least, mul-suc header m, same))
  go (inr few) = few

pub fewest_chosen : (header : ℕ) (width : List Code → ℕ) (codes : List Code) (n : ℕ) → length codes ≡ n → 1 ≤ n → 1 ≤ header → TakesNone width codes
    → Chosen header width codes (fewest n)
fewest_chosen header width codes n long some has none =
    let ours = headers_alone header width (fewest n) codes none in
    let P : ℕ → Type 0 = λ m. IsGrouping m (fewest n) in
    let at_n = λ (other : List ℕ) (g : IsGrouping (length codes) other). (let Q : ℕ → Type 0 = λ m. IsGrouping m other in subst Q long g) in
    record {
      grouping = subst P (sym long) (fewest_grouping n some);
      least = λ other g.
          omega (arith, ours, headers_alone header width other codes none, mul-le-mul_left header (none_fewer n some other (at_n other g)));
      first = λ other g same k e.
          let few = as_few header (length other) (length (fewest n)) has (sym (headers_alone header width other codes none) ∙ same ∙ ours) in
          first_of_few n some other (at_n other g) few k e;
    }
