-- The list of rows stands after it is moved as it did before.
use Rattle.std.proofs.Common.{◌≡◌, ℕ, ◌+◌, ◌-◌, ◌*◌, ◌<◌, ◌≤◌, List, ◌++◌, length, take, drop, sym, ap, ap₂, ◌∙◌, arith, take-take}
use Rattle.std.proofs.Math.Seq.{drop-append-add}
use Rattle.std.proofs.lemmas.List.{drop-take, drop-drop}
use Rattle.grib_bits.specs.Octets.{num_on}
use Rattle.grib_bits.specs.Listed.{number_at, numbers_at}
use Rattle.grib_bits.proofs.Listed.{ends_within}
use Rattle.grib_migrate_law.proofs.FirstBits.{map_same}

-- a number of two octets, by what stands from its place on
number_from : (s : List ℕ) (first k : ℕ) → 1 ≤ first → number_at s first 2 k ≡ num_on 0 (take 2 (drop (first - 1 + k * 2) s))
number_from s first k low =
    let two : first + k * 2 + 2 - 1 + 1 - (first + k * 2) ≡ 2 = omega arith in
    let place : first + k * 2 - 1 ≡ first - 1 + k * 2 = omega arith in
    ap₂ (λ (i j : ℕ). num_on 0 (take i (drop j s))) two place

module _ (front s : List ℕ) (first at count : ℕ) (long : first ≡ length front + 1) where
  moved : (k : ℕ) → k < count → take 2 (drop (first - 1 + k * 2) (front ++ take (2 * count) (drop at s))) ≡ take 2 (drop (at + k * 2) s)
  moved k below =
      let rows = take (2 * count) (drop at s) in
      let ends = ends_within k count 2 below in
      let m = 2 * count - k * 2 in
      let all : k * 2 + m ≡ 2 * count = omega arith in
      let place : first - 1 + k * 2 ≡ length front + k * 2 = omega arith in
      let rest : drop (k * 2) rows ≡ take m (drop (k * 2) (drop at s)) =
      ap (λ (j : ℕ). drop (k * 2) (take j (drop at s))) (sym all) ∙ drop-take (k * 2) m (drop at s) in
      ap (λ (j : ℕ). take 2 (drop j (front ++ rows))) place ∙ ap (take 2) (drop-append-add front rows (k * 2)) ∙ ap (take 2) rest
      ∙ take-take 2 m (drop (k * 2) (drop at s)) (omega arith) ∙ ap (take 2) (drop-drop (k * 2) at s)

  -- numbers of two octets that are moved behind others
  pub numbers_moved : numbers_at (front ++ take (2 * count) (drop at s)) first 2 count ≡ numbers_at s (at + 1) 2 count
  numbers_moved =
      let w = front ++ take (2 * count) (drop at s) in
      map_same (number_at w first 2) (number_at s (at + 1) 2) 0 count (λ k low high. same k (omega arith))
    where
      same : (k : ℕ) → k < count → number_at (front ++ take (2 * count) (drop at s)) first 2 k ≡ number_at s (at + 1) 2 k
      same k below =
          let place : at + 1 - 1 + k * 2 ≡ at + k * 2 = omega arith in
          number_from (front ++ take (2 * count) (drop at s)) first k (omega arith) ∙ ap (num_on 0) (moved k below)
          ∙ sym (number_from s (at + 1) k (omega arith) ∙ ap (λ (j : ℕ). num_on 0 (take 2 (drop j s))) place)
