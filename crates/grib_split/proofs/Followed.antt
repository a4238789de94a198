-- Lengths that follow the choices up to a place.
use Rattle.std.proofs.Common.{◌≡◌, ◌⊎◌, inl, inr, ℕ, ◌+◌, ◌<◌, ◌≤◌, List, [], ◌∷◌, ◌++◌, length, take, refl, ap, sym, ◌∙◌, arith, length-append}
use Rattle.std.specs.Prelude.{slice_index}
use Rattle.std.specs.List.{sum}
use Rattle.std.proofs.Math.ListN.{get_or-append}
use Rattle.std.proofs.Math.Seq.{get_or-append_seam, take-append_seam}
use Rattle.std.proofs.lemmas.List.{take-append-le}
use Rattle.std.proofs.lemmas.List.Sums.{sum_by_push}
use Rattle.grib_split.specs.Least.{Follows}

pub record FollowsTo (choices lengths : List ℕ) (at : ℕ) : Type 0 where
  pub total : sum lengths ≡ at
  pub within : (k : ℕ) → k < length lengths → sum (take k lengths) < length choices
  pub each : (k : ℕ) → k < length lengths → slice_index lengths k ≡ slice_index choices (sum (take k lengths))

pub follows_none : (choices : List ℕ) → FollowsTo choices [] 0
follows_none choices = record { total = refl; within = λ k within. absurd (omega arith); each = λ k within. absurd (omega arith) }

-- the lengths before the last one
front_of : (lengths : List ℕ) (n k : ℕ) → k ≤ length lengths → take k (lengths ++ n ∷ []) ≡ take k lengths
front_of lengths n k within = take-append-le k lengths (n ∷ []) within

whole_front : (lengths : List ℕ) (n k : ℕ) → k ≡ length lengths → take k (lengths ++ n ∷ []) ≡ lengths
whole_front lengths n k e = ap (λ i. take i (lengths ++ n ∷ [])) e ∙ take-append_seam lengths (n ∷ [])

last_or_before : (k n : ℕ) → k < n + 1 → (k < n) ⊎ (k ≡ n)
last_or_before k n within = grind arith

pub follows_more : (choices lengths : List ℕ) (at : ℕ) → at < length choices → FollowsTo choices lengths at
    → FollowsTo choices (lengths ++ slice_index choices at ∷ []) (at + slice_index choices at)
follows_more choices lengths at room f =
    let n = slice_index choices at in
    let size = length-append lengths (n ∷ []) in
    record {
      total = sum_by_push (λ x. x) lengths n ∙ ap (λ s. s + n) f.total;
      within = λ k within. elim (last_or_before k (length lengths) (omega (arith, size))) [
        | inl before ↦
            let e = ap sum (front_of lengths n k (omega arith)) in
            omega (arith, e, f.within k before)
        | inr last ↦
            let e = ap sum (whole_front lengths n k last) in
            omega (arith, e, f.total)
      ];
      each = λ k within. elim (last_or_before k (length lengths) (omega (arith, size))) [
        | inl before ↦
            get_or-append lengths (n ∷ []) 0 k before ∙ (f.each k before ∙ ap (λ i. slice_index choices i) (sym (ap sum (front_of lengths n k (omega arith)))))
        | inr last ↦
            ap (λ i. slice_index (lengths ++ n ∷ []) i) last
            ∙ (get_or-append_seam lengths n [] 0 ∙ ap (λ i. slice_index choices i) (sym (ap sum (whole_front lengths n k last) ∙ f.total)))
      ];
    }

pub follows_all : (choices lengths : List ℕ) (at : ℕ) → length choices ≤ at → at ≤ length choices → FollowsTo choices lengths at → Follows choices lengths
follows_all choices lengths at low high f = record { total = omega (arith, f.total); within = f.within; each = f.each }
