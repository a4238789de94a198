-- Lemmas on runs of a mask, for those who follow it.
use Rattle.std.proofs.Common.{◌≡◌, ℕ, zero, suc, ◌+◌, Bool, true, false, cond, List, [], ◌∷◌, ◌++◌, length, replicate, refl, ap, ◌∙◌, arith}
use Rattle.std.proofs.lemmas.List.Sums.{sum_by-cons, sum_by-append, count_by-le-length}
use Rattle.grib_bitmap.specs.Mask.{present_count}

pub present_count-append : (xs ys : List Bool) → present_count (xs ++ ys) ≡ present_count xs + present_count ys
present_count-append xs ys = sum_by-append (λ (b : Bool). cond b 1 0) xs ys

pub present_count-cons : (x : Bool) (xs : List Bool) → present_count (x ∷ xs) ≡ cond x 1 0 + present_count xs
present_count-cons x xs = sum_by-cons (λ (b : Bool). cond b 1 0) x xs

pub present_count-replicate : (n : ℕ) (b : Bool) → present_count (replicate n b) ≡ cond b n 0
present_count-replicate zero true = refl
present_count-replicate zero false = refl
present_count-replicate (suc n) true = omega (arith, present_count-cons true (replicate n true), present_count-replicate n true)
present_count-replicate (suc n) false = omega (arith, present_count-cons false (replicate n false), present_count-replicate n false)

pub present_count-run : (n : ℕ) (b : Bool) (rest : List Bool) → present_count (replicate n b ++ rest) ≡ cond b n 0 + present_count rest
present_count-run n b rest = present_count-append (replicate n b) rest ∙ ap (λ (k : ℕ). k + present_count rest) (present_count-replicate n b)

-- a mask that leaves out nothing
pub all_present : (mask : List Bool) → present_count mask ≡ length mask → mask ≡ replicate (length mask) true
all_present [] e = refl
all_present (true ∷ mask) e = ap (λ (xs : List Bool). true ∷ xs) (all_present mask (omega (arith, present_count-cons true mask)))
all_present (false ∷ mask) e = absurd (omega (arith, present_count-cons false mask, count_by-le-length (λ (b : Bool). b) mask))
