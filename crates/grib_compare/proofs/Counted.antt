-- The lines of a message and the count of its fields that differ, one field after another.
use Rattle.std.proofs.Common.{◌≡◌, ℕ, zero, suc, ◌+◌, ◌<◌, Option, Some, None, List, ◌++◌, refl, sym, ap, ◌∙◌, arith}
use Rattle.grib_base.specs.Rules.{first_among}
use Rattle.grib_reasons.specs.declared.cause.Cause.{Cause}
use Rattle.grib_command.specs.Command.{texts_from}
use Rattle.grib_command.proofs.Passing.{texts_more}
use Rattle.grib_report.proofs.Causes.{causes_at}
use Rattle.grib_compare.specs.declared.stop.CompareStop.{CompareStop}
use Rattle.grib_compare.specs.declared.stop.CompareStop.TheVariants.{Kept, Memory}
use Rattle.grib_compare.specs.Command.{differing_from}
use Rattle.grib_compare.specs.Seen.{StopsBy}

-- one field more
pub counted_more : (count : ℕ → ℕ) (n i : ℕ) → differing_from count (n + 1) i ≡ differing_from count n i + count (i + n)
counted_more count zero i = let e : i ≡ i + 0 = omega arith in let here : differing_from count (0 + 1) i ≡ count i + 0 = refl in omega (arith, ap count e, here)
counted_more count (suc n) i =
    let later = counted_more count n (i + 1) in
    let e : (i + 1) + n ≡ i + suc n = omega arith in
    let f : suc n + 1 ≡ suc (n + 1) = omega arith in
    let here : differing_from count (suc n + 1) i ≡ count i + differing_from count (n + 1) (i + 1) = ap (λ k. differing_from count k i) f in
    omega (arith, later, ap count e, here)

pub count_more : (count : ℕ → ℕ) (k old one now : ℕ) → old ≡ differing_from count k 1 → one ≡ count (k + 1) → now ≡ old + one → now ≡ differing_from count (k + 1) 1
count_more count k old one now before here is =
    let e : k + 1 ≡ 1 + k = omega arith in
    omega (arith, before, here, is, counted_more count k 1, ap count e)

pub text_more : (text : ℕ → List ℕ) (k : ℕ) (old line now : List ℕ) → old ≡ texts_from text k 1 → line ≡ text (k + 1) → now ≡ old ++ line → now ≡ texts_from text (k + 1) 1
text_more text k old line now before here is =
    let e : k + 1 ≡ 1 + k = omega arith in
    is ∙ ap (λ t. t ++ line) before ∙ ap (λ t. texts_from text k 1 ++ t) (here ∙ ap text e) ∙ sym (texts_more text k 1)

-- what stops at a field stops at the message
pub stops_at : (cause : ℕ → Option Cause) (n k : ℕ) (stop : CompareStop) → k < n → ((j : ℕ) → j < k → cause (1 + j) ≡ None) → StopsBy (cause (k + 1)) stop
    → StopsBy (first_among cause n 1) stop
stops_at cause n k (Kept found) within none by = let e : 1 + k ≡ k + 1 = omega arith in causes_at cause n 1 k (Some found) within none (ap cause e ∙ by) refl
stops_at cause n k Memory within none by = tt
