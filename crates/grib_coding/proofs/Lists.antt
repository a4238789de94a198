-- Lists of codes, and the one list of numbers that they tell.
use Rattle.std.proofs.Common.{◌≡◌, ℕ, ◌≤◌, List, [], ◌∷◌, refl, ap₂, subst}
use Rattle.std.specs.List.{All}
use Rattle.std.proofs.lemmas.List.Elements.{All-cons, All-nil, All-head, All-tail}
use Rattle.grib_coding.specs.Mapped.{mapped, codes_after, HaveCodes}
use Rattle.grib_coding.proofs.Folds.{mapped-within, once, each}

pub some : (most before : ℕ) (codes : List ℕ) → before ≤ most → All (λ code. code ≤ most) codes
    → (numbers : List ℕ) × HaveCodes most before codes numbers
some most before [] b all = ([], record { within = All-nil (λ number. number ≤ most); told = refl })
some most before (code ∷ codes) b all =
    let (number, within, is) = each most before code b (All-head (λ c. c ≤ most) code codes all) in
    let (numbers, rest) = some most number codes within (All-tail (λ c. c ≤ most) code codes all) in (
      number ∷ numbers,
      record {
        within = All-cons (λ n. n ≤ most) number numbers within rest.within;
        told = ap₂ (λ c cs. c ∷ cs) is rest.told;
      },
    )

pub tells_within : (most before : ℕ) (codes numbers : List ℕ) → before ≤ most → All (λ number. number ≤ most) numbers
    → codes_after most before numbers ≡ codes → All (λ code. code ≤ most) codes
tells_within most before codes [] b all told = let P : List ℕ → Type 0 = All (λ c. c ≤ most) in subst P told (All-nil (λ c. c ≤ most))
tells_within most before codes (number ∷ numbers) b all told =
    let P : List ℕ → Type 0 = All (λ c. c ≤ most) in
    let here : number ≤ most = All-head (λ n. n ≤ most) number numbers all in
    subst P told (All-cons (λ c. c ≤ most) (mapped most before number) (codes_after most number numbers)
    (mapped-within most before number b here)
    (tells_within most number (codes_after most number numbers) numbers here (All-tail (λ n. n ≤ most) number numbers all) refl))

pub only : (most before : ℕ) (one other : List ℕ) → before ≤ most → All (λ n. n ≤ most) one → All (λ n. n ≤ most) other
    → codes_after most before one ≡ codes_after most before other → one ≡ other
only most before [] [] b all all' same = refl
only most before [] (y ∷ ys) b all all' same = cc
only most before (x ∷ xs) [] b all all' same = cc
only most before (x ∷ xs) (y ∷ ys) b all all' same =
    let x_within : x ≤ most = All-head (λ n. n ≤ most) x xs all in
    let y_within : y ≤ most = All-head (λ n. n ≤ most) y ys all' in
    let first : mapped most before x ≡ mapped most before y = cc in
    let here : x ≡ y = once most before x y b x_within y_within first in
    let later : codes_after most x xs ≡ codes_after most x ys = cc in
    ap₂ (λ n ns. n ∷ ns) here (only most x xs ys x_within (All-tail (λ n. n ≤ most) x xs all) (All-tail (λ n. n ≤ most) y ys all') later)
