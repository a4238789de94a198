-- The bits by the number of low bits: how much they rise from one number to the next never falls.
use Rattle.std.proofs.Common.{◌≡◌, ℕ, zero, suc, ◌+◌, ◌-◌, ◌*◌, ◌/◌, ◌^◌, ◌<◌, ◌≤◌, List, [], ◌∷◌, refl, sym, ap, ◌∙◌, subst, arith}
use Rattle.std.specs.List.{sum_by}
use Rattle.std.proofs.lemmas.Nat.{shr-shr}
use Rattle.std.proofs.lemmas.List.Sums.{sum_by-cons}
use Rattle.grib_coding.specs.Choices.{high_sum}
use Rattle.grib_block_writing.specs.Splits.{split_bits}

-- what the codes take fewer with one low bit more
pub saved : ℕ → List ℕ → ℕ
saved k codes = sum_by (λ code. (code / 2 ^ k + 1) / 2) codes

halved : (code k : ℕ) → code / 2 ^ (k + 1) ≡ code / 2 ^ k / 2
halved code k = sym (shr-shr code k 1)

high_step : (k : ℕ) (codes : List ℕ) → high_sum (k + 1) codes + saved k codes ≡ high_sum k codes
unfolding saved
high_step k [] = refl
high_step k (code ∷ codes) =
    let rest = high_step k codes in
    let one = sum_by-cons (λ c. c / 2 ^ (k + 1)) code codes in
    let two = sum_by-cons (λ c. (c / 2 ^ k + 1) / 2) code codes in
    let three = sum_by-cons (λ c. c / 2 ^ k) code codes in
    omega (arith, rest, one, two, three, halved code k)

pub step : (kept k : ℕ) (codes : List ℕ) → split_bits kept codes (k + 1) + saved k codes ≡ split_bits kept codes k + kept
step kept k codes = omega (arith, high_step k codes)

saved_less : (k : ℕ) (codes : List ℕ) → saved (k + 1) codes ≤ saved k codes
unfolding saved
saved_less k [] = omega arith
saved_less k (code ∷ codes) =
    let rest = saved_less k codes in
    let one = sum_by-cons (λ c. (c / 2 ^ (k + 1) + 1) / 2) code codes in
    let two = sum_by-cons (λ c. (c / 2 ^ k + 1) / 2) code codes in
    omega (arith, rest, one, two, halved code k)

-- bits that do not fall at one number never fall from there on
pub rise : (kept k : ℕ) (codes : List ℕ) (n : ℕ) → saved k codes ≤ kept
    → (split_bits kept codes k ≤ split_bits kept codes (k + n)) × (saved (k + n) codes ≤ kept)
rise kept k codes zero few =
    let same : k + 0 ≡ k = omega arith in
    let P : ℕ → Type 0 = λ j. (split_bits kept codes k ≤ split_bits kept codes j) × (saved j codes ≤ kept) in
    subst P (sym same) (omega arith, few)
rise kept k codes (suc n) few =
    let before = rise kept k codes n few in
    let more : k + suc n ≡ k + n + 1 = omega arith in
    let P : ℕ → Type 0 = λ j. (split_bits kept codes k ≤ split_bits kept codes j) × (saved j codes ≤ kept) in
    let one = step kept (k + n) codes in
    let two = saved_less (k + n) codes in
    subst P (sym more) (omega (arith, before.0, before.1, one), omega (arith, before.1, two))

-- bits that fall at one number have fallen at each before it
pub fall : (kept : ℕ) (codes : List ℕ) (n j : ℕ) → kept < saved (j + n) codes
    → (split_bits kept codes (j + n + 1) < split_bits kept codes j) × (kept < saved j codes)
fall kept codes zero j many =
    let same : j + 0 ≡ j = omega arith in
    let here : kept < saved j codes = let P : ℕ → Type 0 = λ i. kept < saved i codes in subst P same many in
    let one = step kept j codes in
    let P : ℕ → Type 0 = λ i. (split_bits kept codes (i + 1) < split_bits kept codes j) × (kept < saved j codes) in
    subst P (sym same) (omega (arith, one, here), here)
fall kept codes (suc n) j many =
    let next : j + suc n ≡ j + 1 + n = omega arith in
    let P : ℕ → Type 0 = λ i. kept < saved i codes in
    let later = fall kept codes n (j + 1) (subst P next many) in
    let one = step kept j codes in
    let less = saved_less j codes in
    let Q : ℕ → Type 0 = λ i. (split_bits kept codes (i + 1) < split_bits kept codes j) × (kept < saved j codes) in
    subst Q (sym next) (omega (arith, later.0, later.1, one, less), omega (arith, later.1, less))

-- where the next number has no fewer bits, none above it has
pub above : (kept : ℕ) (codes : List ℕ) (k bits : ℕ) → bits ≡ split_bits kept codes k → bits ≤ split_bits kept codes (k + 1)
    → (j : ℕ) → k ≤ j → bits ≤ split_bits kept codes j
above kept codes k bits is next j more =
    let one = step kept k codes in
    let all = rise kept k codes (j - k) (omega (arith, is, one)) in
    let at : k + (j - k) ≡ j = omega arith in
    let P : ℕ → Type 0 = λ i. bits ≤ split_bits kept codes i in
    subst P at (omega (arith, is, all.0))

-- where a number has fewer bits than the one before it, it has fewer than each before
pub below : (kept : ℕ) (codes : List ℕ) (k bits : ℕ) → bits ≡ split_bits kept codes (k + 1) → bits < split_bits kept codes k
    → (j : ℕ) → j ≤ k → bits < split_bits kept codes j
below kept codes k bits is before j less =
    let one = step kept k codes in
    let at : j + (k - j) ≡ k = omega arith in
    let many : kept < saved k codes = omega (arith, is, one) in
    let P : ℕ → Type 0 = λ i. kept < saved i codes in
    let all = fall kept codes (k - j) j (subst P (sym at) many) in
    let Q : ℕ → Type 0 = λ i. split_bits kept codes (i + 1) < split_bits kept codes j in
    let here : split_bits kept codes (k + 1) < split_bits kept codes j = subst Q at all.0 in
    omega (arith, is, here)

pub convex : (kept k : ℕ) (codes : List ℕ)
    → split_bits kept codes (k + 1) + split_bits kept codes (k + 1) ≤ split_bits kept codes k + split_bits kept codes (k + 2)
convex kept k codes =
    let one = step kept k codes in
    let two = step kept (k + 1) codes in
    let same : split_bits kept codes (k + 1 + 1) ≡ split_bits kept codes (k + 2) = ap (split_bits kept codes) (omega arith) in
    omega (arith, one, two, same, saved_less k codes)
