-- The item that a block was chosen to be.
use Rattle.std.proofs.Common.{lit<, inl, inr, ◌≡◌, ℕ, zero, suc, ◌+◌, ◌-◌, ◌*◌, ◌/◌, ◌%◌, ◌^◌, ◌<◌, ◌≤◌, Bool, true, false, cond, nat_lt, List, [], ◌∷◌, map, take, drop, length, Option, Some, None, refl, sym, ap, ◌∙◌, subst, arith, div-one}
use Rattle.grib_coding.specs.Reading.{coded_of}
use Rattle.std.specs.List.{All, range_with_len}
use Rattle.std.proofs.Math.Nat.{mul-le-mul_left, mul-le-mul_right}
use Rattle.std.proofs.lemmas.Bool.{cases_lt, lt-ltb, le-ltb}
use Rattle.std.proofs.lemmas.List.Elements.{All-cons, All-nil}
use Rattle.std.proofs.lemmas.List.Sums.{sum_by-cons}
use Rattle.std.proofs.lemmas.List.{take_rest}
use mir.Val.{bool_byte}
use Rattle.std.specs.Option.{is_some}
use Rattle.grib_coding.specs.declared.coding.Coding.{Coding}
use Rattle.grib_coding.specs.Coding.{identifier_width}
use Rattle.grib_coding.specs.declared.choice.Choice.{Choice}
use Rattle.grib_coding.specs.declared.choice.Choice.TheVariants.{Plain, Second, Split}
use Rattle.grib_coding.specs.Choices.{bits_as, fewest_of, high_sum, pair_sum, chosen, IsOption}
use Rattle.grib_coding.specs.Items.{Item, Plain as AsPlain, Second as AsSecond, Split as AsSplit}
use Rattle.grib_coding.specs.Written.{coded_bits, chosen_item, item_as, skip_of, pair_numbers, highs, lows}
use Rattle.grib_block_writing.proofs.Chosen.{chosen-least}
use Rattle.grib_block_writing.proofs.PairSums.{pair_sum-more}

-- one of two choices
either : (P : Choice → Type 0) (bits : Choice → ℕ) (best choice : Choice) → P best → P choice → P (cond (nat_lt (bits choice) (bits best)) choice best)
either P bits best choice p q = elim (cases_lt (bits choice) (bits best)) [
  | inl less ↦ rw (lt-ltb (bits choice) (bits best) less) q
  | inr more ↦ rw (le-ltb (bits choice) (bits best) more) p
]

-- the fewest bits are those of one of all
among : (P : Choice → Type 0) (bits : Choice → ℕ) (best : Choice) (n low : ℕ) → P best
    → ((k : ℕ) → low ≤ k → k < low + n → P (Split k)) → P (fewest_of bits best (map Split (range_with_len low n)))
among P bits best zero low p each = p
among P bits best (suc n) low p each =
    among P bits (cond (nat_lt (bits (Split low)) (bits best)) (Split low) best) n (low + 1)
    (either P bits best (Split low) p (each low (omega arith) (omega arith)))
    (λ k m l. each k (omega arith) (omega arith))

pub chosen-option : (c : Coding) (skip : ℕ) (codes : List ℕ) → IsOption c (chosen c skip codes)
chosen-option c skip codes =
    let B = bits_as c skip codes in
    among (IsOption c) B (cond (nat_lt (B Second) (B Plain)) Second Plain) (2 ^ identifier_width c - 2) 0
    (either (IsOption c) B Plain Second tt tt) (λ k m l. omega (arith, l))

-- each code is at most the sum of all
pub within_sum : (codes : List ℕ) (n : ℕ) → high_sum 0 codes < n → All (λ code. code < n) codes
within_sum [] n less = All-nil (λ code. code < n)
within_sum (code ∷ codes) n less =
    let cut = sum_by-cons (λ c. c / 2 ^ 0) code codes in
    All-cons (λ c. c < n) code codes (omega (arith, less, cut)) (within_sum codes n (omega (arith, less, cut)))

-- codes that are told in pairs are small
pub pairs_small : (c : Coding) (skip : ℕ) (codes : List ℕ) → c.block ≤ 64 → c.bits ≤ 32 → length codes % 2 ≡ 0 → chosen c skip codes ≡ Second
    → All (λ code. code < 2 ^ 15) codes
pairs_small c skip codes block bits even is =
    let least = chosen-least c skip codes Plain tt in
    let as_pairs : bits_as c skip codes (chosen c skip codes) ≡ bits_as c skip codes Second = ap (bits_as c skip codes) is in
    let kept : (c.block - skip) * c.bits ≤ 64 * c.bits = mul-le-mul_right c.bits (omega (arith, block)) in
    let sum = pair_sum-more codes even in
    within_sum codes (2 ^ 15) (omega (arith, least, as_pairs, kept, sum, bits))

pub second_few : (c : Coding) (skip : ℕ) (codes : List ℕ) → c.block ≤ 64 → c.bits ≤ 32 → length codes % 2 ≡ 0 → chosen c skip codes ≡ Second
    → high_sum 0 codes < 2 ^ 16
second_few c skip codes block bits even is =
    let least = chosen-least c skip codes Plain tt in
    let as_pairs : bits_as c skip codes (chosen c skip codes) ≡ bits_as c skip codes Second = ap (bits_as c skip codes) is in
    let kept : (c.block - skip) * c.bits ≤ 64 * c.bits = mul-le-mul_right c.bits (omega (arith, block)) in
    let sum = pair_sum-more codes even in
    omega (arith, least, as_pairs, kept, sum, bits)

-- ---- the item that a choice makes

pub skip_is : (reference : Option ℕ) (skip : ℕ) (some : Bool) → skip ≡ bool_byte some → some ≡ is_some reference → skip ≡ skip_of reference
skip_is None skip some is told = is ∙ ap bool_byte told
skip_is (Some number) skip some is told = is ∙ ap bool_byte told

pub chosen-item : (c : Coding) (reference : Option ℕ) (skip : ℕ) (codes : List ℕ) (choice : Choice) → skip ≡ skip_of reference
    → chosen c skip codes ≡ choice → item_as choice skip codes ≡ chosen_item c reference codes
chosen-item c reference skip codes choice is chose =
    ap (λ (h : Choice). item_as h skip codes) (sym chose) ∙ ap (λ (n : ℕ). item_as (chosen c n codes) n codes) is

pub plain_item : (c : Coding) (reference : Option ℕ) (skip : ℕ) (codes : List ℕ) → skip ≡ skip_of reference
    → chosen c skip codes ≡ Plain
    → coded_bits c (coded_of reference (AsPlain (take (length codes - skip) (drop skip codes)))) ≡ coded_bits c (coded_of reference (chosen_item c reference codes))
plain_item c reference skip codes is chose =
    ap (λ (xs : List ℕ). coded_bits c (coded_of reference (AsPlain xs))) (take_rest codes skip)
    ∙ ap (λ (i : Item). coded_bits c (coded_of reference i)) (chosen-item c reference skip codes Plain is chose)

pub pair_item : (c : Coding) (reference : Option ℕ) (skip : ℕ) (codes : List ℕ) → skip ≡ skip_of reference
    → chosen c skip codes ≡ Second
    → coded_bits c (coded_of reference (AsSecond (pair_numbers codes))) ≡ coded_bits c (coded_of reference (chosen_item c reference codes))
pair_item c reference skip codes is chose =
    ap (λ (i : Item). coded_bits c (coded_of reference i)) (chosen-item c reference skip codes Second is chose)

pub split_item : (c : Coding) (reference : Option ℕ) (skip : ℕ) (codes : List ℕ) (k low : ℕ) → skip ≡ skip_of reference
    → chosen c skip codes ≡ Split k → low ≡ k
    → coded_bits c (coded_of reference (AsSplit low (highs low (take (length codes - skip) (drop skip codes))) (lows low (take (length codes - skip) (drop skip codes)))))
    ≡ coded_bits c (coded_of reference (chosen_item c reference codes))
split_item c reference skip codes k low is chose same =
    ap (λ (xs : List ℕ). coded_bits c (coded_of reference (AsSplit low (highs low xs) (lows low xs)))) (take_rest codes skip)
    ∙ (ap (λ (n : ℕ). coded_bits c (coded_of reference (AsSplit n (highs n (drop skip codes)) (lows n (drop skip codes))))) same
    ∙ ap (λ (i : Item). coded_bits c (coded_of reference i)) (chosen-item c reference skip codes (Split k) is chose))

pub split_low : (c : Coding) (skip : ℕ) (codes : List ℕ) (k low : ℕ) → chosen c skip codes ≡ Split k → low ≡ k → low + 3 ≤ 2 ^ identifier_width c
split_low c skip codes k low chose same =
    let option : IsOption c (Split k) = subst (IsOption c) chose (chosen-option c skip codes) in
    omega (arith, option, same)

pub room_as : (xs ys : List Bool) (spare : ℕ) → xs ≡ ys → length ys ≤ spare → length xs ≤ spare
room_as xs ys spare same enough = omega (arith, ap length same, enough)
