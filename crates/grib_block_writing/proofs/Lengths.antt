-- How many bits items have.
use Rattle.std.proofs.Common.{lit<, inl, inr, ◌≡◌, ℕ, zero, suc, ◌+◌, ◌-◌, ◌*◌, ◌/◌, ◌%◌, ◌^◌, ◌<◌, ◌≤◌, Bool, true, false, List, [], ◌∷◌, ◌++◌, map, get_or, take, drop, length, Option, Some, None, refl, sym, ap, ap₂, ◌∙◌, subst, arith, length-append, length-drop}
use Rattle.grib_coding.specs.Reading.{coded_of}
use Rattle.std.specs.List.{All, sum_by}
use Rattle.std.proofs.Math.Nat.{mul-le-mul_right, mul-le-mul_left}
use Rattle.std.proofs.lemmas.List.{length-map}
use Rattle.std.proofs.lemmas.List.Sums.{sum_by-cons}
use Rattle.grib_bits.specs.Bits.{bits_of}
use Rattle.grib_bits.proofs.Numbers.{length-bits_of}
use Rattle.grib_coding.specs.declared.coding.Coding.{Coding}
use Rattle.grib_coding.specs.Coding.{Fits, identifier_width}
use Rattle.grib_coding.specs.Items.{Item, Run, sequence, all_bits, pair_number, Plain as APlain, Second as ASecond, Split as ASplit}
use Rattle.grib_coding.specs.Numbers.{Told, Reference, Code}
use Rattle.grib_coding.specs.declared.choice.Choice.{Choice}
use Rattle.grib_coding.specs.declared.choice.Choice.TheVariants.{Plain, Second, Split}
use Rattle.grib_coding.specs.Choices.{bits_as, high_sum, pair_sum, chosen}
use Rattle.grib_block_writing.proofs.Chosen.{chosen-least}
use Rattle.grib_coding.specs.Blocks.{codes_of, reference_of}
use Rattle.grib_coding.specs.Written.{coded_bits, chosen_item, item_as, skip_of, pair_numbers, highs, lows, reference_bits}
use Rattle.grib_block_writing.specs.Steps.{head_bits}
use Rattle.grib_block_writing.proofs.Adding.{length-sequence}
use Rattle.grib_block_writing.proofs.Heads.{run_parts, second_parts, plain_parts, split_parts}

length-plain : (width : ℕ) (codes : List ℕ) → length (all_bits (bits_of width) codes) ≡ length codes * width
length-plain width [] = omega arith
length-plain width (code ∷ codes) =
    omega (arith, length-append (bits_of width code) (all_bits (bits_of width) codes), length-bits_of width code, length-plain width codes)

length-highs : (k : ℕ) (codes : List ℕ) → length (all_bits sequence (highs k codes)) ≡ high_sum k codes + length codes
length-highs k [] = omega arith
length-highs k (code ∷ codes) =
    omega (
      arith,
      length-append (sequence (code / 2 ^ k)) (all_bits sequence (highs k codes)),
      length-sequence (code / 2 ^ k),
      length-highs k codes,
      sum_by-cons (λ c. c / 2 ^ k) code codes,
    )

length-pair_bits : (codes : List ℕ) → length codes % 2 ≡ 0 → length (all_bits sequence (pair_numbers codes)) ≡ pair_sum codes + length codes / 2
length-pair_bits [] even = omega arith
length-pair_bits (one ∷ []) even = absurd (omega arith)
length-pair_bits (one ∷ other ∷ codes) even =
    omega (
      arith,
      length-append (sequence (pair_number one other)) (all_bits sequence (pair_numbers codes)),
      length-sequence (pair_number one other),
      length-pair_bits codes (omega (arith, even)),
    )

length-head : (c : Coding) (identifier width : ℕ) (reference : Option ℕ)
    → length (head_bits c identifier width reference) ≡ width + length (reference_bits c reference)
length-head c identifier width reference =
    omega (arith, length-append (bits_of width identifier) (reference_bits c reference), length-bits_of width identifier)

-- the first code does not count where a reference stands for it
kept_sum : (k skip : ℕ) (codes : List ℕ) → skip ≤ 1 → (skip ≡ 1 → get_or codes 0 0 ≡ 0) → high_sum k (drop skip codes) ≡ high_sum k codes
kept_sum k zero codes few none = refl
kept_sum k (suc zero) [] few none = refl
kept_sum k (suc zero) (code ∷ codes) few none =
    let is : code ≡ 0 = none refl in
    let nothing : code / 2 ^ k ≡ 0 = ap (λ (n : ℕ). n / 2 ^ k) is ∙ omega arith in
    omega (arith, sum_by-cons (λ c. c / 2 ^ k) code codes, nothing)
kept_sum k (suc (suc skip)) codes few none = absurd (omega arith)

pub length-coded : (c : Coding) (reference : Option ℕ) (skip : ℕ) (codes : List ℕ) (choice : Choice) → length codes ≡ c.block → length codes % 2 ≡ 0
    → skip ≤ 1 → skip ≤ c.block → (skip ≡ 1 → get_or codes 0 0 ≡ 0)
    → length (coded_bits c (coded_of reference (item_as choice skip codes)))
    ≡ identifier_width c + length (reference_bits c reference) + bits_as c skip codes choice
length-coded c reference skip codes Plain long even few small none =
    let w = identifier_width c in
    let kept = drop skip codes in
    let parts = ap length (plain_parts c reference kept w (2 ^ w - 1) c.bits refl refl refl) in
    let count : length kept * c.bits ≡ (c.block - skip) * c.bits = ap (λ (n : ℕ). n * c.bits) (length-drop skip codes ∙ ap (λ (n : ℕ). n - skip) long) in
    omega (
      arith,
      parts,
      length-append (head_bits c (2 ^ w - 1) w reference) (all_bits (bits_of c.bits) kept),
      length-head c (2 ^ w - 1) w reference,
      length-plain c.bits kept,
      count,
    )
length-coded c reference skip codes Second long even few small none =
    let w = identifier_width c in
    let pairs = pair_numbers codes in
    let parts = ap length (second_parts c reference pairs w refl) in
    omega (
      arith,
      parts,
      length-append (head_bits c 1 (w + 1) reference) (all_bits sequence pairs),
      length-head c 1 (w + 1) reference,
      length-pair_bits codes even,
      ap (λ (n : ℕ). n / 2) long,
    )
length-coded c reference skip codes (Split k) long even few small none =
    let w = identifier_width c in
    let kept = drop skip codes in
    let parts = ap length (split_parts c reference k (highs k kept) (lows k kept) w refl) in
    let count : length kept ≡ c.block - skip = length-drop skip codes ∙ ap (λ (n : ℕ). n - skip) long in
    let low : length (all_bits (bits_of k) (lows k kept)) ≡ (c.block - skip) * k =
    length-plain k (lows k kept) ∙ ap (λ (n : ℕ). n * k) (length-map kept (λ code. code % 2 ^ k) ∙ count) in
    omega (
      arith,
      parts,
      length-append (head_bits c (k + 1) w reference ++ all_bits sequence (highs k kept)) (all_bits (bits_of k) (lows k kept)),
      length-append (head_bits c (k + 1) w reference) (all_bits sequence (highs k kept)),
      length-head c (k + 1) w reference,
      length-highs k kept,
      count,
      low,
      kept_sum k skip codes few none,
    )

pub length-run : (c : Coding) (reference : Option ℕ) (number : ℕ)
    → length (coded_bits c (coded_of reference (Run number))) ≡ identifier_width c + length (reference_bits c reference) + number + 2
length-run c reference number =
    let w = identifier_width c in
    omega (
      arith,
      ap length (run_parts c reference number w refl),
      length-append (head_bits c 0 (w + 1) reference) (sequence number),
      length-head c 0 (w + 1) reference,
      length-sequence number,
    )

-- where a reference stands for a code, the code is 0
pub first_zero : (block : List Told) → skip_of (reference_of block) ≡ 1 → get_or (codes_of block) 0 0 ≡ 0
first_zero [] one = refl
first_zero (Reference number ∷ block) one = refl
first_zero (Code code ∷ block) one = absurd (omega (arith, one))

pub skip_few : (reference : Option ℕ) → skip_of reference ≤ 1
skip_few None = omega arith
skip_few (Some number) = omega arith

-- a chosen item has no more bits than a plain block
pub chosen_few : (c : Coding) (skip : ℕ) (codes : List ℕ) → c.block ≤ 64 → c.bits ≤ 32 → bits_as c skip codes (chosen c skip codes) ≤ 2048
chosen_few c skip codes block bits =
    let least = chosen-least c skip codes Plain tt in
    let kept : (c.block - skip) * c.bits ≤ 64 * c.bits = mul-le-mul_right c.bits (omega (arith, block)) in
    omega (arith, least, kept, bits)

pub length-chosen : (c : Coding) (block : List Told) → length (codes_of block) ≡ c.block → 1 ≤ c.block → c.block % 2 ≡ 0
    → (reference : Option ℕ) (skip : ℕ) (codes : List ℕ) → reference ≡ reference_of block → skip ≡ skip_of reference → codes ≡ codes_of block
    → length (coded_bits c (coded_of reference (chosen_item c reference (codes_of block))))
    ≡ identifier_width c + length (reference_bits c reference) + bits_as c skip codes (chosen c skip codes)
length-chosen c block long some even reference skip codes is_reference is_skip is_codes =
    let s = skip_of reference in
    let cs = codes_of block in
    let none : s ≡ 1 → get_or cs 0 0 ≡ 0 = λ (e : s ≡ 1). first_zero block (ap skip_of (sym is_reference) ∙ e) in
    length-coded c reference s cs (chosen c s cs) long (ap (λ (n : ℕ). n % 2) long ∙ even) (skip_few reference) (omega (arith, skip_few reference, some)) none
    ∙ ap₂ (λ (n : ℕ) (xs : List ℕ). identifier_width c + length (reference_bits c reference) + bits_as c n xs (chosen c n xs)) (sym is_skip) (sym is_codes)

pub length-reference : (c : Coding) (reference : Option ℕ) (number : ℕ) → reference ≡ Some number → length (reference_bits c reference) ≡ c.bits
length-reference c reference number is = ap (λ (r : Option ℕ). length (reference_bits c r)) is ∙ length-bits_of c.bits number

pub length-parts : (all part rest : List Bool) (bits : ℕ) → all ≡ part ++ rest → bits ≡ length part → bits + length rest ≡ length all
length-parts all part rest bits is some = omega (arith, ap length is, length-append part rest, some)
