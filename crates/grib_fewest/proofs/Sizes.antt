-- How many bits an item has, whatever its numbers are.
use Rattle.std.proofs.Common.{◌≡◌, ℕ, ◌+◌, ◌-◌, ◌*◌, ◌^◌, List, [], ◌∷◌, ◌++◌, length, Option, sum, refl, ap, arith, length-append}
use Rattle.std.proofs.lemmas.List.Sums.{sum_by-cons}
use Rattle.grib_bits.specs.Bits.{bits_of}
use Rattle.grib_bits.proofs.Numbers.{length-bits_of}
use Rattle.grib_coding.specs.declared.coding.Coding.{Coding}
use Rattle.grib_coding.specs.Coding.{identifier_width}
use Rattle.grib_coding.specs.Items.{Second, Split, Plain, sequence, all_bits}
use Rattle.grib_coding.specs.Reading.{coded_of}
use Rattle.grib_coding.specs.Written.{coded_bits, reference_bits}
use Rattle.grib_block_writing.specs.Steps.{head_bits}
use Rattle.grib_block_writing.proofs.Adding.{length-sequence}
use Rattle.grib_block_writing.proofs.Heads.{second_parts, plain_parts, split_parts}

length-numbers : (width : ℕ) (numbers : List ℕ) → length (all_bits (bits_of width) numbers) ≡ length numbers * width
length-numbers width [] = omega arith
length-numbers width (n ∷ numbers) =
    omega (arith, length-append (bits_of width n) (all_bits (bits_of width) numbers), length-bits_of width n, length-numbers width numbers)

length-sequences : (numbers : List ℕ) → length (all_bits sequence numbers) ≡ length numbers + sum numbers
length-sequences [] = refl
length-sequences (n ∷ numbers) =
    omega (
      arith,
      length-append (sequence n) (all_bits sequence numbers),
      length-sequence n,
      length-sequences numbers,
      sum_by-cons (λ m. m) n numbers,
    )

-- the bits of an identifier and a reference
abbrev pub head_size : Coding → Option ℕ → ℕ
head_size c reference = identifier_width c + length (reference_bits c reference)

length-head : (c : Coding) (identifier width : ℕ) (reference : Option ℕ)
    → length (head_bits c identifier width reference) ≡ width + length (reference_bits c reference)
length-head c identifier width reference =
    omega (arith, length-append (bits_of width identifier) (reference_bits c reference), length-bits_of width identifier)

pub size-second : (c : Coding) (reference : Option ℕ) (pairs : List ℕ)
    → length (coded_bits c (coded_of reference (Second pairs))) ≡ head_size c reference + (1 + length pairs + sum pairs)
size-second c reference pairs =
    let w = identifier_width c in
    omega (
      arith,
      ap length (second_parts c reference pairs w refl),
      length-append (head_bits c 1 (w + 1) reference) (all_bits sequence pairs),
      length-head c 1 (w + 1) reference,
      length-sequences pairs,
    )

pub size-plain : (c : Coding) (reference : Option ℕ) (codes : List ℕ)
    → length (coded_bits c (coded_of reference (Plain codes))) ≡ head_size c reference + length codes * c.bits
size-plain c reference codes =
    let w = identifier_width c in
    omega (
      arith,
      ap length (plain_parts c reference codes w (2 ^ w - 1) c.bits refl refl refl),
      length-append (head_bits c (2 ^ w - 1) w reference) (all_bits (bits_of c.bits) codes),
      length-head c (2 ^ w - 1) w reference,
      length-numbers c.bits codes,
    )

pub size-split : (c : Coding) (reference : Option ℕ) (k : ℕ) (high low : List ℕ)
    → length (coded_bits c (coded_of reference (Split k high low)))
    ≡ head_size c reference + (length high + sum high + length low * k)
size-split c reference k high low =
    let w = identifier_width c in
    omega (
      arith,
      ap length (split_parts c reference k high low w refl),
      length-append (head_bits c (k + 1) w reference ++ all_bits sequence high) (all_bits (bits_of k) low),
      length-append (head_bits c (k + 1) w reference) (all_bits sequence high),
      length-head c (k + 1) w reference,
      length-sequences high,
      length-numbers k low,
    )
