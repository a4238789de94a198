-- Blocks that are written have few bits.
use Rattle.std.proofs.Common.{inl, inr, ◌⊎◌, ◌≡◌, ℕ, zero, suc, ◌+◌, ◌-◌, ◌*◌, ◌/◌, ◌%◌, ◌^◌, ◌<◌, ◌≤◌, ◌==◌, ◌||◌, Bool, true, false, cond, nat_le, List, drop, length, Option, Some, None, refl, ap, arith, length-append}
use Rattle.std.proofs.lemmas.Bool.{cases_lt, cases_eq}
use Rattle.grib_bits.proofs.Numbers.{length-bits_of}
use Rattle.grib_coding.specs.declared.coding.Coding.{Coding}
use Rattle.grib_coding.specs.Coding.{Fits, block_count}
use Rattle.grib_coding.specs.Items.{Run}
use Rattle.grib_coding.specs.Reading.{coded_of}
use Rattle.grib_coding.specs.Runs.{run_room, run_number}
use Rattle.grib_coding.specs.Blocks.{blocks_of, codes_of, reference_of}
use Rattle.grib_block_writing.specs.Steps.{block_at}
use Rattle.grib_coding.specs.Written.{bits_from, chosen_item, coded_bits, reference_bits, run_length, skip_of, written}
use Rattle.grib_block_writing.proofs.Heads.{most_width}
use Rattle.grib_block_writing.proofs.Lengths.{length-run, length-chosen, chosen_few}
use Rattle.grib_block_writing.proofs.Read.{length-block, run_of}
use Rattle.grib_block_writing.proofs.Runs.{run_bits, block_bits, number_is, none_left}
use Rattle.grib_block_writing.proofs.Zeros.{fits_block}

reference_few : (c : Coding) (reference : Option ℕ) → c.bits ≤ 32 → length (reference_bits c reference) ≤ 32
reference_few c None few = omega arith
reference_few c (Some number) few = omega (arith, few, length-bits_of c.bits number)

number_few : (blocks : ℕ) (ends : Bool) → run_number blocks ends ≤ blocks
number_few blocks ends = go (nat_le blocks 4) ends refl where
  go : (b e : Bool) → nat_le blocks 4 ≡ b → cond b (blocks - 1) (cond e 4 blocks) ≤ blocks
  go true e is = omega arith
  go false true is = grind (arith, is)
  go false false is = omega arith

module _ (c : Coding) (numbers : List ℕ) (fits : Fits c) where
  -- the bits of a block that is in no run
  block_few : (q : ℕ) → q < block_count c (length numbers)
      → length (coded_bits c (coded_of (reference_of (block_at c numbers q)) (chosen_item c (reference_of (block_at c numbers q)) (codes_of (block_at c numbers q))))) ≤ 4096
  block_few q within =
      let B = fits_block c fits in
      let block = block_at c numbers q in
      let reference = reference_of block in
      let skip = skip_of reference in
      let width = most_width c in
      omega (
        arith,
        length-chosen c block (length-block c numbers q B.0 within) B.0 B.2 reference skip (codes_of block) refl refl refl,
        chosen_few c skip (codes_of block) B.1 fits.most_bits,
        reference_few c reference fits.most_bits,
        width.1,
      )

  -- the bits from a block on
  few_from : (fuel q : ℕ) → block_count c (length numbers) ≤ q + fuel
      → length (bits_from c q (drop q (blocks_of c numbers))) ≤ (block_count c (length numbers) - q) * 4096
  few_from zero q all = omega (arith, ap length (none_left c numbers q (omega (arith, all))))
  few_from (suc fuel) q all = elim (cases_lt q (block_count c (length numbers))) [
    | inr over ↦ omega (arith, ap length (none_left c numbers q over))
    | inl within ↦
        let zeros = run_length c (q % c.interval) (drop q (blocks_of c numbers)) in
        let reference = reference_of (block_at c numbers q) in
        elim (cases_eq zeros 0) [
          | inl none ↦
              let codes = codes_of (block_at c numbers q) in
              let part = coded_bits c (coded_of reference (chosen_item c reference codes)) in
              let rest = bits_from c (q + 1) (drop (q + 1) (blocks_of c numbers)) in
              omega (arith, ap length (block_bits c numbers q reference codes within none refl refl), length-append part rest, block_few q within, few_from fuel (q + 1) (omega (arith, all)))
          | inr some ↦
              let run = run_of c numbers q within in
              let ends = zeros == run_room c (q % c.interval) || (zeros == block_count c (length numbers) - q) in
              let number = run_number zeros ends in
              let part = coded_bits c (coded_of reference (Run number)) in
              let rest = bits_from c (q + zeros) (drop (q + zeros) (blocks_of c numbers)) in
              let width = most_width c in
              let more : 0 < zeros = omega (arith, some) in
              omega (
                arith,
                ap length (run_bits c numbers q zeros number reference within refl more refl (number_is c numbers q zeros ends refl refl)),
                length-append part rest,
                length-run c reference number,
                reference_few c reference fits.most_bits,
                width.1,
                number_few zeros ends,
                run.within,
                few_from fuel (q + zeros) (omega (arith, all, more)),
              )
        ]
  ]

count_few : (count block : ℕ) → count ≤ 33554432 → (block ≡ 8) ⊎ ((block ≡ 16) ⊎ ((block ≡ 32) ⊎ (block ≡ 64))) → (count + block - 1) / block ≤ 4194304
count_few count block few (inl is) = omega (arith, few, ap (λ (b : ℕ). (count + b - 1) / b) is)
count_few count block few (inr (inl is)) = omega (arith, few, ap (λ (b : ℕ). (count + b - 1) / b) is)
count_few count block few (inr (inr (inl is))) = omega (arith, few, ap (λ (b : ℕ). (count + b - 1) / b) is)
count_few count block few (inr (inr (inr is))) = omega (arith, few, ap (λ (b : ℕ). (count + b - 1) / b) is)

-- All blocks of a field have 2 ^ 34 bits at most.
pub written_few : (c : Coding) (numbers : List ℕ) → Fits c → length numbers ≤ 33554432 → length (written c numbers) ≤ 2 ^ 34
written_few c numbers fits few =
    let blocks = count_few (length numbers) c.block few fits.block in
    omega (arith, few_from c numbers fits (block_count c (length numbers)) 0 (omega arith), blocks)
