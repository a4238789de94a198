-- No other items have fewer bits.
use Rattle.std.proofs.Common.{inl, inr, ◌≡◌, ℕ, zero, suc, ◌+◌, ◌-◌, ◌*◌, ◌/◌, ◌%◌, ◌<◌, ◌≤◌, Bool, true, false, List, [], ◌∷◌, get_or, length, Option, Some, None, sum, ap, ◌∙◌, arith}
use Rattle.grib_coding.specs.Reading.{coded_of}
use Rattle.std.specs.List.{All}
use Rattle.std.proofs.lemmas.Bool.Decides.{nat_tests}
use Rattle.std.proofs.lemmas.List.Sums.{sum_by-cons}
use Rattle.std.proofs.lemmas.List.Elements.{All-head, All-tail}
use Rattle.grib_coding.specs.declared.coding.Coding.{Coding}
use Rattle.grib_coding.specs.Coding.{identifier_width}
use Rattle.grib_coding.specs.declared.choice.Choice.{Choice}
use Rattle.grib_coding.specs.Choices.{bits_as, chosen, IsOption}
use Rattle.grib_coding.specs.Runs.{run_number}
use Rattle.grib_block_writing.proofs.Chosen.{chosen-least}
use Rattle.grib_coding.specs.Written.{coded_bits, chosen_item, item_as, skip_of}
use Rattle.grib_block_writing.specs.Steps.{run_size, sizes_of}
use Rattle.grib_block_writing.proofs.Lengths.{length-coded, skip_few}

pub least_block : (c : Coding) (reference : Option ℕ) (codes : List ℕ) (choice : Choice) → length codes ≡ c.block → c.block % 2 ≡ 0 → 1 ≤ c.block
    → (skip_of reference ≡ 1 → get_or codes 0 0 ≡ 0) → IsOption c choice
    → length (coded_bits c (coded_of reference (chosen_item c reference codes)))
    ≤ length (coded_bits c (coded_of reference (item_as choice (skip_of reference) codes)))
least_block c reference codes choice long even some first option =
    let s = skip_of reference in
    let codes_even : length codes % 2 ≡ 0 = ap (λ (n : ℕ). n % 2) long ∙ even in
    let small : s ≤ c.block = omega (arith, skip_few reference, some) in
    let one = length-coded c reference s codes (chosen c s codes) long codes_even (skip_few reference) small first in
    let other = length-coded c reference s codes choice long codes_even (skip_few reference) small first in
    omega (arith, one, other, chosen-least c s codes choice option)

two_numbers : (a b : ℕ) (ends : Bool) → 1 ≤ a → 1 ≤ b → run_number (a + b) ends ≤ run_number a false + run_number b ends + 2
two_numbers a b true some more = grind (arith, nat_tests)
two_numbers a b false some more = grind (arith, nat_tests)

pub least_run : (c : Coding) (blocks : ℕ) (runs : List ℕ) (ends : Bool) → All (λ n. 1 ≤ n) (blocks ∷ runs)
    → (run_size c (sum (blocks ∷ runs)) ends ≤ sizes_of c (blocks ∷ runs) ends) × (1 ≤ sum (blocks ∷ runs))
least_run c blocks [] ends all =
    let one : sum (blocks ∷ []) ≡ blocks = omega arith in
    let here : 1 ≤ blocks = All-head (λ n. 1 ≤ n) blocks [] all in
    (omega (arith, ap (λ (n : ℕ). run_number n ends) one), omega (arith, one, here))
least_run c blocks (more ∷ runs) ends all =
    let here : 1 ≤ blocks = All-head (λ n. 1 ≤ n) blocks (more ∷ runs) all in
    let rest = least_run c more runs ends (All-tail (λ n. 1 ≤ n) blocks (more ∷ runs) all) in
    let total : sum (blocks ∷ more ∷ runs) ≡ blocks + sum (more ∷ runs) = sum_by-cons (λ n. n) blocks (more ∷ runs) in
    let two = two_numbers blocks (sum (more ∷ runs)) ends here (rest.1) in
    (omega (arith, ap (λ (n : ℕ). run_number n ends) total, two, rest.0), omega (arith, total, here))
