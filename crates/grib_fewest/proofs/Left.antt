-- What is written from one block on: how many bits, and the run of zero blocks that it begins with.
use Rattle.std.proofs.Common.{inl, inr, min, ◌≡◌, ℕ, zero, suc, ◌+◌, ◌-◌, ◌*◌, ◌/◌, ◌%◌, ◌<◌, ◌≤◌, Bool, true, false, cond, ◌||◌, ◌==◌, List, [], ◌∷◌, get_or, take, drop, length, Option, refl, sym, ap, ap₂, ◌∙◌, arith, length-drop, length-append}
use Rattle.std.proofs.lemmas.Nat.{div-add-mod', mod-mul-add}
use Rattle.std.proofs.lemmas.Bool.{cases_eq, cases_Bool, eq-eqb, ne_eqb}
use Rattle.std.proofs.lemmas.List.{drop-drop, get_or-drop}
use Rattle.grib_coding.specs.declared.coding.Coding.{Coding}
use Rattle.grib_coding.specs.Coding.{block_count, identifier_width}
use Rattle.grib_coding.specs.Items.{Run}
use Rattle.grib_coding.specs.Numbers.{Told}
use Rattle.grib_coding.specs.Reading.{coded_of}
use Rattle.grib_coding.specs.Choices.{bits_as, chosen}
use Rattle.grib_coding.specs.Runs.{run_room, run_number}
use Rattle.grib_coding.specs.Blocks.{all_told, blocks_of, codes_of, reference_of, is_zero, zero_blocks}
use Rattle.grib_block_writing.specs.Steps.{block_at}
use Rattle.grib_coding.specs.Written.{bits_from, coded_bits, chosen_item, run_length, skip_of}
use Rattle.grib_block_writing.proofs.Shapes.{piece_at, length-pieces}
use Rattle.grib_block_writing.proofs.Runs.{run_bits, block_bits, number_is, none_left}
use Rattle.grib_block_writing.proofs.Read.{run_of, length-block}
use Rattle.grib_block_writing.proofs.Lengths.{length-run, length-chosen}
use Rattle.grib_fewest.proofs.Sizes.{head_size}

-- ---- zero blocks in front of a list

zero_front : (block : List Told) (blocks : List (List Told)) (t : Bool) → is_zero block ≡ t
    → zero_blocks (block ∷ blocks) ≡ cond t (zero_blocks blocks + 1) 0
zero_front block blocks t is = ap (λ (b : Bool). cond b (zero_blocks blocks + 1) 0) is

zeros_later : (blocks : List (List Told)) (room n : ℕ) → n ≤ zero_blocks (take room blocks)
    → zero_blocks (take (room - n) (drop n blocks)) + n ≡ zero_blocks (take room blocks)
zeros_later blocks room zero within =
    let same : room - 0 ≡ room = omega arith in
    omega (arith, ap (λ (r : ℕ). zero_blocks (take r blocks)) same)
zeros_later [] zero (suc n) within = absurd (omega arith)
zeros_later [] (suc room) (suc n) within = absurd (omega arith)
zeros_later (block ∷ blocks) zero (suc n) within = absurd (omega arith)
zeros_later (block ∷ blocks) (suc room) (suc n) within = elim (cases_Bool (is_zero block)) [
  | inl here ↦
      let more = zero_front block (take room blocks) true here in
      let one : suc room - suc n ≡ room - n = omega arith in
      omega (
        arith,
        more,
        zeros_later blocks room n (omega (arith, more, within)),
        ap (λ (r : ℕ). zero_blocks (take r (drop n blocks))) one,
      )
  | inr not_here ↦ absurd (omega (arith, zero_front block (take room blocks) false not_here, within))
]

zeros_least : (blocks : List (List Told)) (room m : ℕ) → m ≤ room → m ≤ length blocks
    → ((i : ℕ) → i < m → is_zero (get_or blocks i []) ≡ true) → m ≤ zero_blocks (take room blocks)
zeros_least blocks room zero few enough all = omega arith
zeros_least [] room (suc m) few enough all = absurd (omega arith)
zeros_least (block ∷ blocks) zero (suc m) few enough all = absurd (omega arith)
zeros_least (block ∷ blocks) (suc room) (suc m) few enough all =
    omega (
      arith,
      zero_front block (take room blocks) true (all 0 (omega arith)),
      zeros_least blocks room m (omega arith) (omega (arith, enough)) (λ i less. all (suc i) (omega (arith, less))),
    )

-- ---- the run of zero blocks that begins with a block

unfoldable pub zeros_at : Coding → List ℕ → ℕ → ℕ
zeros_at c numbers q = run_length c (q % c.interval) (drop q (blocks_of c numbers))

unfoldable pub room_at : Coding → ℕ → ℕ
room_at c q = run_room c (q % c.interval)

pub room_is : (c : Coding) (q : ℕ) → room_at c q ≡ run_room c (q % c.interval)
unfolding room_at
room_is c q = refl

-- whether a run of so many blocks ends with its segment, its interval or the last block
abbrev pub ends_at : Coding → List ℕ → ℕ → ℕ → Bool
ends_at c numbers q count = count == room_at c q || (count == block_count c (length numbers) - q)

pub zeros_few : (c : Coding) (numbers : List ℕ) (q : ℕ) → q < block_count c (length numbers)
    → (zeros_at c numbers q ≤ room_at c q) × (q + zeros_at c numbers q ≤ block_count c (length numbers))
unfolding zeros_at room_at
zeros_few c numbers q within = let run = run_of c numbers q within in (run.room, run.within)

pub zeros_many : (c : Coding) (numbers : List ℕ) (q m : ℕ) → m ≤ room_at c q → q + m ≤ block_count c (length numbers)
    → ((i : ℕ) → i < m → is_zero (block_at c numbers (q + i)) ≡ true) → m ≤ zeros_at c numbers q
unfolding zeros_at room_at
zeros_many c numbers q m few within all =
    let blocks = blocks_of c numbers in
    let count = block_count c (length numbers) in
    let long : length (drop q blocks) ≡ count - q =
    length-drop q blocks ∙ ap (λ (n : ℕ). n - q) (length-pieces c.block count (all_told c numbers)) in
    zeros_least (drop q blocks) (run_room c (q % c.interval)) m few (omega (arith, long, within)) (λ i less.
    ap is_zero (get_or-drop q blocks i [] ∙ piece_at c.block count (all_told c numbers) (q + i) (omega (arith, within, less)))
    ∙ all i less)

-- behind its first blocks a run goes on
later_place : (c : Coding) (q i : ℕ) → q % c.interval + i < c.interval → (q + i) % c.interval ≡ q % c.interval + i
later_place c q i less =
    let a = q / c.interval in
    let b = q % c.interval in
    let cut : a * c.interval + b ≡ q = div-add-mod' q c.interval in
    let both : q + i ≡ a * c.interval + (b + i) = omega (arith, cut) in
    ap (λ (n : ℕ). n % c.interval) both ∙ mod-mul-add a c.interval (b + i) less

less_room : (interval place n : ℕ) → n < min (interval - place) (64 - place % 64)
    → min (interval - (place + n)) (64 - (place + n) % 64) ≡ min (interval - place) (64 - place % 64) - n
less_room interval place n less =
    let low : (place + n) % 64 ≡ place % 64 + n = omega (arith, less) in
    omega (arith, less, low)

room_later : (c : Coding) (q n : ℕ) → n < room_at c q → room_at c (q + n) ≡ room_at c q - n
unfolding room_at
room_later c q n less =
    let place = q % c.interval in
    ap (run_room c) (later_place c q n (omega (arith, less))) ∙ less_room c.interval place n less

zeros_go_on : (c : Coding) (numbers : List ℕ) (q n : ℕ) → n < zeros_at c numbers q → q < block_count c (length numbers)
    → zeros_at c numbers (q + n) + n ≡ zeros_at c numbers q
unfolding zeros_at room_at
zeros_go_on c numbers q n less within =
    let blocks = blocks_of c numbers in
    let room = run_room c (q % c.interval) in
    let few = zeros_few c numbers q within in
    let rest = room_later c q n (omega (arith, less, few.0)) in
    let same : run_length c ((q + n) % c.interval) (drop (q + n) blocks) ≡ zero_blocks (take (room - n) (drop n (drop q blocks))) =
    ap₂ (λ (r : ℕ) (bs : List (List Told)). zero_blocks (take r bs)) rest (sym (drop-drop n q blocks)) in
    omega (arith, same, zeros_later (drop q blocks) room n (omega (arith, less)))

less_both : (a b n : ℕ) → n ≤ a → n ≤ b → (a - n == b - n) ≡ (a == b)
less_both a b n one two = elim (cases_eq a b) [
  | inl same ↦ eq-eqb (a - n) (b - n) (omega (arith, same)) ∙ sym (eq-eqb a b same)
  | inr other ↦ ne_eqb (a - n) (b - n) (λ e. other (omega (arith, e, one, two))) ∙ sym (ne_eqb a b other)
]

ends_later : (c : Coding) (numbers : List ℕ) (q n : ℕ) → n < zeros_at c numbers q → q < block_count c (length numbers)
    → ends_at c numbers (q + n) (zeros_at c numbers q - n) ≡ ends_at c numbers q (zeros_at c numbers q)
ends_later c numbers q n less within =
    let z = zeros_at c numbers q in
    let left = block_count c (length numbers) - q in
    let few = zeros_few c numbers q within in
    let room = room_later c q n (omega (arith, less, few.0)) in
    let rest : block_count c (length numbers) - (q + n) ≡ left - n = omega arith in
    ap₂ (λ (r l : ℕ). z - n == r || (z - n == l)) room rest
    ∙ ap₂ (λ (t u : Bool). t || u) (less_both z (room_at c q) n (omega (arith, less)) (omega (arith, less, few.0)))
    (less_both z left n (omega (arith, less)) (omega (arith, less, few.1)))

-- ---- bits

unfoldable pub left : Coding → List ℕ → ℕ → ℕ
left c numbers q = length (bits_from c q (drop q (blocks_of c numbers)))

pub left-none : (c : Coding) (numbers : List ℕ) (q : ℕ) → block_count c (length numbers) ≤ q → left c numbers q ≡ 0
unfolding left
left-none c numbers q end = ap length (none_left c numbers q end)

pub left-run : (c : Coding) (numbers : List ℕ) (q count : ℕ) → q < block_count c (length numbers) → count ≡ zeros_at c numbers q → 0 < count
    → left c numbers q
    ≡ head_size c (reference_of (block_at c numbers q)) + (run_number count (ends_at c numbers q count) + 2) + left c numbers (q + count)
unfolding left zeros_at room_at
left-run c numbers q count within is some =
    let reference = reference_of (block_at c numbers q) in
    let number = run_number count (ends_at c numbers q count) in
    omega (
      arith,
      ap length (run_bits c numbers q count number reference within is some refl (number_is c numbers q count (ends_at c numbers q count) is refl)),
      length-append (coded_bits c (coded_of reference (Run number))) (bits_from c (q + count) (drop (q + count) (blocks_of c numbers))),
      length-run c reference number,
    )

pub left-block : (c : Coding) (numbers : List ℕ) (q : ℕ) → 1 ≤ c.block → c.block % 2 ≡ 0 → q < block_count c (length numbers)
    → zeros_at c numbers q ≡ 0 → (reference : Option ℕ) (codes : List ℕ) → reference ≡ reference_of (block_at c numbers q)
    → codes ≡ codes_of (block_at c numbers q)
    → left c numbers q
    ≡ head_size c reference + bits_as c (skip_of reference) codes (chosen c (skip_of reference) codes) + left c numbers (q + 1)
unfolding left zeros_at
left-block c numbers q some even within none reference codes r k =
    let block = block_at c numbers q in
    omega (
      arith,
      ap length (block_bits c numbers q reference (codes_of block) within none r refl),
      length-append (coded_bits c (coded_of reference (chosen_item c reference (codes_of block)))) (bits_from c (q + 1) (drop (q + 1) (blocks_of c numbers))),
      length-chosen c block (length-block c numbers q some within) some even reference (skip_of reference) codes r refl k,
    )

-- within a run of zero blocks
pub left-inside : (c : Coding) (numbers : List ℕ) (q n : ℕ) → n < zeros_at c numbers q → q < block_count c (length numbers)
    → identifier_width c + (run_number (zeros_at c numbers q - n) (ends_at c numbers q (zeros_at c numbers q)) + 2)
    + left c numbers (q + zeros_at c numbers q) ≤ left c numbers (q + n)
left-inside c numbers q n less within =
    let z = zeros_at c numbers q in
    let few = zeros_few c numbers q within in
    let on = zeros_go_on c numbers q n less within in
    let count : z - n ≡ zeros_at c numbers (q + n) = omega (arith, on) in
    let end : q + n + (z - n) ≡ q + z = omega (arith, less) in
    omega (
      arith,
      left-run c numbers (q + n) (z - n) (omega (arith, few.1, less)) count (omega (arith, less)),
      ap (run_number (z - n)) (ends_later c numbers q n less within),
      ap (left c numbers) end,
    )
