-- No list of items has fewer bits. What is written from a block on has no more bits than any item that begins with this
-- block and what is written from the block behind it on:
-- - a run against a run: what is written covers no less, and where it covers more, its rest has a run of its own;
-- - a run against another item of a zero block: that has at least five bits behind its head, where a run has two and is
--   told by a number of at most two more with one block more;
-- - a block that is no zero block against an item of it: the codes of the block are no more than those of the item, which
--   are the same or belong to no value, and the chosen item has the fewest bits.
use Rattle.std.proofs.Common.{inl, inr, ◌≡◌, ℕ, ◌+◌, ◌-◌, ◌*◌, ◌%◌, ◌<◌, ◌≤◌, Bool, true, false, ◌||◌, ◌==◌, List, [], ◌∷◌, take, drop, length, Option, refl, sym, ap, ◌∙◌, subst, arith, length-append}
use Rattle.std.specs.List.{All}
use Rattle.std.proofs.lemmas.Nat.{mod_below}
use Rattle.std.proofs.lemmas.Bool.{cases_lt, cases_eq, eq-eqb}
use Rattle.std.proofs.lemmas.Bool.Decides.{nat_tests}
use Rattle.grib_coding.specs.declared.coding.Coding.{Coding}
use Rattle.grib_coding.specs.Coding.{Fits, block_count}
use Rattle.grib_coding.specs.Items.{Item, Run, Second, Split, Plain, covered}
use Rattle.grib_coding.specs.Numbers.{Told, told_after}
use Rattle.grib_coding.specs.Reading.{Coded, coded_of, entries_with}
use Rattle.grib_coding.specs.Runs.{run_room, run_number}
use Rattle.grib_coding.specs.Blocks.{all_told, code_of, codes_of, is_zero}
use Rattle.grib_block_writing.specs.Steps.{block_at}
use Rattle.grib_coding.specs.Written.{coded_bits, written}
use Rattle.grib_block_writing.proofs.Zeros.{fits_block}
use Rattle.grib_block_writing.proofs.Lengths.{length-run, skip_few}
use Rattle.grib_fewest.specs.Lists.{Cover, AreInSegments, Tells, told_by, list_bits, block_after}
use Rattle.grib_fewest.proofs.Sizes.{head_size}
use Rattle.grib_fewest.proofs.Below.{IsBelow, below_zeros}
use Rattle.grib_fewest.proofs.Items.{IsBlock, covers_one, covers_some, run_zeros, blocks_below, told_behind, run_is_zero, chosen-fewest, five_bits}
use Rattle.grib_fewest.proofs.At.{At, long, reference_at}
use Rattle.grib_fewest.proofs.Left.{zeros_at, room_at, room_is, ends_at, zeros_few, zeros_many, left, left-none, left-run, left-block, left-inside}

-- ---- the numbers of runs

to_end : (c : Coding) (place number count : ℕ) → 1 ≤ count → count ≤ covered c place (Run number) → run_number count true ≤ number
to_end c place number count some few = grind (arith, nat_tests)

exact : (c : Coding) (place number : ℕ) (ends : Bool) → 1 ≤ covered c place (Run number)
    → (covered c place (Run number) ≡ run_room c place → ends ≡ true) → run_number (covered c place (Run number)) ends ≤ number
exact c place number true some room = to_end c place number (covered c place (Run number)) some (omega arith)
exact c place number false some room = grind (arith, nat_tests)

shorter : (c : Coding) (place number : ℕ) → 1 ≤ covered c place (Run number) → covered c place (Run number) < run_room c place
    → run_number (covered c place (Run number)) false ≤ number
shorter c place number some less = exact c place number false some (λ e. absurd (omega (arith, less, e)))

two_runs : (a b : ℕ) (ends : Bool) → 1 ≤ a → 1 ≤ b → run_number (a + b) ends ≤ run_number a false + run_number b ends + 2
two_runs a b true some more = grind (arith, nat_tests)
two_runs a b false some more = grind (arith, nat_tests)

or-true : (t : Bool) → (t || true) ≡ true
or-true true = refl
or-true false = refl

eight_codes : (c : Coding) → Fits c → 8 ≤ c.block
eight_codes c fits = elim fits.block [
  | inl a ↦ omega (arith, a)
  | inr b ↦ elim b [
    | inl a ↦ omega (arith, a)
    | inr d ↦ elim d [
      | inl a ↦ omega (arith, a)
      | inr a ↦ omega (arith, a)
    ]
  ]
]

-- ---- one item

-- the blocks of a run are zero blocks
zeros : (c : Coding) (numbers : List ℕ) (q number : ℕ) (reference : Option ℕ) (rest : List Told) → At c numbers q reference (Run number) rest
    → (i : ℕ) → i < covered c (q % c.interval) (Run number) → is_zero (block_at c numbers (q + i)) ≡ true
zeros c numbers q number reference rest at i less =
    let place = q % c.interval in
    let n = covered c place (Run number) in
    let entries = entries_with c place reference (Run number) in
    let told = drop (q * c.block) (all_told c numbers) in
    let all : All (λ e. code_of e ≡ 0) (take (length entries) told) =
    below_zeros (take (length entries) told) entries
    (blocks_below c numbers q entries rest ((fits_block c at.fits).0) at.within at.told) (run_zeros c place number reference) in
    run_is_zero c numbers q n i less
    (subst (λ (k : ℕ). All (λ e. code_of e ≡ 0) (take k told)) (long c numbers q reference (Run number) rest at) all)

step_run : (c : Coding) (numbers : List ℕ) (q number : ℕ) (reference : Option ℕ) (rest : List Told) → At c numbers q reference (Run number) rest
    → covered c (q % c.interval) (Run number) ≤ run_room c (q % c.interval)
    → left c numbers q
    ≤ length (coded_bits c (coded_of reference (Run number))) + left c numbers (q + covered c (q % c.interval) (Run number))
step_run c numbers q number reference rest at in_room =
    let place = q % c.interval in
    let n = covered c place (Run number) in
    let z = zeros_at c numbers q in
    let count = block_count c (length numbers) in
    let some : 1 ≤ n = covers_some c place (Run number) (mod_below q c.interval at.fits.some_blocks) in
    let room = room_is c q in
    let few = zeros_few c numbers q at.within in
    let all = zeros c numbers q number reference rest at in
    let size = length-run c reference number in
    let head = ap (head_size c) (reference_at c numbers q reference (Run number) rest at) in
    elim (cases_lt (q + n) count) [
      | inr past ↦
          let many : count - q ≤ z = zeros_many c numbers q (count - q) (omega (arith, in_room, room, past)) (omega (arith, at.within))
          (λ i less. all i (omega (arith, less, past))) in
          let last : q + z ≡ count = omega (arith, many, few.1, at.within) in
          let yes' : (z == count - q) ≡ true = eq-eqb z (count - q) (omega (arith, last)) in
          let ends : ends_at c numbers q z ≡ true = ap (λ (t : Bool). z == room_at c q || t) yes' ∙ or-true (z == room_at c q) in
          let some_z : 1 ≤ z = omega (arith, last, at.within) in
          omega (
            arith,
            left-run c numbers q z at.within refl some_z,
            ap (run_number z) ends,
            to_end c place number z some_z (omega (arith, last, past)),
            left-none c numbers (q + z) (omega (arith, last)),
            size,
            head,
          )
      | inl inside ↦
          let many : n ≤ z = zeros_many c numbers q n (omega (arith, in_room, room)) (omega (arith, inside)) all in
          let ends = ends_at c numbers q z in
          let run = left-run c numbers q z at.within refl (omega (arith, many, some)) in
          elim (cases_lt n z) [
            | inl more ↦
                let rest_z : n + (z - n) ≡ z = omega (arith, more) in
                omega (
                  arith,
                  run,
                  left-inside c numbers q n more at.within,
                  two_runs n (z - n) ends some (omega (arith, more)),
                  ap (λ (m : ℕ). run_number m ends) rest_z,
                  shorter c place number some (omega (arith, more, few.0, room)),
                  size,
                  head,
                )
            | inr same ↦
                let is : z ≡ n = omega (arith, same, many) in
                let full : n ≡ run_room c place → ends ≡ true = λ (e : n ≡ run_room c place).
                ap (λ (t : Bool). t || (z == count - q)) (eq-eqb z (room_at c q) (omega (arith, is, e, room))) in
                omega (
                  arith,
                  run,
                  ap (λ (m : ℕ). run_number m ends) is,
                  exact c place number ends some full,
                  ap (λ (m : ℕ). left c numbers (q + m)) is,
                  size,
                  head,
                )
          ]
    ]

pub step_block : (c : Coding) (numbers : List ℕ) (q : ℕ) (reference : Option ℕ) (item : Item) (rest : List Told) → At c numbers q reference item rest
    → IsBlock item → left c numbers q ≤ length (coded_bits c (coded_of reference item)) + left c numbers (q + 1)
step_block c numbers q reference item rest at is_block =
    let place = q % c.interval in
    let block = block_at c numbers q in
    let entries = entries_with c place reference item in
    let told = drop (q * c.block) (all_told c numbers) in
    let B = fits_block c at.fits in
    let z = zeros_at c numbers q in
    let same = reference_at c numbers q reference item rest at in
    let one : length entries ≡ c.block =
    let mul : c.block * 1 ≡ c.block = omega arith in
    long c numbers q reference item rest at ∙ (ap (λ (n : ℕ). c.block * n) (covers_one c place item is_block) ∙ mul) in
    let below : IsBelow block entries =
    subst (λ (k : ℕ). IsBelow (take k told) entries) one (blocks_below c numbers q entries rest B.0 at.within at.told) in
    elim (cases_eq z 0) [
      | inl none ↦
          omega (
            arith,
            left-block c numbers q B.0 B.2 at.within none reference (codes_of block) same refl,
            chosen-fewest c place reference item block is_block at.is below,
          )
      | inr not_none ↦
          let ends = ends_at c numbers q z in
          let some : 1 ≤ z = omega (arith, not_none) in
          let eight : 8 ≤ c.block = eight_codes c at.fits in
          let heavy = five_bits c reference item eight at.fits.some_bits (skip_few reference) is_block at.is in
          let run = left-run c numbers q z at.within refl some in
          let head = ap (head_size c) same in
          elim (cases_lt 1 z) [
            | inl more ↦
                let rest_z : 1 + (z - 1) ≡ z = omega (arith, more) in
                omega (
                  arith,
                  run,
                  left-inside c numbers q 1 more at.within,
                  two_runs 1 (z - 1) ends (omega arith) (omega (arith, more)),
                  ap (λ (m : ℕ). run_number m ends) rest_z,
                  heavy,
                  head,
                )
            | inr single ↦
                let is : z ≡ 1 = omega (arith, single, some) in
                omega (arith, run, ap (λ (m : ℕ). run_number m ends) is, ap (λ (m : ℕ). left c numbers (q + m)) is, heavy, head)
          ]
    ]

step : (c : Coding) (numbers : List ℕ) (q : ℕ) (reference : Option ℕ) (item : Item) (rest : List Told) → At c numbers q reference item rest
    → covered c (q % c.interval) item ≤ run_room c (q % c.interval)
    → left c numbers q ≤ length (coded_bits c (coded_of reference item)) + left c numbers (q + covered c (q % c.interval) item)
step c numbers q reference (Run number) rest at in_room = step_run c numbers q number reference rest at in_room
step c numbers q reference (Second pairs) rest at in_room = step_block c numbers q reference (Second pairs) rest at tt
step c numbers q reference (Split k high low) rest at in_room = step_block c numbers q reference (Split k high low) rest at tt
step c numbers q reference (Plain codes) rest at in_room = step_block c numbers q reference (Plain codes) rest at tt

-- ---- all items

from_on : (c : Coding) (numbers : List ℕ) (q : ℕ) (items : List Coded) → Fits c → Cover c (block_count c (length numbers)) q items
    → AreInSegments c q items → take (length numbers - q * c.block) (told_by c q items) ≡ drop (q * c.block) (told_after c 0 0 numbers)
    → left c numbers q ≤ length (list_bits c items)
from_on c numbers q [] fits cover segments told = omega (arith, left-none c numbers q cover)
from_on c numbers q (coded ∷ items) fits cover segments told =
    let place = q % c.interval in
    let next = block_after c q coded in
    let rest = told_by c next items in
    let at : At c numbers q coded.reference coded.item rest =
    record { fits = fits; within = cover.0; is = cover.1; told = told } in
    let behind = told_behind c numbers q (covered c place coded.item) (entries_with c place coded.reference coded.item) rest
    (long c numbers q coded.reference coded.item rest at) told in
    omega (
      arith,
      step c numbers q coded.reference coded.item rest at segments.0,
      from_on c numbers next items fits cover.2 segments.1 behind,
      length-append (coded_bits c coded) (list_bits c items),
    )

pub fewest : (c : Coding) (numbers : List ℕ) (items : List Coded) → Fits c → Tells c numbers items → AreInSegments c 0 items
    → length (written c numbers) ≤ length (list_bits c items)
unfolding left
fewest c numbers items fits tells segments =
    let none : 0 * c.block ≡ 0 = omega arith in
    let whole : length numbers - 0 * c.block ≡ length numbers = omega arith in
    let told : take (length numbers - 0 * c.block) (told_by c 0 items) ≡ drop (0 * c.block) (told_after c 0 0 numbers) =
    ap (λ (n : ℕ). take n (told_by c 0 items)) whole ∙ (tells.told ∙ ap (λ (n : ℕ). drop n (told_after c 0 0 numbers)) (sym none)) in
    from_on c numbers 0 items fits tells.whole segments told
