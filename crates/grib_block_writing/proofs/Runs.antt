-- What is written from one block on, item after item.
use Rattle.std.proofs.Common.{lit<, inl, inr, min, ◌≡◌, ℕ, zero, suc, ◌+◌, ◌-◌, ◌*◌, ◌/◌, ◌%◌, ◌<◌, ◌≤◌, Bool, true, false, cond, ◌&&◌, ◌||◌, ◌==◌, List, [], ◌∷◌, ◌++◌, map, get_or, take, drop, replicate, length, Option, refl, sym, ap, ap₂, ◌∙◌, subst, arith, length-drop}
use Rattle.std.specs.List.{flat_map}
use Rattle.std.proofs.lemmas.Bool.{eq-eqb, ne_eqb}
use Rattle.std.proofs.lemmas.List.{drop-drop, drop_all}
use Rattle.grib_bits.specs.Written.{Written}
use Rattle.grib_coding.specs.declared.coding.Coding.{Coding}
use Rattle.grib_coding.specs.Coding.{block_count}
use Rattle.grib_coding.specs.Items.{Item, Run}
use Rattle.grib_coding.specs.Numbers.{Told}
use Rattle.grib_coding.specs.Reading.{Coded, coded_of}
use Rattle.grib_coding.specs.Runs.{run_room, run_number}
use Rattle.grib_coding.specs.Blocks.{all_told, blocks_of, codes_of, reference_of}
use Rattle.grib_block_writing.specs.Steps.{block_at}
use Rattle.grib_coding.specs.Written.{run_length, number_of, first_item, chosen_item, items_of, coded_bits, bits_from, written}
use Rattle.grib_block_writing.specs.Steps.{AddsBits, Leaves}
use Rattle.grib_block_writing.proofs.Shapes.{next_block, length-pieces}
use Rattle.grib_block_writing.proofs.Adding.{begin, next, left-same}

-- blocks that a run covers have no items of their own
pub covered_on : (c : Coding) (q more : ℕ) (blocks : List (List Told)) → items_of c q more blocks ≡ items_of c (q + more) 0 (drop more blocks)
covered_on c q zero blocks = let same : q ≡ q + 0 = omega arith in ap (λ (n : ℕ). items_of c n 0 blocks) same
covered_on c q (suc more) [] = refl
covered_on c q (suc more) (block ∷ blocks) =
    let same : q + 1 + more ≡ q + suc more = omega arith in
    covered_on c (q + 1) more blocks ∙ ap (λ (n : ℕ). items_of c n 0 (drop more blocks)) same

-- the first item, and what follows the blocks that it covers
pub first_items : (c : Coding) (q : ℕ) (block : List Told) (blocks : List (List Told)) (n : ℕ) → run_length c (q % c.interval) (block ∷ blocks) - 1 ≡ n
    → items_of c q 0 (block ∷ blocks)
    ≡ coded_of (reference_of block) (first_item c (q % c.interval) block blocks) ∷ items_of c (q + 1 + n) 0 (drop n blocks)
first_items c q block blocks n is =
    let first = coded_of (reference_of block) (first_item c (q % c.interval) block blocks) in
    ap (λ (m : ℕ). first ∷ items_of c (q + 1) m blocks) is ∙ ap (λ (items : List Coded). first ∷ items) (covered_on c (q + 1) n blocks)

-- the blocks from one on, by the first of them
from_block : (c : Coding) (numbers : List ℕ) (q n : ℕ) (item : Item) → q < block_count c (length numbers)
    → run_length c (q % c.interval) (drop q (blocks_of c numbers)) - 1 ≡ n
    → first_item c (q % c.interval) (block_at c numbers q) (drop (q + 1) (blocks_of c numbers)) ≡ item
    → items_of c q 0 (drop q (blocks_of c numbers))
    ≡ coded_of (reference_of (block_at c numbers q)) item ∷ items_of c (q + 1 + n) 0 (drop (q + 1 + n) (blocks_of c numbers))
from_block c numbers q n item within is as_item =
    let all = blocks_of c numbers in
    let block = block_at c numbers q in
    let cut = next_block c numbers q within in
    ap (items_of c q 0) cut
    ∙ (first_items c q block (drop (q + 1) all) n (ap (λ (bs : List (List Told)). run_length c (q % c.interval) bs - 1) (sym cut) ∙ is)
    ∙ ap₂ (λ (i : Item) (bs : List (List Told)). coded_of (reference_of block) i ∷ items_of c (q + 1 + n) 0 bs) as_item (drop-drop n (q + 1) all))

pub run_items : (c : Coding) (numbers : List ℕ) (q zeros : ℕ) → q < block_count c (length numbers)
    → zeros ≡ run_length c (q % c.interval) (drop q (blocks_of c numbers)) → 0 < zeros
    → items_of c q 0 (drop q (blocks_of c numbers))
    ≡ coded_of (reference_of (block_at c numbers q)) (Run (number_of c (q % c.interval) (drop q (blocks_of c numbers))))
    ∷ items_of c (q + zeros) 0 (drop (q + zeros) (blocks_of c numbers))
run_items c numbers q zeros within is some =
    let all = blocks_of c numbers in
    let block = block_at c numbers q in
    let place = q % c.interval in
    let cut = next_block c numbers q within in
    let ends : q + 1 + (zeros - 1) ≡ q + zeros = omega (arith, some) in
    let run : run_length c place (block ∷ drop (q + 1) all) ≡ zeros = ap (run_length c place) (sym cut) ∙ sym is in
    let not_none : (run_length c place (block ∷ drop (q + 1) all) == 0) ≡ false =
    ne_eqb (run_length c place (block ∷ drop (q + 1) all)) 0 (λ e. omega (arith, run, some, e)) in
    let item : first_item c place block (drop (q + 1) all) ≡ Run (number_of c place (drop q all)) =
    ap (λ (t : Bool). cond t (chosen_item c (reference_of block) (codes_of block)) (Run (number_of c place (block ∷ drop (q + 1) all)))) not_none
    ∙ ap (λ (bs : List (List Told)). Run (number_of c place bs)) (sym cut) in
    from_block c numbers q (zeros - 1) (Run (number_of c place (drop q all))) within (ap (λ (n : ℕ). n - 1) (sym is)) item
    ∙ ap (λ (n : ℕ). coded_of (reference_of block) (Run (number_of c place (drop q all))) ∷ items_of c n 0 (drop n all)) ends

pub block_items : (c : Coding) (numbers : List ℕ) (q : ℕ) → q < block_count c (length numbers)
    → run_length c (q % c.interval) (drop q (blocks_of c numbers)) ≡ 0
    → items_of c q 0 (drop q (blocks_of c numbers))
    ≡ coded_of (reference_of (block_at c numbers q)) (chosen_item c (reference_of (block_at c numbers q)) (codes_of (block_at c numbers q)))
    ∷ items_of c (q + 1) 0 (drop (q + 1) (blocks_of c numbers))
block_items c numbers q within is =
    let all = blocks_of c numbers in
    let block = block_at c numbers q in
    let place = q % c.interval in
    let cut = next_block c numbers q within in
    let ends : q + 1 + 0 ≡ q + 1 = omega arith in
    let run : run_length c place (block ∷ drop (q + 1) all) ≡ 0 = ap (run_length c place) (sym cut) ∙ is in
    let none : (run_length c place (block ∷ drop (q + 1) all) == 0) ≡ true = eq-eqb (run_length c place (block ∷ drop (q + 1) all)) 0 run in
    let item : first_item c place block (drop (q + 1) all) ≡ chosen_item c (reference_of block) (codes_of block) =
    ap (λ (t : Bool). cond t (chosen_item c (reference_of block) (codes_of block)) (Run (number_of c place (block ∷ drop (q + 1) all)))) none in
    from_block c numbers q 0 (chosen_item c (reference_of block) (codes_of block)) within (omega (arith, is)) item
    ∙ ap (λ (n : ℕ). coded_of (reference_of block) (chosen_item c (reference_of block) (codes_of block)) ∷ items_of c n 0 (drop n all)) ends

-- their bits
pub run_bits : (c : Coding) (numbers : List ℕ) (q zeros number : ℕ) (reference : Option ℕ) → q < block_count c (length numbers)
    → zeros ≡ run_length c (q % c.interval) (drop q (blocks_of c numbers)) → 0 < zeros
    → reference ≡ reference_of (block_at c numbers q) → number ≡ number_of c (q % c.interval) (drop q (blocks_of c numbers))
    → bits_from c q (drop q (blocks_of c numbers))
    ≡ coded_bits c (coded_of reference (Run number)) ++ bits_from c (q + zeros) (drop (q + zeros) (blocks_of c numbers))
run_bits c numbers q zeros number reference within is some r n =
    ap (flat_map (coded_bits c)) (run_items c numbers q zeros within is some)
    ∙ ap₂ (λ (o : Option ℕ) (m : ℕ). coded_bits c (coded_of o (Run m)) ++ bits_from c (q + zeros) (drop (q + zeros) (blocks_of c numbers))) (sym r) (sym n)

pub block_bits : (c : Coding) (numbers : List ℕ) (q : ℕ) (reference : Option ℕ) (codes : List ℕ) → q < block_count c (length numbers)
    → run_length c (q % c.interval) (drop q (blocks_of c numbers)) ≡ 0
    → reference ≡ reference_of (block_at c numbers q) → codes ≡ codes_of (block_at c numbers q)
    → bits_from c q (drop q (blocks_of c numbers))
    ≡ coded_bits c (coded_of reference (chosen_item c reference codes)) ++ bits_from c (q + 1) (drop (q + 1) (blocks_of c numbers))
block_bits c numbers q reference codes within is r k =
    ap (flat_map (coded_bits c)) (block_items c numbers q within is)
    ∙ ap₂ (λ (o : Option ℕ) (cs : List ℕ). coded_bits c (coded_of o (chosen_item c o cs)) ++ bits_from c (q + 1) (drop (q + 1) (blocks_of c numbers))) (sym r) (sym k)

-- ---- one item is written

pub item_left : (before now : Written) (all part rest : List Bool) → all ≡ part ++ rest → AddsBits before now part → Leaves before now all rest
item_left before now all part rest is a = next before before now all part rest (left-same before before all all (part ++ rest) is (begin before all)) a

pub number_is : (c : Coding) (numbers : List ℕ) (q zeros : ℕ) (ends : Bool) → zeros ≡ run_length c (q % c.interval) (drop q (blocks_of c numbers))
    → ends ≡ (zeros == run_room c (q % c.interval) || (zeros == block_count c (length numbers) - q))
    → run_number zeros ends ≡ number_of c (q % c.interval) (drop q (blocks_of c numbers))
number_is c numbers q zeros ends is ends_is =
    let all = blocks_of c numbers in
    let place = q % c.interval in
    let long : length (drop q all) ≡ block_count c (length numbers) - q =
    length-drop q all ∙ ap (λ (n : ℕ). n - q) (length-pieces c.block (block_count c (length numbers)) (all_told c numbers)) in
    ap (run_number zeros) ends_is
    ∙ (ap (λ (n : ℕ). run_number zeros (zeros == run_room c place || (zeros == n))) (sym long)
    ∙ ap (λ (n : ℕ). run_number n (n == run_room c place || (n == length (drop q all)))) is)

pub none_left : (c : Coding) (numbers : List ℕ) (q : ℕ) → block_count c (length numbers) ≤ q → bits_from c q (drop q (blocks_of c numbers)) ≡ []
none_left c numbers q end =
    let all = blocks_of c numbers in
    ap (bits_from c q) (drop_all q all (omega (arith, end, length-pieces c.block (block_count c (length numbers)) (all_told c numbers))))

pub at_first : (c : Coding) (numbers : List ℕ) → bits_from c 0 (drop 0 (blocks_of c numbers)) ≡ written c numbers
at_first c numbers = refl
