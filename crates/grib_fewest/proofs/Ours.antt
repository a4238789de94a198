-- The items that are written are a list of items that tells the numbers, and they are no longer than plain blocks.
use Rattle.std.proofs.Common.{inl, inr, ◌≡◌, ℕ, zero, suc, ◌+◌, ◌-◌, ◌*◌, ◌%◌, ◌<◌, ◌≤◌, false, ◌||◌, ◌==◌, List, [], ◌∷◌, ◌++◌, map, take, drop, replicate, length, Option, Some, None, refl, sym, ap, ◌∙◌, subst, arith, append_assoc, append-nil, length-drop}
use Rattle.std.specs.List.{All}
use Rattle.std.proofs.Math.Nat.{mul-le-mul_left}
use Rattle.std.proofs.lemmas.Nat.{mod_below}
use Rattle.std.proofs.lemmas.Bool.{cases_lt, cases_eq, le-ltb, ltb-false}
use Rattle.std.proofs.lemmas.List.{drop-append-le, drop-replicate, drop_all, take_at}
use Rattle.std.proofs.lemmas.List.Elements.{All-append, All-drop, All-map, All-replicate, All-take, All-weaker}
use Rattle.grib_bits.proofs.Numbers.{length-bits_of}
use Rattle.grib_coding.specs.declared.coding.Coding.{Coding}
use Rattle.grib_coding.specs.Coding.{Fits, block_count, greatest}
use Rattle.grib_coding.specs.Items.{Run, Plain, IsItem, covered}
use Rattle.grib_coding.specs.Numbers.{Told, Reference, Code, told_after}
use Rattle.grib_coding.specs.Reading.{Coded, coded_of, entries_of, entries_with, is_over, is_too_long}
use Rattle.grib_coding.specs.Choices.{chosen}
use Rattle.grib_coding.specs.Runs.{run_room, run_number}
use Rattle.grib_coding.specs.Blocks.{all_told, blocks_of, code_of, codes_of, reference_of}
use Rattle.grib_block_writing.specs.Steps.{block_at}
use Rattle.grib_coding.specs.Written.{chosen_item, coded_bits, items_of, run_length, skip_of, written}
use Rattle.grib_block_writing.proofs.Back.{block_entries, chosen_is_item, chosen_short, one_covered}
use Rattle.grib_block_writing.proofs.Heads.{all_below}
use Rattle.grib_block_writing.proofs.Lengths.{skip_few}
use Rattle.grib_block_writing.proofs.Read.{Covers, RunOf, all_gone, block_and_rest, block_tells, covers, length-block, more_zeros, run_of, whole_run}
use Rattle.grib_block_writing.proofs.Runs.{block_items, number_is, run_items}
use Rattle.grib_block_writing.proofs.Shapes.{length-pieces, length-told, told_block, within_blocks}
use Rattle.grib_block_writing.proofs.Zeros.{fits_block}
use Rattle.grib_fewest.specs.Lists.{AreInSegments, AreReadable, Cover, Tells, block_after, items_written, plain_bits, told_by}
use Rattle.grib_fewest.proofs.At.{At}
use Rattle.grib_fewest.proofs.Left.{left, left-none}
use Rattle.grib_fewest.proofs.ReadBack.{told_within}
use Rattle.grib_fewest.proofs.Sizes.{size-plain}
use Rattle.grib_fewest.proofs.Steps.{step_block}

-- ---- the codes of a block

told_small : (c : Coding) (entry : Told) → is_over c entry ≡ false → code_of entry ≤ greatest c
told_small c (Reference number) is = omega arith
told_small c (Code code) is = ltb-false (greatest c) code is

pub codes_within : (c : Coding) (numbers : List ℕ) (q : ℕ) → All (λ n. n ≤ greatest c) numbers
    → All (λ n. n ≤ greatest c) (codes_of (block_at c numbers q))
codes_within c numbers q all =
    let P : Told → Type 0 = λ (e : Told). is_over c e ≡ false in
    let count = c.block * block_count c (length numbers) - length numbers in
    let told_all : All P (all_told c numbers) =
    All-append P (told_after c 0 0 numbers) (replicate count (Code 0)) (told_within c 0 0 numbers (omega arith) all)
    (All-replicate P count (Code 0) (le-ltb (greatest c) 0 (omega arith))) in
    let block : All P (block_at c numbers q) =
    All-take P c.block (drop (q * c.block) (all_told c numbers)) (All-drop P (q * c.block) (all_told c numbers) told_all) in
    All-map (λ n. n ≤ greatest c) code_of (block_at c numbers q)
    (All-weaker P (λ e. code_of e ≤ greatest c) (told_small c) (block_at c numbers q) block)

-- ---- what is written from a block on

ours : Coding → List ℕ → ℕ → List Coded
ours c numbers q = items_of c q 0 (drop q (blocks_of c numbers))

record Ours (c : Coding) (numbers : List ℕ) (q : ℕ) (items : List Coded) : Type 0 where
  pub cover : Cover c (block_count c (length numbers)) q items
  pub segments : AreInSegments c q items
  pub readable : AreReadable c q items
  pub extra : List Told
  pub told : told_by c q items ≡ drop (q * c.block) (all_told c numbers) ++ extra

-- nothing behind the last block
ours_end : (c : Coding) (numbers : List ℕ) (q : ℕ) → 1 ≤ c.block → block_count c (length numbers) ≤ q → Ours c numbers q []
ours_end c numbers q some end =
    record { cover = end; segments = tt; readable = tt; extra = []; told = ap (λ (xs : List Told). xs ++ []) (sym (all_gone c numbers q some end)) }

none_left : (c : Coding) (numbers : List ℕ) (q : ℕ) → block_count c (length numbers) ≤ q → ours c numbers q ≡ []
unfolding ours
none_left c numbers q end =
    ap (items_of c q 0) (drop_all q (blocks_of c numbers) (omega (arith, end, length-pieces c.block (block_count c (length numbers)) (all_told c numbers))))

-- an item and what follows it
ours_more : (c : Coding) (numbers : List ℕ) (q n : ℕ) (coded : Coded) (items : List Coded) → q < block_count c (length numbers)
    → IsItem c (skip_of coded.reference) coded.item → covered c (q % c.interval) coded.item ≡ n → n ≤ run_room c (q % c.interval)
    → q % c.interval < c.interval → is_too_long coded.item ≡ false
    → drop (q * c.block) (all_told c numbers) ≡ entries_of c (q % c.interval) coded ++ drop ((q + n) * c.block) (all_told c numbers)
    → Ours c numbers (q + n) items → Ours c numbers q (coded ∷ items)
ours_more c numbers q n coded items within is covers_n room place short told later =
    let next : q + n ≡ block_after c q coded = ap (λ (m : ℕ). q + m) (sym covers_n) in
    let entries = entries_of c (q % c.interval) coded in
    let behind = drop ((q + n) * c.block) (all_told c numbers) in
    record {
      cover = (within, is, subst (λ (b : ℕ). Cover c (block_count c (length numbers)) b items) next later.cover);
      segments = (omega (arith, covers_n, room), subst (λ (b : ℕ). AreInSegments c b items) next later.segments);
      readable = (omega (arith, covers_n, room, place), short, subst (λ (b : ℕ). AreReadable c b items) next later.readable);
      extra = later.extra;
      told = ap (λ (b : ℕ). entries ++ told_by c b items) (sym next)
          ∙ (ap (λ (xs : List Told). entries ++ xs) later.told
          ∙ (sym (append_assoc entries behind later.extra) ∙ ap (λ (xs : List Told). xs ++ later.extra) (sym told)));
    }

ours_block : (c : Coding) (numbers : List ℕ) (q : ℕ) → Fits c → All (λ n. n ≤ greatest c) numbers → q < block_count c (length numbers)
    → run_length c (q % c.interval) (drop q (blocks_of c numbers)) ≡ 0 → Ours c numbers (q + 1) (ours c numbers (q + 1))
    → Ours c numbers q (ours c numbers q)
unfolding ours
ours_block c numbers q fits all within none later =
    let place = q % c.interval in
    let block = block_at c numbers q in
    let reference = reference_of block in
    let codes = codes_of block in
    let skip = skip_of reference in
    let B = fits_block c fits in
    let long = length-block c numbers q B.0 within in
    let even : length codes % 2 ≡ 0 = ap (λ (n : ℕ). n % 2) long ∙ B.2 in
    let small = codes_within c numbers q all in
    let is = chosen_is_item c skip codes long (omega (arith, skip_few reference, B.0)) small in
    let place_small : place < c.interval = mod_below q c.interval fits.some_blocks in
    let one : 1 ≤ run_room c place = omega (arith, place_small) in
    let told = block_and_rest c numbers q
    ∙ ap (λ (xs : List Told). xs ++ drop ((q + 1) * c.block) (all_told c numbers))
    (block_tells c numbers q B.0 fits.some_blocks within ∙ sym (block_entries c place reference codes even)) in
    subst (λ (items : List Coded). Ours c numbers q items) (sym (block_items c numbers q within none))
    (ours_more c numbers q 1 (coded_of reference (chosen_item c reference codes)) (ours c numbers (q + 1)) within is
    (one_covered c place skip codes (chosen c skip codes)) one place_small (chosen_short c skip codes even B.1 small) told later)

-- what a run tells
run_entries : (c : Coding) (place number : ℕ) (reference : Option ℕ)
    → entries_of c place (coded_of reference (Run number)) ≡ told_block reference (replicate (c.block * covered c place (Run number)) 0)
unfolding told_block
run_entries c place number None =
    let all = c.block * covered c place (Run number) in
    let same : all - 0 ≡ all = omega arith in
    ap (λ (n : ℕ). map Code (replicate n 0)) same
run_entries c place number (Some first) =
    let all = c.block * covered c place (Run number) in
    ap (λ (cs : List ℕ). Reference first ∷ map Code cs) (sym (drop-replicate 1 all 0))

-- a run to the last block, and maybe past it
ours_last : (c : Coding) (numbers : List ℕ) (q count k : ℕ) (coded : Coded) → Fits c → q < block_count c (length numbers) → 0 < count
    → IsItem c (skip_of coded.reference) coded.item → covered c (q % c.interval) coded.item ≡ k → count ≤ k → k ≤ run_room c (q % c.interval)
    → is_too_long coded.item ≡ false → q + count ≡ block_count c (length numbers)
    → entries_of c (q % c.interval) coded ≡ told_block (reference_of (block_at c numbers q)) (replicate (c.block * k) 0)
    → drop (q * c.block) (all_told c numbers) ≡ told_block (reference_of (block_at c numbers q)) (replicate (c.block * count) 0)
    → Ours c numbers q (coded ∷ [])
ours_last c numbers q count k coded fits within some is covers_k least room short last entries told =
    let B = fits_block c fits in
    let place_small : q % c.interval < c.interval = mod_below q c.interval fits.some_blocks in
    let reference = reference_of (block_at c numbers q) in
    let more = k - count in
    let cut : k ≡ count + more = omega (arith, least) in
    let product : c.block * (count + more) ≡ c.block * count + c.block * more = omega arith in
    let one : c.block * 1 ≤ c.block * count = mul-le-mul_left c.block (omega (arith, some)) in
    let extra = replicate (c.block * more) (Code 0) in
    record {
      cover = (within, is, omega (arith, covers_k, least, last));
      segments = (omega (arith, covers_k, room), tt);
      readable = (omega (arith, covers_k, room, place_small), short, tt);
      extra = extra;
      told = append-nil (entries_of c (q % c.interval) coded)
          ∙ (entries ∙ (ap (λ (n : ℕ). told_block reference (replicate n 0)) (ap (λ (n : ℕ). c.block * n) cut ∙ product)
          ∙ (more_zeros reference (c.block * count) (c.block * more) (omega (arith, one, B.0))
          ∙ ap (λ (xs : List Told). xs ++ extra) (sym told))));
    }

ours_run : (c : Coding) (numbers : List ℕ) (q count : ℕ) → Fits c → q < block_count c (length numbers)
    → count ≡ run_length c (q % c.interval) (drop q (blocks_of c numbers)) → 0 < count → Ours c numbers (q + count) (ours c numbers (q + count))
    → Ours c numbers q (ours c numbers q)
unfolding ours
ours_run c numbers q count fits within is some later =
    let place = q % c.interval in
    let reference = reference_of (block_at c numbers q) in
    let B = fits_block c fits in
    let ends = count == run_room c place || (count == block_count c (length numbers) - q) in
    let number = run_number count ends in
    let coded = coded_of reference (Run number) in
    let k = covered c place (Run number) in
    let run : RunOf c numbers q count = subst (λ (n : ℕ). RunOf c numbers q n) (sym is) (run_of c numbers q within) in
    let reads : Covers c numbers q count k = covers c numbers q count run some in
    let place_small : place < c.interval = mod_below q c.interval fits.some_blocks in
    let entries = run_entries c place number reference in
    let told = whole_run c numbers q count B.0 fits.some_blocks run some in
    let items = run_items c numbers q count within is some
    ∙ ap (λ (n : ℕ). coded_of reference (Run n) ∷ ours c numbers (q + count)) (sym (number_is c numbers q count ends is refl)) in
    subst (λ (items : List Coded). Ours c numbers q items) (sym items) (elim reads.end [
      | inl same ↦
          ours_more c numbers q count coded (ours c numbers (q + count)) within tt same run.room place_small refl
          (told ∙ ap (λ (xs : List Told). xs ++ drop ((q + count) * c.block) (all_told c numbers))
          (sym (entries ∙ ap (λ (n : ℕ). told_block reference (replicate (c.block * n) 0)) same))) later
      | inr last ↦
          let gone = all_gone c numbers (q + count) B.0 (omega (arith, last)) in
          let front : drop (q * c.block) (all_told c numbers) ≡ told_block reference (replicate (c.block * count) 0) =
          told ∙ (ap (λ (xs : List Told). told_block reference (replicate (c.block * count) 0) ++ xs) gone
          ∙ append-nil (told_block reference (replicate (c.block * count) 0))) in
          subst (λ (rest : List Coded). Ours c numbers q (coded ∷ rest)) (sym (none_left c numbers (q + count) (omega (arith, last))))
          (ours_last c numbers q count k coded fits within some tt refl reads.least reads.room refl last entries front)
    ])

ours_from : (c : Coding) (numbers : List ℕ) (most q : ℕ) → Fits c → All (λ n. n ≤ greatest c) numbers
    → block_count c (length numbers) ≤ q + most → Ours c numbers q (ours c numbers q)
ours_from c numbers zero q fits all enough =
    let end : block_count c (length numbers) ≤ q = omega (arith, enough) in
    subst (λ (items : List Coded). Ours c numbers q items) (sym (none_left c numbers q end)) (ours_end c numbers q ((fits_block c fits).0) end)
ours_from c numbers (suc most) q fits all enough = elim (cases_lt q (block_count c (length numbers))) [
  | inl within ↦ elim (cases_eq (run_length c (q % c.interval) (drop q (blocks_of c numbers))) 0) [
    | inl none ↦ ours_block c numbers q fits all within none (ours_from c numbers most (q + 1) fits all (omega (arith, enough)))
    | inr some ↦
        let count = run_length c (q % c.interval) (drop q (blocks_of c numbers)) in
        let more : 0 < count = omega (arith, some) in
        ours_run c numbers q count fits within refl more (ours_from c numbers most (q + count) fits all (omega (arith, enough, more)))
  ]
  | inr end ↦
      subst (λ (items : List Coded). Ours c numbers q items) (sym (none_left c numbers q end)) (ours_end c numbers q ((fits_block c fits).0) end)
]

pub all_ours : (c : Coding) (numbers : List ℕ) → Fits c → All (λ n. n ≤ greatest c) numbers
    → Tells c numbers (items_written c numbers) × AreInSegments c 0 (items_written c numbers) × AreReadable c 0 (items_written c numbers)
unfolding ours
all_ours c numbers fits all =
    let blocks = block_count c (length numbers) in
    let told = told_after c 0 0 numbers in
    let filling = replicate (c.block * blocks - length numbers) (Code 0) in
    let none : 0 * c.block ≡ 0 = omega arith in
    let o : Ours c numbers 0 (items_written c numbers) = ours_from c numbers blocks 0 fits all (omega arith) in
    let entries : take (length numbers) (told_by c 0 (items_written c numbers)) ≡ told =
    ap (take (length numbers)) (o.told ∙ (ap (λ (n : ℕ). drop n (all_told c numbers) ++ o.extra) none ∙ append_assoc told filling o.extra))
    ∙ take_at told (filling ++ o.extra) (length numbers) (length-told c 0 0 numbers) in
    (record { whole = o.cover; told = entries }, o.segments, o.readable)

-- ---- no more than plain blocks

plain_entries : (c : Coding) (place : ℕ) (reference : Option ℕ) (codes : List ℕ)
    → entries_with c place reference (Plain (drop (skip_of reference) codes)) ≡ told_block reference codes
unfolding told_block
plain_entries c place None codes = refl
plain_entries c place (Some number) codes = refl

plain_at : (c : Coding) (numbers : List ℕ) (q : ℕ) → Fits c → All (λ n. n ≤ greatest c) numbers → q < block_count c (length numbers)
    → At c numbers q (reference_of (block_at c numbers q)) (Plain (drop (skip_of (reference_of (block_at c numbers q))) (codes_of (block_at c numbers q))))
    (drop ((q + 1) * c.block) (all_told c numbers))
plain_at c numbers q fits all within =
    let reference = reference_of (block_at c numbers q) in
    let codes = codes_of (block_at c numbers q) in
    let skip = skip_of reference in
    let B = fits_block c fits in
    let start = q * c.block in
    let told = told_after c 0 0 numbers in
    let filling = replicate (c.block * block_count c (length numbers) - length numbers) (Code 0) in
    let rest = drop ((q + 1) * c.block) (all_told c numbers) in
    let inside = within_blocks c (length numbers) q B.0 within in
    let n = length numbers - start in
    let whole : entries_with c (q % c.interval) reference (Plain (drop skip codes)) ++ rest ≡ drop start told ++ filling =
    ap (λ (xs : List Told). xs ++ rest)
    (plain_entries c (q % c.interval) reference codes ∙ sym (block_tells c numbers q B.0 fits.some_blocks within))
    ∙ (sym (block_and_rest c numbers q) ∙ drop-append-le start told filling (omega (arith, inside.0, length-told c 0 0 numbers))) in
    record {
      fits = fits;
      within = within;
      is = (
        omega (arith, length-drop skip codes, length-block c numbers q B.0 within, skip_few reference, B.0),
        all_below c.bits (drop skip codes) (All-drop (λ n. n ≤ greatest c) skip codes (codes_within c numbers q all)),
      );
      told = ap (take n) whole
          ∙ take_at (drop start told) filling n (length-drop start told ∙ ap (λ (m : ℕ). m - start) (length-told c 0 0 numbers));
    }

plain_size : (c : Coding) (reference : Option ℕ) (codes : List ℕ) → length codes ≡ c.block → 1 ≤ c.block
    → length (coded_bits c (coded_of reference (Plain (drop (skip_of reference) codes)))) ≡ plain_bits c
plain_size c None codes long some = omega (arith, size-plain c None codes, ap (λ (n : ℕ). n * c.bits) long)
plain_size c (Some number) codes long some =
    let kept : length (drop 1 codes) + 1 ≡ c.block = omega (arith, length-drop 1 codes, long, some) in
    omega (
      arith,
      size-plain c (Some number) (drop 1 codes),
      length-bits_of c.bits number,
      ap (λ (n : ℕ). n * c.bits) kept,
    )

few : (c : Coding) (numbers : List ℕ) (m q : ℕ) → Fits c → All (λ n. n ≤ greatest c) numbers → q + m ≡ block_count c (length numbers)
    → left c numbers q ≤ m * plain_bits c
few c numbers zero q fits all is = omega (arith, left-none c numbers q (omega (arith, is)))
few c numbers (suc m) q fits all is =
    let reference = reference_of (block_at c numbers q) in
    let codes = codes_of (block_at c numbers q) in
    let B = fits_block c fits in
    let within : q < block_count c (length numbers) = omega (arith, is) in
    let plain = plain_bits c in
    let product : suc m * plain ≡ plain + m * plain = omega arith in
    omega (
      arith,
      step_block c numbers q reference (Plain (drop (skip_of reference) codes)) (drop ((q + 1) * c.block) (all_told c numbers))
          (plain_at c numbers q fits all within) tt,
      plain_size c reference codes (length-block c numbers q B.0 within) B.0,
      few c numbers m (q + 1) fits all (omega (arith, is)),
      product,
    )

pub no_longer : (c : Coding) (numbers : List ℕ) → Fits c → All (λ n. n ≤ greatest c) numbers
    → length (written c numbers) ≤ block_count c (length numbers) * plain_bits c
unfolding left
no_longer c numbers fits all = few c numbers (block_count c (length numbers)) 0 fits all (omega arith)
