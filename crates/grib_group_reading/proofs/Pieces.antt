-- Lemmas on numbers that come in pieces.
use Rattle.std.proofs.Common.{◌≡◌, ℕ, Bool, ◌+◌, ◌-◌, ◌*◌, ◌<◌, ◌≤◌, List, [], ◌∷◌, ◌++◌, length, take, drop, map, min, slice_set, refl, sym, ap, ap₂, ◌∙◌, arith, inl, inr, subst, mul_comm, take-append-drop}
use Rattle.std.proofs.lemmas.Bool.{cases_lt}
use Rattle.std.proofs.lemmas.List.{append-nil, length-append, drop-append-le, take-append-le, drop_all, take_all, length-drop, length-take}
use Rattle.std.proofs.Math.Seq.{drop-append-add, take-append-add}
use Rattle.grib_bits.specs.Bits.{bits}
use Rattle.grib_bits.specs.Plain.{plain}
use Rattle.grib_bits.proofs.OctetBits.{bits-append, length-bits}
use Rattle.grib_base.specs.declared.code.Code.{Code}
use Rattle.grib_base.specs.declared.code.Code.TheVariants.{Present}
use Rattle.grib_packing.specs.declared.group.Group.{Group}
use Rattle.grib_packing.specs.declared.layout.Layout.{Layout}
use Rattle.grib_packing.specs.Groups.{code_of, codes_from, packed_bits, reference_octets, width_octets, list_octets, references, widths, lengths}
use Rattle.grib_group_reading.specs.declared.feeding.Fed.{Fed}
use Rattle.grib_group_reading.specs.declared.numbers.Numbers.{Numbers}
use Rattle.grib_group_reading.specs.Taking.{Taken, values, values_within}
use Rattle.grib_group_reading.specs.Table.{groups_in}
use Rattle.grib_group_reading.specs.Going.{left_of, IsShort, Went}
use Rattle.grib_group_reading.specs.declared.lists.Lists.{Lists}
use Rattle.grib_group_reading.specs.declared.lists.References.{References}
use Rattle.grib_group_reading.specs.declared.lists.Widths.{Widths}
use Rattle.grib_group_reading.specs.Lists.{ReferencesTook, WidthsTook}
use Rattle.grib_group_reading.specs.Feeding.{part, no_marks, plain_groups, HasReferences, HasWidths, IsCaughtUp, WasFed}
use Rattle.grib_group_reading.proofs.Coded.{plain_code}
use Rattle.grib_group_reading.proofs.Moves.{went_same, went_then}
use Rattle.grib_group_reading.proofs.Plain.{plain-append}
use Rattle.grib_group_reading.proofs.Runs.{map-plain}
use Rattle.grib_group_reading.proofs.Taken.{taken_before, taken_none, taken_on, taken_whole, taken_within, none_within, within_short, short_of_group, packed_bits-cons}

nothing_of : (n : ℕ) → let none : List ℕ = [] in take n none ≡ none
nothing_of n = let none : List ℕ = [] in take_all n none (omega arith)

pub no_part : (from size : ℕ) → part from size [] ≡ []
no_part from size =
    let none : List ℕ = [] in
    ap (take size) (drop_all from none (omega arith)) ∙ nothing_of size

-- a part of which nothing came
pub part_none : (from size : ℕ) (octets : List ℕ) → length octets ≤ from → part from size octets ≡ []
part_none from size octets short = ap (take size) (drop_all from octets short) ∙ nothing_of size

-- a part of a piece, by its ends within the piece
clipped : (k n : ℕ) (ys : List ℕ) → take n (drop k ys) ≡ take (min (k + n) (length ys) - min k (length ys)) (drop (min k (length ys)) ys)
clipped k n ys = elim (cases_lt (length ys) k) [
  | inl past ↦
      let first : min k (length ys) ≡ length ys = omega arith in
      let none : drop k ys ≡ [] = drop_all k ys (omega arith) in
      let end : drop (min k (length ys)) ys ≡ [] = ap (λ (j : ℕ). drop j ys) first ∙ drop_all (length ys) ys (omega arith) in
      ap (take n) none ∙ nothing_of n
      ∙ sym (ap (take (min (k + n) (length ys) - min k (length ys))) end ∙ nothing_of (min (k + n) (length ys) - min k (length ys)))
  | inr within ↦
      let first : min k (length ys) ≡ k = omega arith in
      elim (cases_lt (length ys) (k + n)) [
        | inl over ↦
            let zs = drop k ys in
            let long : length zs ≡ length ys - k = length-drop k ys in
            let all : take n zs ≡ zs = take_all n zs (omega arith) in
            let count : min (k + n) (length ys) - min k (length ys) ≡ length ys - k = omega arith in
            let same : take (length ys - k) zs ≡ zs = take_all (length ys - k) zs (omega arith) in
            all ∙ sym same ∙ sym (ap₂ (λ (i j : ℕ). take i (drop j ys)) count first)
        | inr inside ↦
            let count : min (k + n) (length ys) - min k (length ys) ≡ n = omega arith in
            sym (ap₂ (λ (i j : ℕ). take i (drop j ys)) count first)
      ]
]

-- a part of a list with a piece behind it
pub part-append : (from size : ℕ) (xs ys : List ℕ)
    → part from size (xs ++ ys) ≡ part from size xs ++ take (min (from + size - length xs) (length ys) - min (from - length xs) (length ys)) (drop (min (from - length xs) (length ys)) ys)
part-append from size xs ys = elim (cases_lt from (length xs)) [
  | inl within ↦
      let zs = drop from xs in
      let long : length zs ≡ length xs - from = length-drop from xs in
      let front : drop from (xs ++ ys) ≡ zs ++ ys = drop-append-le from xs ys (omega arith) in
      elim (cases_lt (length zs) size) [
        | inl over ↦
            let n = size - length zs in
            let parts : size ≡ length zs + n = omega arith in
            let whole : take size zs ≡ zs = take_all size zs (omega arith) in
            let first : from - length xs ≡ 0 = omega arith in
            let end : from + size - length xs ≡ 0 + n = omega arith in
            ap (take size) front
            ∙ ap (λ (k : ℕ). take k (zs ++ ys)) parts
            ∙ take-append-add zs ys n
            ∙ ap₂ (λ (us vs : List ℕ). us ++ vs) (sym whole) (clipped 0 n ys ∙ sym (ap₂ (λ (j k : ℕ). take (min j (length ys) - min k (length ys)) (drop (min k (length ys)) ys)) end first))
        | inr enough ↦
            let nowhere : min (from + size - length xs) (length ys) - min (from - length xs) (length ys) ≡ 0 = omega arith in
            ap (take size) front
            ∙ take-append-le size zs ys enough
            ∙ sym (append-nil (take size zs))
            ∙ ap (λ (bs : List ℕ). take size zs ++ bs) (sym (ap (λ (i : ℕ). take i (drop (min (from - length xs) (length ys)) ys)) nowhere))
      ]
  | inr past ↦
      let k = from - length xs in
      let parts : from ≡ length xs + k = omega arith in
      let none : part from size xs ≡ [] = ap (take size) (drop_all from xs past) ∙ nothing_of size in
      let end : from + size - length xs ≡ k + size = omega arith in
      ap (take size) (ap (λ (j : ℕ). drop j (xs ++ ys)) parts ∙ drop-append-add xs ys k)
      ∙ clipped k size ys
      ∙ ap₂ (λ (us : List ℕ) (j : ℕ). us ++ take (min j (length ys) - min k (length ys)) (drop (min k (length ys)) ys)) (sym none) (sym end)
]

pub part_more : (from size first count : ℕ) (octets piece noted : List ℕ) → first ≡ from → count ≡ size → part first count (octets ++ piece) ≡ part first count octets ++ noted
    → part from size octets ++ noted ≡ part from size (octets ++ piece)
part_more from size first count octets piece noted is_first is_count is =
    subst (λ (f : ℕ). part f size octets ++ noted ≡ part f size (octets ++ piece)) is_first
    (subst (λ (n : ℕ). part first n octets ++ noted ≡ part first n (octets ++ piece)) is_count (sym is))

-- what stands behind the first octets of a list with a piece behind it
pub rest-append : (from : ℕ) (xs ys : List ℕ) → drop from (xs ++ ys) ≡ drop from xs ++ drop (min (from - length xs) (length ys)) ys
rest-append from xs ys = elim (cases_lt from (length xs)) [
  | inl within ↦
      let nothing : min (from - length xs) (length ys) ≡ 0 = omega arith in
      drop-append-le from xs ys (omega arith) ∙ ap (λ (k : ℕ). drop from xs ++ drop k ys) (sym nothing)
  | inr past ↦
      let k = from - length xs in
      let parts : from ≡ length xs + k = omega arith in
      let none : drop from xs ≡ [] = drop_all from xs past in
      ap (λ (j : ℕ). drop j (xs ++ ys)) parts
      ∙ drop-append-add xs ys k
      ∙ elim (cases_lt (length ys) k) [
        | inl over ↦
            let all : min k (length ys) ≡ length ys = omega arith in
            drop_all k ys (omega arith) ∙ sym (ap (λ (j : ℕ). drop j ys) all ∙ drop_all (length ys) ys (omega arith))
        | inr inside ↦
            let same : min k (length ys) ≡ k = omega arith in
            ap (λ (j : ℕ). drop j ys) (sym same)
      ]
      ∙ ap (λ (us : List ℕ). us ++ drop (min k (length ys)) ys) (sym none)
]

-- numbers within the first octets, whatever follows
pub plain-front : (at w count : ℕ) (octets more : List ℕ) → at ≤ length octets → w * count ≤ 8 * (length octets - at) → plain (bits (drop at (octets ++ more))) w count ≡ plain (bits (drop at octets)) w count
plain-front at w count octets more within fits =
    ap (λ (os : List ℕ). plain (bits os) w count) (drop-append-le at octets more within)
    ∙ ap (λ xs. plain xs w count) (bits-append (drop at octets) more)
    ∙ plain-append (bits (drop at octets)) (bits more) w count (omega (arith, length-bits (drop at octets), length-drop at octets))

-- the three lists, whatever follows them
module _ (layout : Layout) (octets more : List ℕ) (within : list_octets layout ≤ length octets) where
  pub references-front : references layout (octets ++ more) ≡ references layout octets
  references-front = plain-front 0 layout.reference_bits layout.groups octets more (omega arith) (omega (arith, mul_comm layout.reference_bits layout.groups))

  pub widths-front : widths layout (octets ++ more) ≡ widths layout octets
  widths-front =
      ap (map (λ (coded : ℕ). layout.width_reference + coded)) (plain-front (reference_octets layout) layout.width_bits layout.groups octets more (omega arith) (omega (arith, mul_comm layout.width_bits layout.groups)))

  pub lengths-front : lengths layout (octets ++ more) ≡ lengths layout octets
  lengths-front =
      ap (λ (ns : List ℕ). slice_set (map (λ n. layout.length_reference + layout.length_increment * n) ns) (layout.groups - 1) layout.last_length)
      (plain-front (reference_octets layout + width_octets layout) layout.length_bits layout.groups octets more (omega arith) (omega (arith, mul_comm layout.length_bits layout.groups)))

-- lists that are whole stay so
pub references_more : (layout : Layout) (start : Lists) (octets more : List ℕ) (now : References) → HasReferences layout start octets now → HasReferences layout start (octets ++ more) now
references_more layout start octets more now has = record {
  came = omega (arith, has.came, length-append octets more);
  took = subst (λ (ns : List ℕ). ReferencesTook start.references (map Present ns) now)
      (sym (plain-front 0 layout.reference_bits layout.groups octets more (omega arith) (omega (arith, has.came, mul_comm layout.reference_bits layout.groups)))) has.took;
}

pub widths_more : (layout : Layout) (start : Lists) (octets more : List ℕ) (now : Widths) → HasWidths layout start octets now → HasWidths layout start (octets ++ more) now
widths_more layout start octets more now has = record {
  came = omega (arith, has.came, length-append octets more);
  took = subst (λ (ns : List ℕ). WidthsTook start.widths (map Present ns) now)
      (sym (plain-front (reference_octets layout) layout.width_bits layout.groups octets more (omega (arith, has.came)) (omega (arith, has.came, mul_comm layout.width_bits layout.groups)))) has.took;
}

-- numbers within a part
pub plain-part : (n w count : ℕ) (octets : List ℕ) → n ≤ length octets → w * count ≤ 8 * n → plain (bits (take n octets)) w count ≡ plain (bits octets) w count
plain-part n w count octets within fits =
    let front = take n octets in
    let long : length front ≡ n = omega (arith, length-take n octets) in
    let whole : bits octets ≡ bits front ++ bits (drop n octets) = ap bits (sym (take-append-drop n octets)) ∙ bits-append front (drop n octets) in
    sym (ap (λ xs. plain xs w count) whole ∙ plain-append (bits front) (bits (drop n octets)) w count (omega (arith, length-bits front)))

-- the codes of numbers none of which is a mark
pub plain_codes : (w count : ℕ) (xs : List Bool) → codes_from no_marks (plain_groups w count) xs ≡ map Present (plain xs w count)
plain_codes w count xs =
    let group : Group = record { reference = 0; width = w; count = count } in
    append-nil (map (code_of no_marks group) (plain xs w count))
    ∙ map-plain (code_of no_marks group) Present xs w (λ n below. plain_code no_marks w count n refl below) count

pub plain_packed : (w count : ℕ) → packed_bits (plain_groups w count) ≡ count * w
plain_packed w count = omega (arith, packed_bits-cons (record { reference = 0; width = w; count = count }) [])

-- the numbers of a part
module _ (from size w count : ℕ) (octets : List ℕ) (within : from + size ≤ length octets) (fits : count * w ≤ 8 * size) where
  pub part_enough : packed_bits (plain_groups w count) ≤ 8 * length (part from size octets)
  part_enough = omega (arith, plain_packed w count, length-take size (drop from octets), length-drop from octets)

  pub part_codes : codes_from no_marks (plain_groups w count) (bits (part from size octets)) ≡ map Present (plain (bits (drop from octets)) w count)
  part_codes =
      plain_codes w count (bits (part from size octets))
      ∙ ap (map Present) (plain-part size w count (drop from octets) (omega (arith, length-drop from octets)) (omega (arith, mul_comm w count)))

-- ---- what is fed

module _ {S : Type 0} (took : S → List Code → S → Type 0) (none : (taker : S) → took taker [] taker)
    (more : (before between after : S) (codes more_codes : List Code) → took before codes between → took between more_codes after → took before (codes ++ more_codes) after) where
  -- no octet came yet
  pub fed_groups : (fed : Fed S) → fed.numbers.current ≡ record { reference = 0; width = 0; count = 0 } → fed.numbers.next ≡ 0 → fed.numbers.pending ≡ []
      → WasFed took fed.layout (groups_in fed.table) fed.taker [] fed
  fed_groups fed is_first is_next is_pending =
      let layout = fed.layout in
      let groups = groups_in fed.table in
      let left : (record { reference = 0; width = 0; count = 0 } ∷ groups) ≡ left_of fed.numbers groups = sym (ap₂ (λ (g : Group) (n : ℕ). g ∷ drop n groups) is_first is_next) in
      record {
        layout_is = refl;
        went = went_same took none more layout groups (left_of fed.numbers groups) [] fed.numbers.pending fed.taker
            (subst (λ (gs : List Group). Taken layout groups [] [] gs fed.numbers.pending) left
            (subst (λ (bs : List Bool). Taken layout groups [] [] (record { reference = 0; width = 0; count = 0 } ∷ groups) bs) (sym is_pending) (taken_before layout (record { reference = 0; width = 0; count = 0 }) groups [] refl)));
      }

  pub fed_list : (fed : Fed S) (w count : ℕ) → fed.layout ≡ no_marks → groups_in fed.table ≡ [] → fed.numbers.current ≡ record { reference = 0; width = w; count = count } → fed.numbers.next ≡ 0 → fed.numbers.pending ≡ []
      → WasFed took no_marks (plain_groups w count) fed.taker [] fed
  fed_list fed w count is_layout is_table is_first is_next is_pending =
      let left : plain_groups w count ≡ left_of fed.numbers (groups_in fed.table) =
      sym (ap₂ (λ (gs : List Group) (n : ℕ). fed.numbers.current ∷ drop n gs) is_table is_next ∙ ap (λ (g : Group). g ∷ []) is_first) in
      record {
        layout_is = is_layout;
        went = went_same took none more no_marks (plain_groups w count) (left_of fed.numbers (groups_in fed.table)) [] fed.numbers.pending fed.taker
            (subst (λ (gs : List Group). Taken no_marks (plain_groups w count) [] [] gs fed.numbers.pending) left
            (subst (λ (bs : List Bool). Taken no_marks (plain_groups w count) [] [] (plain_groups w count) bs) (sym is_pending) (taken_none no_marks (plain_groups w count) [])));
      }

  -- the next octets came
  pub fed_more : (layout : Layout) (groups : List Group) (start : S) (octets piece : List ℕ) (before : Fed S) (numbers : Numbers) (taker : S) → WasFed took layout groups start octets before
      → Went took before.layout (left_of before.numbers (groups_in before.table)) (before.numbers.pending ++ bits piece) before.taker (left_of numbers (groups_in before.table)) numbers.pending taker
      → WasFed took layout groups start (octets ++ piece) (record before { numbers = numbers; taker = taker })
  fed_more layout groups start octets piece before numbers taker fed next =
      let so_far = fed.went in
      let left = left_of before.numbers (groups_in before.table) in
      let last = left_of numbers (groups_in before.table) in
      let behind : Went took layout groups (bits octets ++ bits piece) start left (before.numbers.pending ++ bits piece) before.taker =
      record { codes = so_far.codes; taken = taken_on (bits piece) so_far.taken; passed = so_far.passed } in
      let step = subst (λ (l : Layout). Went took l left (before.numbers.pending ++ bits piece) before.taker last numbers.pending taker) fed.layout_is next in
      record {
        layout_is = fed.layout_is;
        went = subst (λ (bs : List Bool). Went took layout groups bs start last numbers.pending taker) (sym (bits-append octets piece)) (went_then took none more layout behind step);
      }

  -- all octets came, and no further number ends in them
  pub fed_done : (layout : Layout) (groups : List Group) (start : S) (octets : List ℕ) (fed : Fed S) → WasFed took layout groups start octets fed
      → (0 < values (left_of fed.numbers (groups_in fed.table)) → IsShort fed.numbers) → packed_bits groups ≤ 8 * length octets → took start (codes_from layout groups (bits octets)) fed.taker
  fed_done layout groups start octets fed was waits enough =
      let went = was.went in
      let whole : went.codes ≡ codes_from layout groups (bits octets) =
      taken_whole went.taken (omega (arith, length-bits octets)) (λ some.
      let short = waits some in
      short_of_group fed.numbers.current (drop fed.numbers.next (groups_in fed.table)) (length fed.numbers.pending) short.some short.short) in
      subst (λ (cs : List Code). took start cs fed.taker) whole went.passed

  -- all octets came
  pub fed_whole : (layout : Layout) (groups : List Group) (start : S) (octets : List ℕ) (before : Fed S) (numbers : Numbers) (taker : S) → WasFed took layout groups start octets before
      → Went took before.layout (left_of before.numbers (groups_in before.table)) (before.numbers.pending ++ []) before.taker (left_of numbers (groups_in before.table)) numbers.pending taker
      → (0 < values (left_of numbers (groups_in before.table)) → IsShort numbers) → packed_bits groups ≤ 8 * length octets
      → took start (codes_from layout groups (bits octets)) taker
  fed_whole layout groups start octets before numbers taker fed next waits enough =
      let all = fed_more layout groups start octets [] before numbers taker fed next in
      let went = subst (λ (os : List ℕ). Went took layout groups (bits os) start (left_of numbers (groups_in before.table)) numbers.pending taker) (append-nil octets) all.went in
      let whole : went.codes ≡ codes_from layout groups (bits octets) =
      taken_whole went.taken (omega (arith, length-bits octets)) (λ some.
      let short = waits some in
      short_of_group numbers.current (drop numbers.next (groups_in before.table)) (length numbers.pending) short.some short.short) in
      subst (λ (cs : List Code). took start cs taker) whole went.passed

-- ---- how many numbers ended

-- there is a code for each number that ends in the octets that came
pub fed_within : {S : Type 0} (took : S → List Code → S → Type 0) (layout : Layout) (groups : List Group) (start : S) (octets : List ℕ) (fed : Fed S) (was : WasFed took layout groups start octets fed) → IsCaughtUp fed
    → length was.went.codes ≡ values_within groups (8 * length octets)
fed_within took layout groups start octets fed was caught =
    let behind = drop fed.numbers.next (groups_in fed.table) in
    let left = left_of fed.numbers (groups_in fed.table) in
    let size = length fed.numbers.pending in
    let none : values_within left size ≡ 0 = elim (cases_lt 0 (values left)) [
      | inl some ↦ let short = caught.waits some in within_short fed.numbers.current behind size short.some short.short
      | inr none ↦ none_within left size (omega arith)
    ] in
    taken_within was.went.taken none ∙ ap (values_within groups) (length-bits octets)
