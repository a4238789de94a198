-- Lemmas on what is known of a Section 7 as more octets come.
use Rattle.std.proofs.Common.{◌≡◌, ℕ, ◌+◌, ◌-◌, ◌*◌, ◌^◌, ◌<◌, ◌≤◌, min, Bool, Some, None, List, [], ◌∷◌, ◌++◌, length, map, take, drop, vec_capacity, refl, sym, ap, ◌∙◌, append_assoc, add-mul, arith, mul_comm, subst, take-append-drop, inl, inr}
use Rattle.std.proofs.Math.Nat.{mul-le-mul_right}
use Rattle.std.proofs.lemmas.Bool.{cases_lt}
use Rattle.std.proofs.lemmas.List.{length-append, length-drop, drop-append-le, drop_all, take_all, append-nil, get_or_append_left, get_or-append_right, length-map, map-append}
use Rattle.grib_packing.specs.Groups.{codes_from, packed_bits, list_octets, reference_octets, width_octets, length_octets}
use Rattle.grib_group_reading.specs.declared.feeding.Fed.{Fed}
use Rattle.grib_group_reading.specs.declared.list_feeding.FedLists.{FedLists}
use Rattle.grib_group_reading.specs.declared.list_feeding.FedLists.TheVariants.{AtReferences, AtWidths, AtLengths}
use Rattle.grib_group_reading.specs.declared.lists.Lists.{Lists as GroupLists}
use Rattle.grib_group_reading.specs.declared.lists.References.{References}
use Rattle.grib_group_reading.specs.Feeding.{part, AreFeedable, CanBeFed, IsCaughtUp, IsFeedable, IsList, Listing, ListsFed, WasFed, list_pending, no_marks, pending_of, plain_groups}
use Rattle.grib_group_reading.specs.Going.{left_of}
use Rattle.grib_group_reading.specs.Lists.{ReferencesTook}
use Rattle.grib_group_reading.specs.Table.{groups_in}
use Rattle.grib_group_reading.specs.Taking.{IsEnd, number_of}
use Rattle.grib_group_reading.proofs.Coded.{numbers_present}
use Rattle.grib_group_reading.proofs.Pieces.{part-append, part_more, plain-part, plain_codes}
use Rattle.grib_group_reading.proofs.Listed.{no_groups}
use Rattle.grib_group_reading.proofs.Taken.{packed_bits-cons, values-cons}
use Rattle.grib_bits.proofs.OctetBits.{bits-append, length-bits}
use Rattle.grib_base.specs.declared.code.Code.TheVariants.{Present}
use Rattle.grib_complex_reading.specs.Descriptors.{numbers_at}
use Rattle.grib_complex_reading.specs.declared.stages.Between.{Between}
use Rattle.grib_complex_reading.specs.declared.stages.ComplexReading.{ComplexReading}
use Rattle.grib_complex_reading.specs.declared.stages.ComplexReading.TheVariants.{Begins, Lists, ReadsPlainly, Reads, Passes, Refused}
use Rattle.grib_complex_reading.specs.declared.representation.Complex.{Complex}
use Rattle.grib_complex_reading.specs.declared.values.PlainValues.{PlainValues}
use Rattle.grib_complex_reading.specs.declared.values.Values.{Values}
use Rattle.grib_complex_reading.specs.Descriptors.{IsAccepted}
use Rattle.grib_bits.specs.Bits.{bits}
use Rattle.grib_base.specs.declared.fault.Reason.TheVariants.{ScaledRange}
use Rattle.grib_base.specs.Rules.{first_place, located, refusal}
use Rattle.grib_packing.specs.declared.column.Point.{Point}
use Rattle.grib_packing.specs.Entries.{data_fault, entries_of, is_out_of_range}
use Rattle.grib_group_reading.specs.Taking.{values}
use Rattle.grib_group_reading.proofs.Taken.{length-codes_from}
use Rattle.grib_complex_reading.specs.Feeding.{AreOctets, Continues, ListingAgrees, PassingAgrees, PlainAgrees, ReadingAgrees, ReadingPlainly, StateAgrees, IsFaultOf, pending_in}
use Rattle.grib_complex_reading.proofs.Told.{length-told}
use Rattle.grib_complex_reading.specs.Tells.{PlainTook, ValuesTook}
use Rattle.grib_complex_reading.specs.Told.{Telling, Plainly, told, undoing}
use Rattle.grib_packing.specs.declared.group.Group.{Group}
use Rattle.grib_packing.specs.declared.layout.Layout.{Layout}
use Rattle.grib_packing.specs.Packing.{value_count}
use Rattle.grib_complex_reading.proofs.Arriving.{continues_from}
use Rattle.grib_complex_reading.proofs.SoFar.{plain_so_far, points_agree, undone}

-- there are at most 12 octets of descriptors
pub few_descriptors : (complex : Complex) → IsAccepted complex → (complex.order + 1) * complex.extra ≤ 12
few_descriptors complex accepted =
    let order : complex.order + 1 ≤ 3 = elim accepted.order [
      | inl two ↦ omega (arith, two.1)
      | inr three ↦ elim three.1 [ inl one ↦ omega arith | inr other ↦ omega arith ]
    ] in
    let up : (complex.order + 1) * complex.extra ≤ 3 * complex.extra = mul-le-mul_right complex.extra order in
    omega (arith, accepted.extra)

-- the lists, whatever octets of them come
pub listing_ahead : {K : Type 0} (s5 : List ℕ) (keeper : K) (l : ℕ) (octets piece : List ℕ) (b : Between K) → ListingAgrees s5 keeper l octets octets b → ListingAgrees s5 keeper l octets (octets ++ piece) b
listing_ahead s5 keeper l octets piece b agrees = record {
  spelled = agrees.spelled;
  accepted = agrees.accepted;
  groups = agrees.groups;
  few = agrees.few;
  within = agrees.within;
  came = omega (arith, agrees.came, length-append octets piece);
  order = agrees.order;
  first = agrees.first;
  second = agrees.second;
  minimum = agrees.minimum;
  told_is = λ s7 c. agrees.told_is s7 (continues_from octets piece l s7 c);
  unsigned = λ s7 c. agrees.unsigned s7 (continues_from octets piece l s7 c);
  lists = agrees.lists;
  feedable = agrees.feedable;
  keeper_is = agrees.keeper_is;
}

-- more of them came
pub listing_more : {K : Type 0} (s5 : List ℕ) (keeper : K) (l : ℕ) (octets piece : List ℕ) (b : Between K) (k : ℕ) (listed : List ℕ) (lists : FedLists) → k ≡ (b.complex.order + 1) * b.complex.extra
    → drop k (octets ++ piece) ≡ drop k octets ++ listed → AreFeedable b.complex.layout lists
    → (ListsFed b.complex.layout b.complex.simple.values (drop k octets) b.lists → ListsFed b.complex.layout b.complex.simple.values (drop k octets ++ listed) lists)
    → ListingAgrees s5 keeper l octets (octets ++ piece) b → ListingAgrees s5 keeper l (octets ++ piece) (octets ++ piece) (record b { lists = lists })
listing_more s5 keeper l octets piece b k listed lists is_k is feedable fed agrees =
    let before = subst (λ (n : ℕ). ListsFed b.complex.layout b.complex.simple.values (drop n octets) b.lists) (sym is_k) agrees.lists in
    let now = subst (λ (os : List ℕ). ListsFed b.complex.layout b.complex.simple.values os lists) (sym is) (fed before) in
    record {
      spelled = agrees.spelled;
      accepted = agrees.accepted;
      groups = agrees.groups;
      few = agrees.few;
      within = agrees.within;
      came = agrees.came;
      order = agrees.order;
      first = agrees.first;
      second = agrees.second;
      minimum = agrees.minimum;
      told_is = agrees.told_is;
      unsigned = agrees.unsigned;
      lists = subst (λ (n : ℕ). ListsFed b.complex.layout b.complex.simple.values (drop n (octets ++ piece)) lists) is_k now;
      feedable = feedable;
      keeper_is = agrees.keeper_is;
    }

-- what follows the octets before the packed numbers
pub first_numbers : (octets piece rest : List ℕ) (whole : ℕ) → length octets ≤ whole → drop whole (octets ++ piece) ≡ drop whole octets ++ rest → rest ≡ drop whole (octets ++ piece)
first_numbers octets piece rest whole below is = sym (is ∙ ap (λ (us : List ℕ). us ++ rest) (drop_all whole octets below))

-- more packed numbers came
pub plain_more : {K : Type 0} (kept : K → List Point → K → Type 0) (keeper : K) (l : ℕ) (octets piece : List ℕ) (layout : Layout) (groups : List Group) (before : ℕ) (fed after : Fed (PlainValues K)) → IsFeedable (2 ^ 49) after
    → IsCaughtUp after
    → ((layout : _) (groups : _) (first : PlainValues K) (os : List ℕ) → WasFed (PlainTook kept) layout groups first os fed → WasFed (PlainTook kept) layout groups first (os ++ piece) after)
    → PlainAgrees kept keeper l octets layout groups before fed → PlainAgrees kept keeper l (octets ++ piece) layout groups before after
plain_more kept keeper l octets piece layout groups before fed after feedable caught_up more reads = record {
  came = omega (arith, reads.came, length-append octets piece);
  enough = reads.enough;
  feedable = feedable;
  so_far = subst (λ (os : List ℕ). WasFed (PlainTook kept) layout groups (record { keeper = keeper }) os after) (sym (drop-append-le before octets piece reads.came))
      (more layout groups (record { keeper = keeper }) (drop before octets) reads.so_far);
  caught_up = caught_up;
}

pub reading_plainly_more : {K : Type 0} (kept : K → List Point → K → Type 0) (s5 : List ℕ) (keeper : K) (l : ℕ) (octets piece : List ℕ) (fed after : Fed (PlainValues K)) → IsFeedable (2 ^ 49) after
    → IsCaughtUp after → after.table ≡ fed.table
    → ((layout : _) (groups : _) (first : PlainValues K) (os : List ℕ) → WasFed (PlainTook kept) layout groups first os fed → WasFed (PlainTook kept) layout groups first (os ++ piece) after)
    → ReadingPlainly kept s5 keeper l octets fed → ReadingPlainly kept s5 keeper l (octets ++ piece) after
reading_plainly_more kept s5 keeper l octets piece fed after feedable caught_up same_table more reading =
    let reads = plain_more kept keeper l octets piece reading.layout reading.groups reading.before fed after feedable caught_up more reading.reads in
    record {
      layout = reading.layout;
      groups = reading.groups;
      before = reading.before;
      reads = reads;
      counted = reading.counted;
      entries = λ s7 c. reading.entries s7 (continues_from octets piece l s7 c);
      passes = λ s7 c. reading.passes s7 (continues_from octets piece l s7 c);
      before_is = reading.before_is;
      groups_are = λ s7 c. reading.groups_are s7 (continues_from octets piece l s7 c);
      table = λ s7 c. ap groups_in same_table ∙ reading.table s7 (continues_from octets piece l s7 c);
      telling_is = λ s7 c. reading.telling_is s7 (continues_from octets piece l s7 c);
      points = λ s7 c.
          let earlier = continues_from octets piece l s7 c in
          plain_so_far kept s5 keeper l (octets ++ piece) reading.layout reading.groups reading.before after reads s7 c (reading.entries s7 earlier) (reading.groups_are s7 earlier) reading.before_is;
    }

pub reading_more : {K : Type 0} (kept : K → List Point → K → Type 0) (s5 : List ℕ) (keeper : K) (start l : ℕ) (octets piece : List ℕ) (fed after : Fed (Values K)) → IsFeedable (2 ^ 49) after
    → IsCaughtUp after → after.table ≡ fed.table
    → ((layout : _) (groups : _) (first : Values K) (os : List ℕ) → WasFed (ValuesTook kept) layout groups first os fed → WasFed (ValuesTook kept) layout groups first (os ++ piece) after)
    → ReadingAgrees kept s5 keeper start l octets fed → ReadingAgrees kept s5 keeper start l (octets ++ piece) after
reading_more kept s5 keeper start l octets piece fed after feedable caught_up same_table more reads =
    let came : reads.before ≤ length (octets ++ piece) = omega (arith, reads.came, length-append octets piece) in
    let so_far = subst (λ (os : List ℕ). WasFed (ValuesTook kept) reads.layout reads.groups reads.first os after) (sym (drop-append-le reads.before octets piece reads.came))
    (more reads.layout reads.groups reads.first (drop reads.before octets) reads.so_far) in
    let entries = λ (s7 : List ℕ) (c : Continues (octets ++ piece) l s7). reads.entries s7 (continues_from octets piece l s7 c) in
    record {
      layout = reads.layout;
      groups = reads.groups;
      telling = reads.telling;
      first = reads.first;
      before = reads.before;
      came = came;
      feedable = feedable;
      so_far = so_far;
      fresh = reads.fresh;
      keeper_is = reads.keeper_is;
      few = reads.few;
      counted = reads.counted;
      enough = reads.enough;
      entries = entries;
      within = λ s7 c. reads.within s7 (continues_from octets piece l s7 c);
      beyond = λ s7 c. reads.beyond s7 (continues_from octets piece l s7 c);
      caught_up = caught_up;
      before_is = reads.before_is;
      groups_are = λ s7 c. reads.groups_are s7 (continues_from octets piece l s7 c);
      table = λ s7 c. ap groups_in same_table ∙ reads.table s7 (continues_from octets piece l s7 c);
      telling_is = λ s7 c. reads.telling_is s7 (continues_from octets piece l s7 c);
      undone_with = λ s7 c.
          undone kept reads.layout reads.groups reads.telling reads.first (drop reads.before (octets ++ piece)) after so_far reads.fresh ∙ ap undoing (reads.telling_is s7 (continues_from octets piece l s7 c));
      points = λ s7 c.
          points_agree kept s5 keeper l (octets ++ piece) reads.layout reads.groups reads.telling reads.first reads.before after so_far caught_up reads.fresh reads.keeper_is reads.few came s7 c (entries s7 c)
          (reads.groups_are s7 (continues_from octets piece l s7 c)) reads.before_is;
    }

pub passing_more : {K : Type 0} (kept : K → List Point → K → Type 0) (s5 : List ℕ) (keeper : K) (l : ℕ) (octets piece : List ℕ) (after : K)
    → PassingAgrees kept s5 keeper l octets after → PassingAgrees kept s5 keeper l (octets ++ piece) after
passing_more kept s5 keeper l octets piece after passing = record {
  passes = λ s7 continues. passing.passes s7 (continues_from octets piece l s7 continues);
  counted = λ s7 continues. passing.counted s7 (continues_from octets piece l s7 continues);
  keeps = passing.keeps;
}

pub fault_more : (s5 : List ℕ) (start l : ℕ) (octets piece : List ℕ) (fault : _) → IsFaultOf s5 start l octets fault → IsFaultOf s5 start l (octets ++ piece) fault
fault_more s5 start l octets piece fault is = λ s7 continues. is s7 (continues_from octets piece l s7 continues)

-- ---- pending bits

pub both_octets : (xs ys : List ℕ) → AreOctets xs → AreOctets ys → AreOctets (xs ++ ys)
both_octets xs ys first second = λ i. elim (cases_lt i (length xs)) [
  | inl within ↦ omega (arith, get_or_append_left xs ys 0 i within, first i)
  | inr past ↦ omega (arith, get_or-append_right xs ys (length xs) i 0 refl past, second (i - length xs))
]

-- the end of what stands behind the first octets
pub end_behind : (n : ℕ) (xs : List ℕ) (last : List Bool) → IsEnd last (bits (drop n xs)) → IsEnd last (bits xs)
end_behind n xs last end = record {
  before = bits (take n xs) ++ end.before;
  joined = append_assoc (bits (take n xs)) end.before last ∙ ap (λ (bs : List Bool). bits (take n xs) ++ bs) end.joined
      ∙ sym (bits-append (take n xs) (drop n xs)) ∙ ap bits (take-append-drop n xs);
}

part_all : (from size : ℕ) (xs : List ℕ) → length xs ≤ from + size → part from size xs ≡ drop from xs
part_all from size xs short = take_all size (drop from xs) (omega (arith, length-drop from xs))

-- the end of a part that goes on to the end
end_of_part : (from size : ℕ) (xs : List ℕ) (last : List Bool) → length xs ≤ from + size → IsEnd last (bits (part from size xs)) → IsEnd last (bits xs)
end_of_part from size xs last short end = end_behind from xs last (subst (λ (os : List ℕ). IsEnd last (bits os)) (part_all from size xs short) end)

-- at most the bits of one number are pending
pub few_pending : {S : Type 0} (limit : ℕ) (fed : Fed S) → IsFeedable limit fed → length (pending_of fed) ≤ 64
few_pending limit fed feedable = elim (cases_lt 0 (length fed.numbers.pending)) [
  | inl some ↦ let short = feedable.ready.pending some in omega (arith, short.short, feedable.ready.readable.width)
  | inr none ↦ omega arith
]

few_listed : (layout : Layout) (lists : FedLists) → CanBeFed layout lists → length (list_pending lists) ≤ 64
few_listed layout (AtReferences references widths lengths) can = few_pending (2 ^ 32) references can.0
few_listed layout (AtWidths references widths lengths) can = few_pending (2 ^ 32) widths can.0
few_listed layout (AtLengths references widths lengths) can = few_pending (2 ^ 32) lengths can.0

end_listed : (layout : Layout) (start : GroupLists) (octets : List ℕ) (lists : FedLists) → length octets ≤ list_octets layout → Listing layout start octets lists → IsEnd (list_pending lists) (bits octets)
end_listed layout start octets (AtReferences references widths lengths) below listing =
    end_of_part 0 (reference_octets layout) octets (pending_of references) (omega (arith, listing.short)) listing.reads.went.taken.ends
end_listed layout start octets (AtWidths references widths lengths) below listing =
    end_of_part (reference_octets layout) (width_octets layout) octets (pending_of widths) (omega (arith, listing.short)) listing.reads.went.taken.ends
end_listed layout start octets (AtLengths references widths lengths) below listing =
    end_of_part (reference_octets layout + width_octets layout) (length_octets layout) octets (pending_of lengths) (omega (arith, below)) listing.reads.went.taken.ends

pub record Pends {K : Type 0} (octets : List ℕ) (state : ComplexReading K) : Type 0 where
  pub few : length (pending_in state) ≤ 64
  pub last : IsEnd (pending_in state) (bits octets)

pub none_pending : (octets : List ℕ) → let none : List Bool = [] in IsEnd none (bits octets)
none_pending octets = record { before = bits octets; joined = append-nil (bits octets) }

pub state_pends : {K : Type 0} (kept : K → List Point → K → Type 0) (s5 : List ℕ) (keeper : K) (start l : ℕ) (octets : List ℕ) (state : ComplexReading K) → StateAgrees kept s5 keeper start l octets state → Pends octets state
state_pends kept s5 keeper start l octets (Begins b) agrees =
    let a = agrees.0 in
    let k = (b.complex.order + 1) * b.complex.extra in
    record { few = few_pending (2 ^ 32) b.descriptors a.feedable; last = end_of_part 0 k octets (pending_of b.descriptors) (omega (arith, a.below)) a.descriptors.went.taken.ends }
state_pends kept s5 keeper start l octets (Lists b) agrees =
    let a = agrees.0 in
    let k = (b.complex.order + 1) * b.complex.extra in
    record {
      few = few_listed b.complex.layout b.lists a.feedable.list;
      last = end_behind k octets (list_pending b.lists) (end_listed b.complex.layout a.lists.start (drop k octets) b.lists (omega (arith, agrees.1, length-drop k octets)) a.lists.listing);
    }
state_pends kept s5 keeper start l octets (ReadsPlainly fed) agrees =
    let reads = agrees.reads in
    record { few = few_pending (2 ^ 49) fed reads.feedable; last = end_behind agrees.before octets (pending_of fed) reads.so_far.went.taken.ends }
state_pends kept s5 keeper start l octets (Reads fed) agrees =
    record { few = few_pending (2 ^ 49) fed agrees.feedable; last = end_behind agrees.before octets (pending_of fed) agrees.so_far.went.taken.ends }
state_pends kept s5 keeper start l octets (Passes after) agrees = record { few = omega arith; last = none_pending octets }
state_pends kept s5 keeper start l octets (Refused fault after) agrees = record { few = omega arith; last = none_pending octets }

-- ---- the extra descriptors

-- more of them came
pub descriptors_fed : (k size w n : ℕ) (first : References) (octets piece noted : List ℕ) (before after : Fed References) → k ≡ size → part 0 k (octets ++ piece) ≡ part 0 k octets ++ noted
    → ((layout : Layout) (groups : List Group) (start : References) (os : List ℕ) → WasFed ReferencesTook layout groups start os before → WasFed ReferencesTook layout groups start (os ++ noted) after)
    → WasFed ReferencesTook no_marks (plain_groups w n) first (part 0 size octets) before → WasFed ReferencesTook no_marks (plain_groups w n) first (part 0 size (octets ++ piece)) after
descriptors_fed k size w n first octets piece noted before after is_k is more fed =
    subst (λ (os : List ℕ). WasFed ReferencesTook no_marks (plain_groups w n) first os after) (part_more 0 size 0 k octets piece noted refl is_k is)
    (more no_marks (plain_groups w n) first (part 0 size octets) fed)

-- what was read is what the codes tell
pub read_items : (first : References) (fed : Fed References) (w n : ℕ) (os : List ℕ) → first.items.items ≡ [] → 3 ≤ vec_capacity first.items → n ≤ 3
    → (was : WasFed ReferencesTook no_marks (plain_groups w n) first os fed) → fed.taker.items.items ≡ map number_of was.went.codes
read_items first fed w n os empty memory few was =
    let count : length was.went.codes ≤ 3 = omega (arith, was.went.taken.counted, values-cons (record { reference = 0; width = w; count = n }) []) in
    let grown = was.went.passed (omega (arith, ap length empty)) in
    grown.items ∙ ap (λ (us : List ℕ). us ++ map number_of was.went.codes) empty

-- numbers that are whole were read
pub numbers_read : (first : References) (fed : Fed References) (extra n j : ℕ) (os : List ℕ) → first.items.items ≡ [] → 3 ≤ vec_capacity first.items → n ≤ 3 → IsFeedable (2 ^ 32) fed → IsList (8 * extra) fed → IsCaughtUp fed
    → WasFed ReferencesTook no_marks (plain_groups (8 * extra) n) first os fed → j < n → (j + 1) * extra ≤ length os → j < length fed.taker.items.items
numbers_read first fed extra n j os empty memory few feedable list caught was within came =
    let w = 8 * extra in
    let codes = was.went.codes in
    let taken = was.went.taken in
    let current = fed.numbers.current in
    let no_more = no_groups fed.table feedable.whole fed.numbers.next (omega (arith, list.all)) in
    let left = ap (λ (gs : List Group). values (current ∷ gs)) no_more in
    let packed = ap (λ (gs : List Group). packed_bits (current ∷ gs)) no_more in
    let all = values-cons (record { reference = 0; width = w; count = n }) [] in
    let items = ap length (read_items first fed w n os empty memory few was) in
    let long = length-map codes number_of in
    elim (cases_lt 0 (values (left_of fed.numbers (groups_in fed.table)))) [
      | inl some ↦
          let short = caught.waits some in
          let rest = values-cons current [] in
          let bits_left = packed_bits-cons current [] in
          let bits_all = packed_bits-cons (record { reference = 0; width = w; count = n }) [] in
          let used = taken.used some in
          let counts : n ≡ length codes + current.count = omega (arith, taken.counted, all, left, rest) in
          let width : current.count * current.width ≡ current.count * w = ap (λ (k : ℕ). current.count * k) list.current in
          let product : n * w ≡ length codes * w + current.count * w = ap (λ (k : ℕ). k * w) counts ∙ add-mul (length codes) current.count w in
          let size = length-bits os in
          let pending : 8 * length os ≡ length codes * w + length fed.numbers.pending = omega (arith, used, packed, bits_left, bits_all, width, product, size) in
          elim (cases_lt j (length codes)) [
            | inl below ↦ omega (arith, items, long)
            | inr past ↦
                let up : (length codes + 1) * w ≤ (j + 1) * w = mul-le-mul_right w (omega arith) in
                let eight : (j + 1) * w ≡ 8 * ((j + 1) * extra) = omega arith in
                absurd (omega (arith, up, eight, pending, short.short, list.current, came, add-mul (length codes) 1 w))
          ]
      | inr none ↦ omega (arith, taken.counted, all, items, long)
    ]

-- what was read are the first of the numbers of each section that continues
pub record ReadNumbers (items numbers : List ℕ) : Type 0 where
  pub more : List ℕ
  pub joined : items ++ more ≡ numbers

module _ (first : References) (fed : Fed References) (order extra l : ℕ) (all s7 : List ℕ) (empty : first.items.items ≡ []) (memory : 3 ≤ vec_capacity first.items) (few : order ≤ 2) (within : 5 + (order + 1) * extra ≤ l) (c : Continues all l s7)
    (was : WasFed ReferencesTook no_marks (plain_groups (8 * extra) (order + 1)) first (part 0 ((order + 1) * extra) all) fed) where
  pub read_numbers : ReadNumbers fed.taker.items.items (numbers_at order extra (drop 5 s7))
  read_numbers =
      let k = (order + 1) * extra in
      let w = 8 * extra in
      let n = order + 1 in
      let xs = drop 5 s7 in
      let groups = plain_groups w n in
      let tail = take (min (0 + k - length all) (length c.rest) - min (0 - length all) (length c.rest)) (drop (min (0 - length all) (length c.rest)) c.rest) in
      let front : part 0 k xs ≡ part 0 k all ++ tail = ap (part 0 k) c.joined ∙ part-append 0 k all c.rest in
      let went = was.went in
      let left = codes_from no_marks (left_of fed.numbers (groups_in fed.table)) (fed.numbers.pending ++ bits tail) in
      let product : w * n ≡ 8 * k = omega (arith, mul_comm extra n) in
      let whole : map Present (numbers_at order extra xs) ≡ went.codes ++ left =
      ap (map Present) (sym (plain-part k w n xs (omega (arith, length-drop 5 s7, c.long)) (omega (arith, product))))
      ∙ sym (plain_codes w n (bits (part 0 k xs)))
      ∙ ap (λ (os : List ℕ). codes_from no_marks groups (bits os)) front
      ∙ ap (codes_from no_marks groups) (bits-append (part 0 k all) tail)
      ∙ went.taken.agree (bits tail) in
      let items = read_items first fed w n (part 0 k all) empty memory (omega arith) was in
      record {
        more = map number_of left;
        joined = ap (λ (us : List ℕ). us ++ map number_of left) items ∙ sym (map-append number_of went.codes left) ∙ ap (map number_of) (sym whole) ∙ numbers_present (numbers_at order extra xs);
      }

-- ---- a whole section

-- a section is what continues its own octets
pub continues_itself : (s7 : List ℕ) → AreOctets (drop 5 s7) → Continues (drop 5 s7) (length s7) s7
continues_itself s7 known = record { long = refl; known = known; rest = []; joined = sym (append-nil (drop 5 s7)) }

-- the codes of some groups tell as many points as the groups have values
pub told_count : (layout : Layout) (groups : List Group) (telling : Telling) (numbers : List Bool) (entries : List Point) (count : ℕ) → told telling (codes_from layout groups numbers) ≡ entries → values groups ≡ count
    → length entries ≡ count
told_count layout groups telling numbers entries count is counted =
    sym (ap length is) ∙ length-told telling (codes_from layout groups numbers) ∙ length-codes_from layout groups numbers ∙ counted

-- all packed numbers came
pub record ReadWhole {K : Type 0} (kept : K → List Point → K → Type 0) (s5 : List ℕ) (keeper : K) (start : ℕ) (s7 : List ℕ) (after : Values K) : Type 0 where
  pub none : after.teller.beyond ≡ 0 → data_fault s5 s7 ≡ None
  pub some : 0 < after.teller.beyond → located start (data_fault s5 s7) ≡ Some (refusal start ScaledRange after.teller.beyond)
  pub keeps : after.teller.beyond ≡ 0 → kept keeper (entries_of s5 s7) after.keeper
  pub counted : length (entries_of s5 s7) ≡ value_count s5

module _ {K : Type 0} (kept : K → List Point → K → Type 0) (s5 : List ℕ) (keeper : K) (start : ℕ) (s7 : List ℕ) (fed : Fed (Values K)) (after : Values K) (reads : ReadingAgrees kept s5 keeper start (length s7) (drop 5 s7) fed)
    (known : AreOctets (drop 5 s7)) (whole : packed_bits reads.groups ≤ 8 * length (drop reads.before (drop 5 s7)) → ValuesTook kept reads.first (codes_from reads.layout reads.groups (bits (drop reads.before (drop 5 s7)))) after) where
  pub read_whole : ReadWhole kept s5 keeper start s7 after
  read_whole =
      let numbers = bits (drop reads.before (drop 5 s7)) in
      let codes = codes_from reads.layout reads.groups numbers in
      let took = whole (omega (arith, reads.enough, length-drop reads.before (drop 5 s7), length-drop 5 s7)) in
      let count : length codes ≡ values reads.groups = length-codes_from reads.layout reads.groups numbers in
      let room : length codes < 2 ^ 63 = omega (arith, count, reads.few) in
      let tells = took.tells reads.telling [] (omega arith) reads.fresh in
      let c = continues_itself s7 known in
      let entries = reads.entries s7 c in
      let place : after.teller.beyond ≡ first_place is_out_of_range (entries_of s5 s7) = tells.beyond ∙ ap (first_place is_out_of_range) entries in
      record {
        none = λ nowhere. reads.within s7 c (sym place ∙ nowhere);
        some = λ somewhere.
            reads.beyond s7 c (omega (arith, place, somewhere))
            ∙ ap (λ (n : ℕ). Some (refusal start ScaledRange n)) (sym place);
        keeps = λ nowhere.
            let keeps = took.keeps reads.telling [] (omega arith) reads.fresh nowhere in
            let told_all = subst (λ (ps : List Point). kept reads.first.keeper ps after.keeper) entries keeps in
            subst (λ (k : K). kept k (entries_of s5 s7) after.keeper) reads.keeper_is told_all;
        counted = told_count reads.layout reads.groups reads.telling numbers (entries_of s5 s7) (value_count s5) entries reads.counted;
      }

-- all packed numbers came, and they are the scaled integers themselves
module _ {K : Type 0} (kept : K → List Point → K → Type 0) (keeper : K) (s7 : List ℕ) (layout : Layout) (groups : List Group) (before : ℕ) (fed : Fed (PlainValues K)) (after : PlainValues K)
    (reads : PlainAgrees kept keeper (length s7) (drop 5 s7) layout groups before fed)
    (whole : packed_bits groups ≤ 8 * length (drop before (drop 5 s7)) → PlainTook kept (record { keeper = keeper }) (codes_from layout groups (bits (drop before (drop 5 s7)))) after) where
  pub read_plainly : kept keeper (told Plainly (codes_from layout groups (bits (drop before (drop 5 s7))))) after.keeper
  read_plainly = whole (omega (arith, reads.enough, length-drop before (drop 5 s7), length-drop 5 s7))
