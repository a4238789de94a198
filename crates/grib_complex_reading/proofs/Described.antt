-- Lemmas on extra descriptors that come in pieces.
use Rattle.std.proofs.Common.{◌≡◌, ℕ, zero, suc, ◌+◌, ◌*◌, ◌^◌, ◌<◌, ◌≤◌, ◌⊎◌, Bool, false, cond, eqb, Some, None, List, [], ◌++◌, length, drop, refl, sym, ap, ap₂, ◌∙◌, arith, mul_comm, subst, inl, inr}
use Rattle.std.proofs.lemmas.List.{drop_all, take_all}
use Rattle.grib_bits.specs.Bits.{bits}
use Rattle.grib_bits.specs.Plain.{plain}
use Rattle.grib_base.specs.declared.code.Code.{Code}
use Rattle.grib_base.specs.declared.fault.Fault.{Fault}
use Rattle.grib_base.specs.declared.fault.Reason.TheVariants.{FirstValueSign}
use Rattle.grib_base.specs.Rules.{refusal}
use Rattle.grib_packing.specs.declared.column.Point.{Point}
use Rattle.grib_packing.specs.declared.group.Group.{Group}
use Rattle.grib_packing.specs.declared.layout.Layout.{Layout}
use Rattle.grib_packing.specs.Differences.{Descriptors, NoNumber}
use Rattle.grib_packing.specs.Groups.{codes_from, packed_bits}
use Rattle.grib_packing.proofs.Fields.{length-plain}
use Rattle.grib_group_reading.specs.declared.feeding.Fed.{Fed}
use Rattle.grib_group_reading.specs.declared.list_feeding.FedLists.{FedLists}
use Rattle.grib_group_reading.specs.declared.lists.References.{References}
use Rattle.grib_group_reading.specs.Feeding.{part, AreFeedable, HasRoom, IsCaughtUp, IsFeedable, IsList, ListsFed, WasFed, no_marks, plain_groups}
use Rattle.grib_group_reading.specs.Lists.{ReferencesRoom, ReferencesTook}
use Rattle.grib_group_reading.proofs.Pieces.{part_codes, part_enough, part_more, plain-front}
use Rattle.grib_group_reading.proofs.Reading.{references_read}
use Rattle.grib_complex_reading.specs.declared.noted.Told.{Told}
use Rattle.grib_complex_reading.specs.declared.representation.Complex.{Complex}
use Rattle.grib_complex_reading.specs.declared.stages.Beginning.{Beginning}
use Rattle.grib_complex_reading.specs.Alike.{AllPass, ListsFail, RangeFails}
use Rattle.grib_complex_reading.specs.Descriptors.{AreTold, IsAccepted, descriptors_by, descriptors_in, descriptors_told, is_signed_at, is_signed_number, numbers_at, sign_fault, telling_by, telling_told}
use Rattle.grib_complex_reading.specs.Feeding.{AreClear, BeginningAgrees, Continues, IsFaultOf, ListingAgrees, PassingAgrees}
use Rattle.grib_complex_reading.specs.Told.{Plainly, After}
use Rattle.grib_complex_reading.proofs.Arriving.{signs_refuse}
use Rattle.grib_complex_reading.proofs.Begun.{descriptors_fed, numbers_read, read_numbers}
use Rattle.grib_complex_reading.proofs.NotedNumbers.{among, sign_stays, signed_is, told_by_numbers}
use Rattle.grib_complex_reading.proofs.Settled.{settled_lists, settled_passes, settled_range}

-- there are at most three of them
pub few_orders : (complex : Complex) → IsAccepted complex → complex.order ≤ 2
few_orders complex accepted = elim accepted.order [
  | inl two ↦ omega (arith, two.1)
  | inr three ↦ elim three.1 [ inl one ↦ omega arith | inr other ↦ omega arith ]
]

module _ {K : Type 0} (s5 : List ℕ) (keeper : K) (l : ℕ) (octets piece : List ℕ) (b : Beginning K) (k : ℕ) (noted : List ℕ) (after : Fed References)
    (is_k : k ≡ (b.complex.order + 1) * b.complex.extra) (is_part : part 0 k (octets ++ piece) ≡ part 0 k octets ++ noted)
    (fed : (layout : Layout) (groups : List Group) (start : References) (os : List ℕ) → WasFed ReferencesTook layout groups start os b.descriptors → WasFed ReferencesTook layout groups start (os ++ noted) after)
    (agrees : BeginningAgrees s5 keeper l octets b) where
  abbrev order : ℕ
  order = b.complex.order

  abbrev extra : ℕ
  extra = b.complex.extra

  abbrev all : List ℕ
  all = octets ++ piece

  few : b.complex.order ≤ 2
  few = few_orders b.complex agrees.accepted

  fed_all : WasFed ReferencesTook no_marks (plain_groups (8 * b.complex.extra) (b.complex.order + 1)) agrees.first (part 0 ((b.complex.order + 1) * b.complex.extra) (octets ++ piece)) after
  fed_all = descriptors_fed k ((b.complex.order + 1) * b.complex.extra) (8 * b.complex.extra) (b.complex.order + 1) agrees.first octets piece noted b.descriptors after is_k is_part fed agrees.descriptors

  -- more of them came
  pub begun_more : IsFeedable (2 ^ 32) after → IsList (8 * b.complex.extra) after → HasRoom ReferencesRoom after 0 → length (octets ++ piece) ≤ (b.complex.order + 1) * b.complex.extra → BeginningAgrees s5 keeper l (octets ++ piece) (record b { descriptors = after })
  begun_more feedable list room below = record {
    spelled = agrees.spelled;
    accepted = agrees.accepted;
    groups = agrees.groups;
    few = agrees.few;
    within = agrees.within;
    below = below;
    first = agrees.first;
    empty = agrees.empty;
    memory = agrees.memory;
    descriptors = fed_all;
    feedable = feedable;
    list = list;
    room = room;
    lists = agrees.lists;
    keeper_is = agrees.keeper_is;
  }

  long_enough : (s7 : List ℕ) → Continues (octets ++ piece) l s7 → 5 + (b.complex.order + 1) * b.complex.extra ≤ length s7
  long_enough s7 c = omega (arith, agrees.within, c.long)

  -- one of the first values that came has its top bit set
  pub sign_refuses : (start : ℕ) (f : Fault) → sign_fault start b.complex.order b.complex.extra after.taker.items.items ≡ Some f → IsFaultOf s5 start l (octets ++ piece) f
  sign_refuses start f is = λ s7 c.
      let items = after.taker.items.items in
      let read = read_numbers agrees.first after order extra l all s7 agrees.empty agrees.memory few (omega (arith, agrees.within)) c fed_all in
      let on_section = subst (λ (ns : List ℕ). sign_fault start order extra ns ≡ Some f) read.joined (sign_stays order extra items read.more start f is) in
      let signs : cond (is_signed_at order extra s7 0) (Some (refusal (start + 5) FirstValueSign 1)) (cond (is_signed_at order extra s7 1) (Some (refusal (start + 5 + extra) FirstValueSign 2)) None)
      ≡ sign_fault start order extra (numbers_at order extra (drop 5 s7)) =
      ap₂ (λ (p q : Bool). cond p (Some (refusal (start + 5) FirstValueSign 1)) (cond q (Some (refusal (start + 5 + extra) FirstValueSign 2)) None))
      (signed_is s7 order extra c.known (long_enough s7 c) 0) (signed_is s7 order extra c.known (long_enough s7 c) 1) in
      signs_refuse b.complex s5 agrees.spelled agrees.accepted agrees.groups start s7 (omega (arith, agrees.within, c.long)) f (signs ∙ on_section)

  -- those that are whole have not
  pub signs_clear : IsFeedable (2 ^ 32) after → IsList (8 * b.complex.extra) after → IsCaughtUp after → length (octets ++ piece) ≤ (b.complex.order + 1) * b.complex.extra
      → is_signed_number b.complex.order b.complex.extra after.taker.items.items 0 ≡ false → is_signed_number b.complex.order b.complex.extra after.taker.items.items 1 ≡ false
      → AreClear b.complex.order b.complex.extra l (octets ++ piece)
  signs_clear feedable list caught below first_clear second_clear = λ j under came s7 c.
      let size = (order + 1) * extra in
      let items = after.taker.items.items in
      let as_long : length (part 0 size all) ≡ length all = ap length (take_all size all below) in
      let read = read_numbers agrees.first after order extra l all s7 agrees.empty agrees.memory few (omega (arith, agrees.within)) c fed_all in
      let among_them = numbers_read agrees.first after extra (order + 1) j (part 0 size all) agrees.empty agrees.memory (omega (arith, few)) feedable list caught fed_all (omega arith) (omega (arith, came, as_long)) in
      signed_is s7 order extra c.known (long_enough s7 c) j
      ∙ ap (λ (ns : List ℕ). is_signed_number order extra ns j) (sym read.joined)
      ∙ sym (among order extra items read.more j among_them)
      ∙ clear j (omega (arith, under, few)) first_clear second_clear
    where
      clear : (i : ℕ) → i < 2 → is_signed_number b.complex.order b.complex.extra after.taker.items.items 0 ≡ false → is_signed_number b.complex.order b.complex.extra after.taker.items.items 1 ≡ false
          → is_signed_number b.complex.order b.complex.extra after.taker.items.items i ≡ false
      clear zero below first_clear second_clear = first_clear
      clear (suc zero) below first_clear second_clear = second_clear
      clear (suc (suc i)) below first_clear second_clear = absurd (omega arith)

  module _ (whole : (b.complex.order + 1) * b.complex.extra ≤ length (octets ++ piece))
      (took : (layout : Layout) (groups : List Group) (start : References) (os : List ℕ) → WasFed ReferencesTook layout groups start os b.descriptors → packed_bits groups ≤ 8 * length (os ++ noted)
      → ReferencesTook start (codes_from layout groups (bits (os ++ noted))) after.taker) where
    -- all numbers were read
    pub numbers_are : after.taker.items.items ≡ numbers_at b.complex.order b.complex.extra (octets ++ piece)
    numbers_are =
        let long : 0 + (order + 1) * extra ≤ length all = omega (arith, whole) in
        let size = (order + 1) * extra in
        let w = 8 * extra in
        let n = order + 1 in
        let fits : n * w ≤ 8 * size = omega (arith, mul_comm extra n) in
        let joined : part 0 size octets ++ noted ≡ part 0 size all = part_more 0 size 0 k octets piece noted refl is_k is_part in
        let enough = part_enough 0 size w n all long fits in
        let has = took no_marks (plain_groups w n) agrees.first (part 0 size octets) agrees.descriptors (omega (arith, enough, ap length joined)) in
        let here = subst (λ (os : List ℕ). ReferencesTook agrees.first (codes_from no_marks (plain_groups w n) (bits os)) after.taker) joined has in
        let codes = subst (λ (cs : List Code). ReferencesTook agrees.first cs after.taker) (part_codes 0 size w n all long fits) here in
        references_read agrees.first after.taker (plain (bits all) w n) agrees.empty (omega (arith, agrees.memory, length-plain (bits all) w n)) codes

    section_numbers : (s7 : List ℕ) → Continues (octets ++ piece) l s7 → numbers_at b.complex.order b.complex.extra (drop 5 s7) ≡ after.taker.items.items
    section_numbers s7 c =
        ap (λ (os : List ℕ). plain (bits os) (8 * extra) (order + 1)) c.joined
        ∙ plain-front 0 (8 * extra) (order + 1) all c.rest (omega arith) (omega (arith, whole, mul_comm extra (order + 1)))
        ∙ sym numbers_are

    module _ (told : Told) (are : AreTold b.complex.order b.complex.extra after.taker.items.items told) where
      pub order_is : told.order ≡ b.complex.order
      order_is = ap (λ (d : Descriptors). d.order) are.descriptors

      -- they tell the codes of each section that continues these octets
      pub telling_came : (s7 : List ℕ) → Continues (octets ++ piece) l s7 → telling_told told ≡ telling_by b.complex.order b.complex.extra s7
      telling_came s7 c =
          let numbers = ap (λ (ns : List ℕ). descriptors_told order extra ns) (sym (section_numbers s7 c)) in
          let same : descriptors_in told ≡ descriptors_by order extra s7 = are.descriptors ∙ numbers ∙ told_by_numbers s7 order extra c.known (long_enough s7 c) in
          ap (λ (d : Descriptors). cond (eqb d.order 0) Plainly (After d NoNumber)) same

    -- no first value of such a section has its top bit set
    pub unsigned_came : is_signed_number b.complex.order b.complex.extra after.taker.items.items 0 ≡ false → is_signed_number b.complex.order b.complex.extra after.taker.items.items 1 ≡ false
        → (s7 : List ℕ) → Continues (octets ++ piece) l s7 → (is_signed_at b.complex.order b.complex.extra s7 0 ≡ false) × (is_signed_at b.complex.order b.complex.extra s7 1 ≡ false)
    unsigned_came first_clear second_clear s7 c = (
      signed_is s7 order extra c.known (long_enough s7 c) 0 ∙ ap (λ (ns : List ℕ). is_signed_number order extra ns 0) (section_numbers s7 c) ∙ first_clear,
      signed_is s7 order extra c.known (long_enough s7 c) 1 ∙ ap (λ (ns : List ℕ). is_signed_number order extra ns 1) (section_numbers s7 c) ∙ second_clear,
    )

    -- the lists are next
    pub begins_list : (told : Told) (lists : FedLists) → AreTold b.complex.order b.complex.extra after.taker.items.items told
        → is_signed_number b.complex.order b.complex.extra after.taker.items.items 0 ≡ false → is_signed_number b.complex.order b.complex.extra after.taker.items.items 1 ≡ false
        → AreFeedable b.complex.layout lists → ListsFed b.complex.layout b.complex.simple.values [] lists
        → ListingAgrees s5 keeper l octets (octets ++ piece) (record { complex = b.complex; told = told; lists = lists; keeper = b.keeper })
    begins_list told lists are first_clear second_clear feedable listed =
        let size = (order + 1) * extra in
        record {
          spelled = agrees.spelled;
          accepted = agrees.accepted;
          groups = agrees.groups;
          few = agrees.few;
          within = agrees.within;
          came = whole;
          order = order_is told are;
          first = are.first;
          second = are.second;
          minimum = are.minimum;
          told_is = telling_came told are;
          unsigned = unsigned_came first_clear second_clear;
          lists = subst (λ (os : List ℕ). ListsFed b.complex.layout b.complex.simple.values os lists) (sym (drop_all size octets agrees.below)) listed;
          feedable = feedable;
          keeper_is = agrees.keeper_is;
        }

    -- or no rule fails, where the groups are all alike and no points are kept
    pub passes_alike : (told : Told) → AreTold b.complex.order b.complex.extra after.taker.items.items told
        → is_signed_number b.complex.order b.complex.extra after.taker.items.items 0 ≡ false → is_signed_number b.complex.order b.complex.extra after.taker.items.items 1 ≡ false
        → (kept : K → List Point → K → Type 0) → ((points : List Point) → kept b.keeper points b.keeper) → (start : ℕ) → AllPass b.complex told start l
        → PassingAgrees kept s5 keeper l (octets ++ piece) b.keeper
    passes_alike told are first_clear second_clear kept keeps start all =
        let here = settled_passes b.complex s5 agrees.spelled agrees.accepted agrees.groups start l (octets ++ piece) agrees.within whole told (order_is told are) (telling_came told are) (unsigned_came first_clear second_clear) kept b.keeper keeps all in
        record {
          passes = here.passes;
          counted = here.counted;
          keeps = subst (λ (n : K). (points : List Point) → kept n points b.keeper) agrees.keeper_is keeps;
        }

    -- or one does
    pub refused_alike : (told : Told) → AreTold b.complex.order b.complex.extra after.taker.items.items told
        → is_signed_number b.complex.order b.complex.extra after.taker.items.items 0 ≡ false → is_signed_number b.complex.order b.complex.extra after.taker.items.items 1 ≡ false
        → (start : ℕ) (fault : Fault) → ListsFail b.complex start l fault ⊎ RangeFails b.complex told start l fault → IsFaultOf s5 start l (octets ++ piece) fault
    refused_alike told are first_clear second_clear start fault fails = elim fails [
      | inl lists ↦ settled_lists b.complex s5 agrees.spelled agrees.accepted agrees.groups start l (octets ++ piece) agrees.within whole told (order_is told are) (telling_came told are) (unsigned_came first_clear second_clear) fault lists
      | inr range ↦ settled_range b.complex s5 agrees.spelled agrees.accepted agrees.groups start l (octets ++ piece) agrees.within whole told (order_is told are) (telling_came told are) (unsigned_came first_clear second_clear) fault range
    ]
