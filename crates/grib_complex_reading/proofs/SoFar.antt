-- Lemmas on the numbers of a Section 7 that came so far.
use Rattle.std.proofs.Common.{◌≡◌, ℕ, ◌+◌, ◌-◌, ◌*◌, ◌<◌, ◌≤◌, ◌^◌, Bool, true, false, List, [], ◌++◌, length, take, drop, refl, sym, ap, ap₂, ◌∙◌, arith, subst}
use Rattle.std.proofs.lemmas.Bool.{cond-false, cond-true}
use Rattle.std.proofs.lemmas.List.{drop-append-le, length-drop, length-take}
use Rattle.std.proofs.Math.Seq.{take-append_seam}
use Rattle.grib_bits.specs.Bits.{bits}
use Rattle.grib_bits.proofs.OctetBits.{bits-append}
use Rattle.grib_base.specs.declared.code.Code.{Code}
use Rattle.grib_bitmap.specs.Mask.{present_count}
use Rattle.grib_packing.specs.declared.column.Point.{Point}
use Rattle.grib_packing.specs.declared.group.Group.{Group}
use Rattle.grib_packing.specs.declared.layout.Layout.{Layout}
use Rattle.grib_packing.specs.Complex.{layout_of, descriptor_octets, difference_order, extra_octets}
use Rattle.grib_packing.specs.Entries.{entries_of, has_no_groups}
use Rattle.grib_packing.specs.Groups.{codes_from, groups as groups_told, list_octets}
use Rattle.grib_packing.specs.Packing.{value_count}
use Rattle.grib_group_reading.specs.declared.feeding.Fed.{Fed}
use Rattle.grib_group_reading.specs.Feeding.{IsCaughtUp, WasFed, plain_groups}
use Rattle.grib_group_reading.specs.Going.{left_of}
use Rattle.grib_group_reading.specs.Table.{groups_in}
use Rattle.grib_group_reading.specs.Taking.{values, values_within}
use Rattle.grib_group_reading.proofs.Pieces.{fed_within}
use Rattle.grib_group_reading.proofs.Taken.{length-codes_from}
use Rattle.grib_packing.specs.declared.keeping.Points.{Points}
use Rattle.grib_complex_reading.specs.declared.representation.Complex.{Complex}
use Rattle.grib_complex_reading.specs.declared.stages.ComplexReading.{ComplexReading}
use Rattle.grib_complex_reading.specs.declared.stages.ComplexReading.TheVariants.{Begins, Lists, ReadsPlainly, Reads, Passes, Refused}
use Rattle.grib_complex_reading.specs.declared.values.PlainValues.{PlainValues}
use Rattle.grib_complex_reading.specs.declared.values.Values.{Values}
use Rattle.grib_complex_reading.specs.Descriptors.{IsAccepted, telling_by}
use Rattle.grib_complex_reading.specs.Feeding.{ColumnAgrees, Continues, PassingAgrees, PlainAgrees, PointsAgree, ReadingAgrees, ReadingPlainly, StateAgrees, entries_so_far, first_telling, keeper_in, number_groups, numbers_in, octets_before, table_of}
use Rattle.grib_packing.specs.Kept.{ArePoints, PointsKept}
use Rattle.grib_complex_reading.specs.Laws.{told-append}
use Rattle.grib_complex_reading.specs.Representation.{Spelled}
use Rattle.grib_complex_reading.specs.Tells.{PlainTook, PointsWent, Tells, ValuesTook, telling_of}
use Rattle.grib_complex_reading.specs.Told.{Telling, Plainly, after, told, undoing}
use Rattle.grib_complex_reading.proofs.Arriving.{groups_came, has_groups}
use Rattle.grib_complex_reading.proofs.Outcome.{numbers_with}
use Rattle.grib_complex_reading.proofs.Told.{length-told}

-- the first values and the minimum stay
pub undone : {K : Type 0} (kept : K → List Point → K → Type 0) (layout : Layout) (groups : List Group) (telling : Telling) (first : Values K) (octets : List ℕ) (fed : Fed (Values K))
    → WasFed (ValuesTook kept) layout groups first octets fed → Tells telling [] first.teller → undoing (telling_of fed.taker.teller.running) ≡ undoing telling
undone kept layout groups telling first octets fed so_far fresh =
    let passed = so_far.went.passed in
    passed.undoes ∙ ap undoing (fresh.telling fresh.beyond)

-- ---- the points of the numbers that came

-- they are the first of those that all codes tell
module _ {S : Type 0} (took : S → List Code → S → Type 0) (l : ℕ) (octets : List ℕ) (layout : Layout) (groups : List Group) (telling : Telling) (first : S) (before : ℕ) (fed : Fed S)
    (so_far : WasFed took layout groups first (drop before octets) fed) (caught_up : IsCaughtUp fed) (came : before ≤ length octets) (s7 : List ℕ) (c : Continues octets l s7) where
  first_told : take (values_within groups (8 * (length octets - before))) (told telling (codes_from layout groups (bits (drop before (drop 5 s7))))) ≡ told telling so_far.went.codes
  first_told =
      let codes = so_far.went.codes in
      let points = told telling codes in
      let later = codes_from layout (left_of fed.numbers (groups_in fed.table)) (fed.numbers.pending ++ bits c.rest) in
      let behind : drop before (drop 5 s7) ≡ drop before octets ++ c.rest = ap (drop before) c.joined ∙ drop-append-le before octets c.rest came in
      let all : codes_from layout groups (bits (drop before (drop 5 s7))) ≡ codes ++ later =
      ap (λ (os : List ℕ). codes_from layout groups (bits os)) behind
      ∙ ap (codes_from layout groups) (bits-append (drop before octets) c.rest)
      ∙ so_far.went.taken.agree (bits c.rest) in
      let parts : told telling (codes_from layout groups (bits (drop before (drop 5 s7)))) ≡ points ++ told (after telling codes) later = ap (told telling) all ∙ told-append telling codes later in
      let count : values_within groups (8 * (length octets - before)) ≡ length points =
      ap (λ (n : ℕ). values_within groups (8 * n)) (sym (length-drop before octets))
      ∙ sym (fed_within took layout groups first (drop before octets) fed so_far caught_up)
      ∙ sym (length-told telling codes) in
      ap₂ take count parts ∙ take-append_seam points (told (after telling codes) later)

-- where the codes are the scaled integers themselves
module _ {K : Type 0} (kept : K → List Point → K → Type 0) (keeper : K) (l : ℕ) (octets : List ℕ) (layout : Layout) (groups : List Group) (before : ℕ) (fed : Fed (PlainValues K))
    (reads : PlainAgrees kept keeper l octets layout groups before fed) (s7 : List ℕ) (c : Continues octets l s7) where
  pub plain_points : kept keeper (take (values_within groups (8 * (length octets - before))) (told Plainly (codes_from layout groups (bits (drop before (drop 5 s7)))))) fed.taker.keeper
  plain_points =
      subst (λ (ps : List Point). kept keeper ps fed.taker.keeper)
      (sym (first_told (PlainTook kept) l octets layout groups Plainly (record { keeper = keeper }) before fed reads.so_far reads.caught_up reads.came s7 c)) reads.so_far.went.passed

module _ {K : Type 0} (kept : K → List Point → K → Type 0) (s5 : List ℕ) (keeper : K) (l : ℕ) (octets : List ℕ) (layout : Layout) (groups : List Group) (before : ℕ) (fed : Fed (PlainValues K))
    (reads : PlainAgrees kept keeper l octets layout groups before fed) (s7 : List ℕ) (c : Continues octets l s7) (entries : told Plainly (codes_from layout groups (bits (drop before (drop 5 s7)))) ≡ entries_of s5 s7) where
  pub plain_so_far : groups ≡ number_groups s5 s7 → before ≡ octets_before s5 → kept keeper (entries_so_far s5 s7 octets) fed.taker.keeper
  plain_so_far groups_are before_is =
      subst (λ (ps : List Point). kept keeper ps fed.taker.keeper)
      (ap (take (values_within groups (8 * (length octets - before)))) entries ∙ ap₂ (λ (gs : List Group) (n : ℕ). take (values_within gs (8 * (length octets - n))) (entries_of s5 s7)) groups_are before_is)
      (plain_points kept keeper l octets layout groups before fed reads s7 c)

-- where they are those of differences
module _ {K : Type 0} (kept : K → List Point → K → Type 0) (s5 : List ℕ) (keeper : K) (l : ℕ) (octets : List ℕ) (layout : Layout) (groups : List Group) (telling : Telling) (first : Values K) (before : ℕ) (fed : Fed (Values K))
    (so_far : WasFed (ValuesTook kept) layout groups first (drop before octets) fed) (caught_up : IsCaughtUp fed) (fresh : Tells telling [] first.teller) (keeper_is : first.keeper ≡ keeper) (few : values groups < 2 ^ 32) (came : before ≤ length octets) where
  room : length so_far.went.codes < 2 ^ 63
  room = omega (arith, so_far.went.taken.counted, few)

  tells : Tells telling so_far.went.codes fed.taker.teller
  tells = so_far.went.passed.tells telling [] (omega (arith, room)) fresh

  points_told : PointsAgree kept keeper (told telling so_far.went.codes) fed.taker
  points_told =
      let codes = so_far.went.codes in
      let points = told telling codes in
      let here = tells in
      record {
        place = here.beyond;
        went = subst (λ (k : K). PointsWent kept k (length points) fed.taker.keeper) keeper_is (record {
          points = so_far.went.passed.went.points;
          counted = so_far.went.passed.went.counted ∙ sym (length-told telling codes);
          keeps = so_far.went.passed.went.keeps;
        });
        keeps = λ none. subst (λ (k : K). kept k points fed.taker.keeper) keeper_is (so_far.went.passed.keeps telling [] (omega (arith, room)) fresh none);
      }

  pub points_agree : (s7 : List ℕ) → Continues octets l s7 → told telling (codes_from layout groups (bits (drop before (drop 5 s7)))) ≡ entries_of s5 s7 → groups ≡ number_groups s5 s7 → before ≡ octets_before s5
      → PointsAgree kept keeper (entries_so_far s5 s7 octets) fed.taker
  points_agree s7 c entries groups_are before_is =
      subst (λ (ps : List Point). PointsAgree kept keeper ps fed.taker)
      (sym (first_told (ValuesTook kept) l octets layout groups telling first before fed so_far caught_up came s7 c)
      ∙ ap (take (values_within groups (8 * (length octets - before)))) entries
      ∙ ap₂ (λ (gs : List Group) (n : ℕ). take (values_within gs (8 * (length octets - n))) (entries_of s5 s7)) groups_are before_is) points_told

-- ---- what a section holds

-- where Section 5 has no groups
module _ (s5 : List ℕ) (none : has_no_groups s5 ≡ true) where
  pub no_table : (s7 : List ℕ) → [] ≡ table_of s5 s7
  no_table s7 = sym (cond-true (has_no_groups s5) [] (groups_told (layout_of s5) (drop (5 + descriptor_octets s5) s7)) none)

  pub none_before : 0 ≡ octets_before s5
  none_before = sym (cond-true (has_no_groups s5) 0 (descriptor_octets s5 + list_octets (layout_of s5)) none)

  pub told_plainly : (s7 : List ℕ) → Plainly ≡ first_telling s5 s7
  told_plainly s7 = sym (cond-true (has_no_groups s5) Plainly (telling_by (difference_order s5) (extra_octets s5) s7) none)

  pub one_group : (count : ℕ) → count ≡ value_count s5 → (s7 : List ℕ) → plain_groups 0 count ≡ number_groups s5 s7
  one_group count is_count s7 = ap (plain_groups 0) is_count ∙ sym (cond-true (has_no_groups s5) (plain_groups 0 (value_count s5)) (table_of s5 s7) none)

-- where it has some
module _ (complex : Complex) (s5 : List ℕ) (spelled : Spelled complex s5) (accepted : IsAccepted complex) (some : 1 ≤ complex.layout.groups) where
  many_lists : has_no_groups s5 ≡ false
  many_lists = has_groups complex s5 spelled accepted some []

  pub lists_before : (complex.order + 1) * complex.extra + list_octets complex.layout ≡ octets_before s5
  lists_before =
      let same = numbers_with complex s5 ((complex.order + 1) * complex.extra) spelled accepted refl in
      ap₂ (λ (k : ℕ) (layout : Layout). k + list_octets layout) same.is_skip same.is_layout
      ∙ sym (cond-false (has_no_groups s5) 0 (descriptor_octets s5 + list_octets (layout_of s5)) many_lists)

  pub told_by : (s7 : List ℕ) → telling_by complex.order complex.extra s7 ≡ first_telling s5 s7
  told_by s7 =
      ap₂ (λ (order extra : ℕ). telling_by order extra s7) spelled.order spelled.extra
      ∙ sym (cond-false (has_no_groups s5) Plainly (telling_by (difference_order s5) (extra_octets s5) s7) many_lists)

  module _ (l : ℕ) (octets s7 : List ℕ) (c : Continues octets l s7) (whole : (complex.order + 1) * complex.extra + list_octets complex.layout ≤ length octets) where
    pub table_came : groups_told complex.layout (drop ((complex.order + 1) * complex.extra) octets) ≡ table_of s5 s7
    table_came =
        let k = (complex.order + 1) * complex.extra in
        let same = numbers_with complex s5 k spelled accepted refl in
        sym (groups_came complex.layout k complex.simple.values l octets s7 c whole)
        ∙ ap₂ (λ (layout : Layout) (n : ℕ). groups_told layout (drop (5 + n) s7)) same.is_layout same.is_skip
        ∙ sym (cond-false (has_no_groups s5) [] (groups_told (layout_of s5) (drop (5 + descriptor_octets s5) s7)) many_lists)

    pub numbers_came : groups_told complex.layout (drop ((complex.order + 1) * complex.extra) octets) ≡ number_groups s5 s7
    numbers_came =
        table_came
        ∙ sym (cond-false (has_no_groups s5) (plain_groups 0 (value_count s5)) (table_of s5 s7) many_lists)

-- ---- the column of a feeder

module _ (s5 : List ℕ) (mask : List Bool) (start l : ℕ) (octets : List ℕ) (first : Points) (empty : ArePoints mask [] first) (counted : present_count mask ≡ value_count s5) where
  -- the mask stays as points are added
  reads_mask : (fed : Fed (Values Points)) → ReadingAgrees PointsKept s5 first start l octets fed → fed.taker.keeper.mask.value ≡ mask
  reads_mask fed reads =
      let went = reads.so_far.went.passed.went in
      let few : length went.points ≤ present_count mask = omega (arith, went.counted, reads.so_far.went.taken.counted, reads.counted, counted) in
      let added = subst (λ (k : Points). PointsKept k went.points fed.taker.keeper) reads.keeper_is went.keeps in
      let are = added.keeps mask [] (omega (arith, few)) empty in
      are.mask_stays

  reads_column : (fed : Fed (Values Points)) → ReadingAgrees PointsKept s5 first start l octets fed → (s7 : List ℕ) → Continues octets l s7 → fed.taker.teller.beyond ≡ 0 → ArePoints mask (entries_so_far s5 s7 octets) fed.taker.keeper
  reads_column fed reads s7 c none =
      let numbers = bits (drop reads.before (drop 5 s7)) in
      let all : length (entries_of s5 s7) ≡ value_count s5 =
      sym (ap length (reads.entries s7 c)) ∙ length-told reads.telling (codes_from reads.layout reads.groups numbers) ∙ length-codes_from reads.layout reads.groups numbers ∙ reads.counted in
      let agree = reads.points s7 c in
      let added = agree.keeps none in
      added.keeps mask [] (omega (arith, counted, all, length-take (numbers_in s5 s7 octets) (entries_of s5 s7))) empty

  plain_mask : (fed : Fed (PlainValues Points)) → ReadingPlainly PointsKept s5 first l octets fed → fed.taker.keeper.mask.value ≡ mask
  plain_mask fed reading =
      let went = reading.reads.so_far.went in
      let are = went.passed.keeps mask [] (omega (arith, length-told Plainly went.codes, went.taken.counted, reading.counted, counted)) empty in
      are.mask_stays

  plain_column : (fed : Fed (PlainValues Points)) → ReadingPlainly PointsKept s5 first l octets fed → (s7 : List ℕ) → Continues octets l s7 → ArePoints mask (entries_so_far s5 s7 octets) fed.taker.keeper
  plain_column fed reading s7 c =
      let numbers = bits (drop reading.before (drop 5 s7)) in
      let all : length (entries_of s5 s7) ≡ value_count s5 =
      sym (ap length (reading.entries s7 c)) ∙ length-told Plainly (codes_from reading.layout reading.groups numbers) ∙ length-codes_from reading.layout reading.groups numbers ∙ reading.counted in
      let added = reading.points s7 c in
      added.keeps mask [] (omega (arith, counted, all, length-take (numbers_in s5 s7 octets) (entries_of s5 s7))) empty

  passes_column : (after_them : Points) → PassingAgrees PointsKept s5 first l octets after_them → ArePoints mask [] after_them
  passes_column after_them passing =
      let added = passing.keeps [] in
      added.keeps mask [] (omega arith) empty

  pub state_mask : (state : ComplexReading Points) → StateAgrees PointsKept s5 first start l octets state → (keeper_in state).mask.value ≡ mask
  state_mask (Begins beginning) agrees = let same = agrees.0.keeper_is in ap (λ (p : Points). p.mask.value) same ∙ empty.mask_stays
  state_mask (Lists between) agrees = let same = agrees.0.keeper_is in ap (λ (p : Points). p.mask.value) same ∙ empty.mask_stays
  state_mask (ReadsPlainly fed) agrees = plain_mask fed agrees
  state_mask (Reads fed) agrees = reads_mask fed agrees
  state_mask (Passes after_them) agrees = let are = passes_column after_them agrees in are.mask_stays
  state_mask (Refused fault after_them) agrees = ap (λ (p : Points). p.mask.value) agrees.1 ∙ empty.mask_stays

  pub state_column : (state : ComplexReading Points) → StateAgrees PointsKept s5 first start l octets state → ColumnAgrees s5 mask l octets state
  state_column (Begins beginning) agrees = subst (λ (p : Points). ArePoints mask [] p) (sym agrees.0.keeper_is) empty
  state_column (Lists between) agrees = subst (λ (p : Points). ArePoints mask [] p) (sym agrees.0.keeper_is) empty
  state_column (ReadsPlainly fed) agrees = plain_column fed agrees
  state_column (Reads fed) agrees = reads_column fed agrees
  state_column (Passes after_them) agrees = passes_column after_them agrees
  state_column (Refused fault after_them) agrees = subst (λ (p : Points). ArePoints mask [] p) (sym agrees.1) empty
