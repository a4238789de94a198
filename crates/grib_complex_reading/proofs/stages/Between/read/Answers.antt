use Rattle.std.proofs.Common.{◌≡◌, ℕ, ◌+◌, ◌*◌, ◌^◌, ◌<◌, ◌≤◌, Option, Some, None, List, length, drop, eqb, [], sym, ap, ap₂, ◌∙◌, arith, subst, inl, inr}
use Rattle.std.proofs.lemmas.Bool.{cases_eq, cond-false, cond-true, eq-eqb, ne_eqb}
use Rattle.std.proofs.lemmas.List.{length-drop}
use Rattle.grib_bits.specs.Bits.{bits}
use Rattle.grib_base.specs.declared.fault.Reason.TheVariants.{ScaledRange}
use Rattle.grib_base.specs.Rules.{first_place, located, refusal}
use Rattle.grib_packing.specs.declared.column.Point.{Point}
use Rattle.grib_packing.specs.declared.group.Group.{Group}
use Rattle.grib_packing.specs.Differences.{NoNumber}
use Rattle.grib_packing.specs.Entries.{entries_of, group_entries, is_out_of_range}
use Rattle.grib_packing.specs.Groups.{references, widths, lengths, groups, list_octets, codes_from}
use Rattle.grib_packing.specs.Packing.{value_count}
use Rattle.grib_group_reading.specs.Lists.{ListsAre, lists_fault}
use Rattle.grib_group_reading.specs.declared.lists.Lists.{Lists}
use Rattle.grib_group_reading.specs.declared.table.Table.{Table}
use Rattle.grib_base.specs.declared.fault.Fault.{Fault}
use Rattle.grib_group_reading.specs.Table.{groups_in}
use Rattle.grib_group_reading.specs.Taking.{values}
use Rattle.grib_group_reading.specs.Feeding.{ListsFed, WasFed}
use Rattle.grib_group_reading.proofs.Faults.{TableRead, table_read}
use Rattle.grib_complex_reading.specs.declared.stages.Between.{Between}
use Rattle.grib_complex_reading.specs.Feeding.{Continues, ListingAgrees, PlainAgrees}
use Rattle.grib_complex_reading.specs.Told.{Telling, Plainly, After, told, undoing}
use Rattle.grib_complex_reading.specs.Tells.{PlainTook, Tells, ValuesTook}
use Rattle.grib_complex_reading.specs.Descriptors.{descriptors_by, descriptors_in, telling_by, telling_told}
use Rattle.grib_complex_reading.proofs.Arriving.{came_refused, came_whole, came_entries, entries_grouped}
use Rattle.grib_complex_reading.proofs.Begun.{told_count}
use Rattle.grib_complex_reading.proofs.SoFar.{lists_before, numbers_came, plain_so_far, points_agree, table_came, told_by, undone}
use Rattle.grib_complex_reading.proofs.Outcome.{plain_range, within_range, beyond_range}
use Rattle.grib_complex_reading.proofs.stages.Between.read.Goals as goal

module _ {K : Type 0} (s5 : List ℕ) (keeper : K) (start l : ℕ) (octets : List ℕ) (b : Between K) (agrees : ListingAgrees s5 keeper l octets octets b)
    (whole : (b.complex.order + 1) * b.complex.extra + list_octets b.complex.layout ≤ length octets) where
  long_lists : list_octets b.complex.layout ≤ length (drop ((b.complex.order + 1) * b.complex.extra) octets)
  long_lists = omega (arith, whole, length-drop ((b.complex.order + 1) * b.complex.extra) octets)

  module _ (lists : Lists) (finished : (values : ℕ) (os : List ℕ) → ListsFed b.complex.layout values os b.lists → list_octets b.complex.layout ≤ length os
      → ListsAre b.complex.layout values lists (references b.complex.layout os) (widths b.complex.layout os) (lengths b.complex.layout os)) where
    lists_told : let os = drop ((b.complex.order + 1) * b.complex.extra) octets in
        ListsAre b.complex.layout b.complex.simple.values lists (references b.complex.layout os) (widths b.complex.layout os) (lengths b.complex.layout os)
    lists_told = finished b.complex.simple.values (drop ((b.complex.order + 1) * b.complex.extra) octets) agrees.lists long_lists

    module _ (skip : ℕ) (fault : Option Fault) (is_skip : skip ≡ (b.complex.order + 1) * b.complex.extra)
        (is_fault : (values : ℕ) (rs ws ls : List ℕ) → values < 2 ^ 32 → ListsAre b.complex.layout values lists rs ws ls → fault ≡ lists_fault b.complex.layout start skip l values rs ws ls) where
      -- the refusal is that of the lists
      fault_told : let k = (b.complex.order + 1) * b.complex.extra in
          fault ≡ lists_fault b.complex.layout start k l b.complex.simple.values (references b.complex.layout (drop k octets)) (widths b.complex.layout (drop k octets)) (lengths b.complex.layout (drop k octets))
      fault_told =
          let os = drop ((b.complex.order + 1) * b.complex.extra) octets in
          let rs = references b.complex.layout os in
          let ws = widths b.complex.layout os in
          let ls = lengths b.complex.layout os in
          is_fault b.complex.simple.values rs ws ls agrees.few lists_told ∙ ap (λ (n : ℕ). lists_fault b.complex.layout start n l b.complex.simple.values rs ws ls) is_skip

      -- and the table is theirs
      table_told : (table : Table) → fault ≡ None → table.references ≡ lists.references.items → table.widths ≡ lists.widths.items → table.lengths ≡ lists.lengths.items
          → let k = (b.complex.order + 1) * b.complex.extra in
          TableRead b.complex.layout k l b.complex.simple.values (references b.complex.layout (drop k octets)) (widths b.complex.layout (drop k octets)) (lengths b.complex.layout (drop k octets)) table
      table_told table none is_references is_widths is_lengths =
          let k = (b.complex.order + 1) * b.complex.extra in
          let os = drop k octets in
          table_read b.complex.layout start k l b.complex.simple.values lists table (references b.complex.layout os) (widths b.complex.layout os) (lengths b.complex.layout os) lists_told (sym fault_told ∙ none) is_references is_widths is_lengths

pub finish-lists-requires-clause-whole : goal.finish-lists-requires-clause-whole
finish-lists-requires-clause-whole g c =
    let begun = c.requires.begun in
    let b = c.args.self in
    record {
      total = b.complex.simple.values;
      octets = drop ((b.complex.order + 1) * b.complex.extra) begun.octets;
      fed = begun.agrees.lists;
      enough = long_lists begun.s5 begun.keeper c.args.start c.args.length begun.octets b begun.agrees begun.whole;
    }

pub fault-requires-clause-read : goal.fault-requires-clause-read
fault-requires-clause-read g c =
    let begun = c.requires.begun in
    let b = c.args.self in
    let os = drop ((b.complex.order + 1) * b.complex.extra) begun.octets in
    record {
      values = b.complex.simple.values;
      small = begun.agrees.few;
      references = references b.complex.layout os;
      widths = widths b.complex.layout os;
      lengths = lengths b.complex.layout os;
      are = lists_told begun.s5 begun.keeper c.args.start c.args.length begun.octets b begun.agrees begun.whole c.finish-lists.result c.finish-lists.ensures;
    }

pub returns-in-Some : goal.returns-in-Some
returns-in-Some g c = λ s5 keeper octets agrees is_numbers whole. (
  λ s7 continues.
      let b = c.args.self in
      let is = sym (fault_told s5 keeper c.args.start c.args.length octets b agrees whole c.finish-lists.result c.finish-lists.ensures c.skip.result c.fault.result c.skip.ensures c.fault.ensures) ∙ c.in-Some.is in
      came_refused b.complex s5 agrees.spelled agrees.accepted agrees.groups c.args.start c.args.length octets s7 continues agrees.within whole (agrees.unsigned s7 continues) c.in-Some.fault is,
  agrees.keeper_is,
)

pub is_steady-requires-clause-whole : goal.is_steady-requires-clause-whole
is_steady-requires-clause-whole g c =
    let begun = c.requires.begun in
    let read = table_told begun.s5 begun.keeper c.args.start c.args.length begun.octets c.args.self begun.agrees begun.whole c.finish-lists.result c.finish-lists.ensures c.skip.result c.fault.result c.skip.ensures c.fault.ensures
    c.into_table-table.result c.in_default.is c.into_table-table.ensures.references c.into_table-table.ensures.widths c.into_table-table.ensures.lengths in
    read.whole

pub is_steady-requires-clause-narrow : goal.is_steady-requires-clause-narrow
is_steady-requires-clause-narrow g c =
    let begun = c.requires.begun in
    let read = table_told begun.s5 begun.keeper c.args.start c.args.length begun.octets c.args.self begun.agrees begun.whole c.finish-lists.result c.finish-lists.ensures c.skip.result c.fault.result c.skip.ensures c.fault.ensures
    c.into_table-table.result c.in_default.is c.into_table-table.ensures.references c.into_table-table.ensures.widths c.into_table-table.ensures.lengths in
    read.narrow

pub groups-requires-clause-whole : goal.groups-requires-clause-whole
groups-requires-clause-whole g c =
    let begun = c.requires.begun in
    let read = table_told begun.s5 begun.keeper c.args.start c.args.length begun.octets c.args.self begun.agrees begun.whole c.finish-lists.result c.finish-lists.ensures c.skip.result c.fault.result c.skip.ensures c.fault.ensures
    c.into_table-table.result c.in_default.is c.into_table-table.ensures.references c.into_table-table.ensures.widths c.into_table-table.ensures.lengths in
    read.whole

pub groups-requires-clause-narrow : goal.groups-requires-clause-narrow
groups-requires-clause-narrow g c =
    let begun = c.requires.begun in
    let read = table_told begun.s5 begun.keeper c.args.start c.args.length begun.octets c.args.self begun.agrees begun.whole c.finish-lists.result c.finish-lists.ensures c.skip.result c.fault.result c.skip.ensures c.fault.ensures
    c.into_table-table.result c.in_default.is c.into_table-table.ensures.references c.into_table-table.ensures.widths c.into_table-table.ensures.lengths in
    read.narrow

pub groups-requires-2-clause-whole : goal.groups-requires-2-clause-whole
groups-requires-2-clause-whole g c =
    let begun = c.requires.begun in
    let read = table_told begun.s5 begun.keeper c.args.start c.args.length begun.octets c.args.self begun.agrees begun.whole c.finish-lists.result c.finish-lists.ensures c.skip.result c.fault.result c.skip.ensures c.fault.ensures
    c.into_table-table.result c.in_default.is c.into_table-table.ensures.references c.into_table-table.ensures.widths c.into_table-table.ensures.lengths in
    read.whole

pub groups-requires-2-clause-narrow : goal.groups-requires-2-clause-narrow
groups-requires-2-clause-narrow g c =
    let begun = c.requires.begun in
    let read = table_told begun.s5 begun.keeper c.args.start c.args.length begun.octets c.args.self begun.agrees begun.whole c.finish-lists.result c.finish-lists.ensures c.skip.result c.fault.result c.skip.ensures c.fault.ensures
    c.into_table-table.result c.in_default.is c.into_table-table.ensures.references c.into_table-table.ensures.widths c.into_table-table.ensures.lengths in
    read.narrow

pub is_steady-requires-clause-values : goal.is_steady-requires-clause-values
is_steady-requires-clause-values g c =
    let begun = c.requires.begun in
    let read = table_told begun.s5 begun.keeper c.args.start c.args.length begun.octets c.args.self begun.agrees begun.whole c.finish-lists.result c.finish-lists.ensures c.skip.result c.fault.result c.skip.ensures c.fault.ensures
    c.into_table-table.result c.in_default.is c.into_table-table.ensures.references c.into_table-table.ensures.widths c.into_table-table.ensures.lengths in
    ap values read.are ∙ read.counted

pub is_steady-requires-clause-order : goal.is_steady-requires-clause-order
is_steady-requires-clause-order g c =
    let agrees = c.requires.begun.agrees in
    elim agrees.accepted.order [
      | inl two ↦ omega (arith, two.1, agrees.order)
      | inr three ↦ elim three.1 [ inl one ↦ omega (arith, one, agrees.order) | inr other ↦ omega (arith, other, agrees.order) ]
    ]

pub returns-then-is_steady : goal.returns-then-is_steady
returns-then-is_steady g c = λ s5 keeper octets agrees is_numbers whole.
    let b = c.args.self in
    let complex = b.complex in
    let layout = complex.layout in
    let k = (complex.order + 1) * complex.extra in
    let count = complex.simple.values in
    let l = c.args.length in
    let start = c.args.start in
    let os = drop k octets in
    let read = table_told s5 keeper start l octets b agrees whole c.finish-lists.result c.finish-lists.ensures c.skip.result c.fault.result c.skip.ensures c.fault.ensures
    c.into_table-table.result c.in_default.is c.into_table-table.ensures.references c.into_table-table.ensures.widths c.into_table-table.ensures.lengths in
    let none = sym (fault_told s5 keeper start l octets b agrees whole c.finish-lists.result c.finish-lists.ensures c.skip.result c.fault.result c.skip.ensures c.fault.ensures) ∙ c.in_default.is in
    let same = read.are in
    let numbers = λ (s7 : List ℕ). bits (drop (k + list_octets layout) (drop 5 s7)) in
    let entries = λ (s7 : List ℕ) (continues : Continues octets l s7).
    came_entries complex s5 agrees.spelled agrees.accepted agrees.groups start l octets s7 continues agrees.within whole in
    record {
      passes = λ s7 continues.
          came_whole complex s5 agrees.spelled agrees.accepted agrees.groups start l octets s7 continues agrees.within whole (agrees.unsigned s7 continues) none
          ∙ elim (c.is_steady.ensures c.if-is_steady.true) [
            | inl plain ↦ plain_range complex s5 s7 agrees.spelled agrees.accepted (sym agrees.order ∙ plain)
            | inr within ↦ elim (cases_eq b.told.order 0) [
              | inl plain ↦ plain_range complex s5 s7 agrees.spelled agrees.accepted (sym agrees.order ∙ plain)
              | inr some ↦
                  let after : After (descriptors_in b.told) NoNumber ≡ telling_by complex.order complex.extra s7 =
                  sym (cond-false (eqb b.told.order 0) Plainly (After (descriptors_in b.told) NoNumber) (ne_eqb b.told.order 0 some)) ∙ agrees.told_is s7 continues in
                  let told_all =
                  ap₂ (λ (t : Telling) (gs : List Group). told t (codes_from layout gs (numbers s7))) after same
                  ∙ entries s7 continues ∙ entries_grouped complex s5 agrees.spelled agrees.accepted agrees.groups s7 in
                  within_range s5 s7 (sym (ap (first_place is_out_of_range) told_all) ∙ within layout (numbers s7))
            ]
          ];
      counted = λ s7 continues. told_count layout (groups layout os) (telling_by complex.order complex.extra s7) (numbers s7) (entries_of s5 s7) (value_count s5) (entries s7 continues) (read.counted ∙ agrees.spelled.simple.values);
      keeps = subst (λ (n : _). (points : List Point) → g.K.Keeper.kept n points b.keeper) agrees.keeper_is (c.keeps.ensures c.if-not-keeps.true);
    }

-- without differences
pub returns-then-told-eq0 : goal.returns-then-told-eq0
returns-then-told-eq0 g c = λ s5 keeper octets agrees is_numbers whole.
    let b = c.args.self in
    let complex = b.complex in
    let layout = complex.layout in
    let k = (complex.order + 1) * complex.extra in
    let before = k + list_octets layout in
    let l = c.args.length in
    let start = c.args.start in
    let kept = g.K.Keeper.kept in
    let gs = groups layout (drop k octets) in
    let fed = c.push.result in
    let pushed = c.push.ensures in
    let read = table_told s5 keeper start l octets b agrees whole c.finish-lists.result c.finish-lists.ensures c.skip.result c.fault.result c.skip.ensures c.fault.ensures
    c.into_table-table.result c.in_default.is c.into_table-table.ensures.references c.into_table-table.ensures.widths c.into_table-table.ensures.lengths in
    let none = sym (fault_told s5 keeper start l octets b agrees whole c.finish-lists.result c.finish-lists.ensures c.skip.result c.fault.result c.skip.ensures c.fault.ensures) ∙ c.in_default.is in
    let no_order : complex.order ≡ 0 = sym agrees.order ∙ c.if-told-eq0.true in
    let by_groups = subst (λ (table : List Group). WasFed (PlainTook kept) layout table (record { keeper = b.keeper }) c.args.numbers.now fed) read.are
    (pushed.fed layout (groups_in c.into_table-table.result) (record { keeper = b.keeper }) [] c.groups.ensures.fed) in
    let by_numbers = subst (λ (xs : List ℕ). WasFed (PlainTook kept) layout gs (record { keeper = b.keeper }) xs fed) is_numbers by_groups in
    let reads : PlainAgrees kept keeper l octets layout gs before fed = record {
      came = whole;
      enough = omega (arith, read.enough);
      feedable = pushed.feedable;
      so_far = subst (λ n. WasFed (PlainTook kept) layout gs (record { keeper = n }) (drop before octets) fed) agrees.keeper_is by_numbers;
      caught_up = pushed.caught_up;
    } in
    let is_plain : (s7 : List ℕ) → Plainly ≡ telling_by complex.order complex.extra s7 =
    λ s7. sym (cond-true (eqb complex.order 0) Plainly (After (descriptors_by complex.order complex.extra s7) NoNumber) (eq-eqb complex.order 0 no_order)) in
    let entries = λ (s7 : List ℕ) (continues : Continues octets l s7).
    ap (λ (t : Telling). told t (codes_from layout gs (bits (drop before (drop 5 s7))))) (is_plain s7) ∙ came_entries complex s5 agrees.spelled agrees.accepted agrees.groups start l octets s7 continues agrees.within whole in
    let before_is = lists_before complex s5 agrees.spelled agrees.accepted agrees.groups in
    let groups_are = λ (s7 : List ℕ) (continues : Continues octets l s7). numbers_came complex s5 agrees.spelled agrees.accepted agrees.groups l octets s7 continues whole in
    record {
      layout = layout;
      groups = gs;
      before = before;
      reads = reads;
      counted = read.counted ∙ agrees.spelled.simple.values;
      entries = entries;
      passes = λ s7 continues.
          came_whole complex s5 agrees.spelled agrees.accepted agrees.groups start l octets s7 continues agrees.within whole (agrees.unsigned s7 continues) none
          ∙ plain_range complex s5 s7 agrees.spelled agrees.accepted no_order;
      before_is = before_is;
      groups_are = groups_are;
      table = λ s7 continues.
          ap groups_in (pushed.table ∙ c.groups.ensures.table) ∙ read.are ∙ table_came complex s5 agrees.spelled agrees.accepted agrees.groups l octets s7 continues whole;
      telling_is = λ s7 continues. is_plain s7 ∙ told_by complex s5 agrees.spelled agrees.accepted agrees.groups s7;
      points = λ s7 continues. plain_so_far kept s5 keeper l octets layout gs before fed reads s7 continues (entries s7 continues) (groups_are s7 continues) before_is;
    }

-- with them
pub returns : goal.returns
returns g c = λ s5 keeper octets agrees is_numbers whole.
    let b = c.args.self in
    let complex = b.complex in
    let layout = complex.layout in
    let k = (complex.order + 1) * complex.extra in
    let count = complex.simple.values in
    let l = c.args.length in
    let start = c.args.start in
    let os = drop k octets in
    let table = c.into_table-table.result in
    let first = c.start-values.result in
    let keeper_is = c.start-values.ensures.keeper ∙ agrees.keeper_is in
    let read = table_told s5 keeper start l octets b agrees whole c.finish-lists.result c.finish-lists.ensures c.skip.result c.fault.result c.skip.ensures c.fault.ensures
    c.into_table-table.result c.in_default.is c.into_table-table.ensures.references c.into_table-table.ensures.widths c.into_table-table.ensures.lengths in
    let none = sym (fault_told s5 keeper start l octets b agrees whole c.finish-lists.result c.finish-lists.ensures c.skip.result c.fault.result c.skip.ensures c.fault.ensures) ∙ c.in_default.is in
    let same = read.are in
    let took = ValuesTook g.K.Keeper.kept in
    let pushed = c.push-2.ensures.fed layout (groups_in table) first [] c.groups-2.ensures.fed in
    let by_groups = subst (λ (gs : List Group). WasFed took layout gs first c.args.numbers.now c.push-2.result) same pushed in
    let so_far = subst (λ (xs : List ℕ). WasFed took layout (groups layout os) first xs c.push-2.result) is_numbers by_groups in
    let fresh = subst (λ (t : Telling). Tells t [] first.teller) c.running.ensures c.start-values.ensures.nothing in
    let few : values (groups layout os) < 2 ^ 32 = omega (arith, read.counted, agrees.few) in
    let before_is = lists_before complex s5 agrees.spelled agrees.accepted agrees.groups in
    let entries = λ (s7 : List ℕ) (continues : Continues octets l s7).
    ap (λ (t : Telling). told t (codes_from layout (groups layout os) (bits (drop (k + list_octets layout) (drop 5 s7))))) (agrees.told_is s7 continues)
    ∙ came_entries complex s5 agrees.spelled agrees.accepted agrees.groups start l octets s7 continues agrees.within whole in
    let telling_is = λ (s7 : List ℕ) (continues : Continues octets l s7). agrees.told_is s7 continues ∙ told_by complex s5 agrees.spelled agrees.accepted agrees.groups s7 in
    let groups_are = λ (s7 : List ℕ) (continues : Continues octets l s7). numbers_came complex s5 agrees.spelled agrees.accepted agrees.groups l octets s7 continues whole in
    record {
      layout = layout;
      groups = groups layout os;
      telling = telling_told b.told;
      first = first;
      before = k + list_octets layout;
      came = whole;
      feedable = c.push-2.ensures.feedable;
      so_far = so_far;
      fresh = fresh;
      keeper_is = keeper_is;
      few = few;
      counted = read.counted ∙ agrees.spelled.simple.values;
      enough = omega (arith, read.enough);
      entries = entries;
      within = λ s7 continues nowhere.
          came_whole complex s5 agrees.spelled agrees.accepted agrees.groups start l octets s7 continues agrees.within whole (agrees.unsigned s7 continues) none
          ∙ within_range s5 s7 (sym (ap (first_place is_out_of_range) (entries_grouped complex s5 agrees.spelled agrees.accepted agrees.groups s7)) ∙ nowhere);
      beyond = λ s7 continues somewhere.
          let all = entries_grouped complex s5 agrees.spelled agrees.accepted agrees.groups s7 in
          let here : first_place is_out_of_range (entries_of s5 s7) ≡ first_place is_out_of_range (group_entries s5 s7) = ap (first_place is_out_of_range) all in
          let origin : start + 0 ≡ start = omega arith in
          ap (located start) (came_whole complex s5 agrees.spelled agrees.accepted agrees.groups start l octets s7 continues agrees.within whole (agrees.unsigned s7 continues) none
          ∙ beyond_range s5 s7 (elim agrees.accepted.order [
            | inl two ↦ absurd (c.if-told-eq0.false (agrees.order ∙ two.1))
            | inr three ↦ sym agrees.spelled.simple.template ∙ three.0
          ]) (omega (arith, here, somewhere)))
          ∙ ap₂ (λ (o d : ℕ). Some (refusal o ScaledRange d)) origin (sym here);
      caught_up = c.push-2.ensures.caught_up;
      before_is = before_is;
      groups_are = groups_are;
      table = λ s7 continues.
          ap groups_in (c.push-2.ensures.table ∙ c.groups-2.ensures.table) ∙ same ∙ table_came complex s5 agrees.spelled agrees.accepted agrees.groups l octets s7 continues whole;
      telling_is = telling_is;
      undone_with = λ s7 continues. undone g.K.Keeper.kept layout (groups layout os) (telling_told b.told) first (drop (k + list_octets layout) octets) c.push-2.result so_far fresh ∙ ap undoing (telling_is s7 continues);
      points = λ s7 continues.
          points_agree g.K.Keeper.kept s5 keeper l octets layout (groups layout os) (telling_told b.told) first (k + list_octets layout) c.push-2.result so_far c.push-2.ensures.caught_up fresh keeper_is few whole
          s7 continues (entries s7 continues) (groups_are s7 continues) before_is;
    }
