use Rattle.std.proofs.Common.{◌≡◌, ℕ, ◌+◌, ◌-◌, ◌*◌, ◌^◌, ◌<◌, ◌≤◌, ◌++◌, Option, Some, None, List, [], length, take, drop, sym, ap, ap₂, ◌∙◌, arith, subst, rules}
use Rattle.std.proofs.lemmas.List.{take_rest, length-take, length-drop, map-id}
use Rattle.grib_bits.specs.Bits.{bits}
use Rattle.grib_base.specs.declared.code.Code.{Code}
use Rattle.grib_base.specs.declared.fault.Fault.{Fault}
use Rattle.grib_base.specs.Rules.{first_fault_at}
use Rattle.grib_packing.specs.declared.group.Group.{Group}
use Rattle.grib_packing.specs.declared.layout.Layout.{Layout}
use Rattle.grib_packing.specs.Groups.{codes_from, grouped, group_rules, list_octets, packed_bits, references, widths, lengths}
use Rattle.grib_group_reading.specs.declared.lists.Lists.{Lists}
use Rattle.grib_group_reading.specs.declared.table.Table.{Table}
use Rattle.grib_group_reading.specs.Lists.{ListsAre, lists_fault}
use Rattle.grib_group_reading.specs.Table.{groups_in}
use Rattle.grib_group_reading.specs.Taking.{values}
use Rattle.grib_group_reading.proofs.Faults.{TableRead, table_read}
use Rattle.grib_group_reading.proofs.Taken.{length-codes_from}
use Rattle.grib_groups.proofs.decoding.decode_groups.Goals as goal

-- the lists of a section, and their refusal
module _ (layout : Layout) (s7 : List ℕ) (start skip l count : ℕ) (lists : Lists) (fault : Option Fault) (is_length : l ≡ length s7) (small : count < 2 ^ 32)
    (are : let octets = take (length s7 - (5 + skip)) (drop (5 + skip) s7) in ListsAre layout count lists (references layout octets) (widths layout octets) (lengths layout octets))
    (is_fault : (values : ℕ) (rs ws ls : List ℕ) → values < 2 ^ 32 → ListsAre layout values lists rs ws ls → fault ≡ lists_fault layout start skip l values rs ws ls) where
  lists_told : let octets = drop (5 + skip) s7 in ListsAre layout count lists (references layout octets) (widths layout octets) (lengths layout octets)
  lists_told = subst (λ (os : List ℕ). ListsAre layout count lists (references layout os) (widths layout os) (lengths layout os)) (take_rest s7 (5 + skip)) are

  fault_told : fault ≡ first_fault_at start (group_rules layout s7 skip count)
  fault_told =
      let octets = drop (5 + skip) s7 in
      let rs = references layout octets in
      let ws = widths layout octets in
      let ls = lengths layout octets in
      is_fault count rs ws ls small lists_told ∙ ap (λ (n : ℕ). lists_fault layout start skip n count rs ws ls) is_length

  table_told : (table : Table) → fault ≡ None → table.references ≡ lists.references.items → table.widths ≡ lists.widths.items → table.lengths ≡ lists.lengths.items
      → let octets = drop (5 + skip) s7 in TableRead layout skip (length s7) count (references layout octets) (widths layout octets) (lengths layout octets) table
  table_told table none is_references is_widths is_lengths =
      let octets = drop (5 + skip) s7 in
      table_read layout start skip (length s7) count lists table (references layout octets) (widths layout octets) (lengths layout octets) lists_told (sym fault_told ∙ none) is_references is_widths is_lengths

pub returns-in-Some : goal.returns-in-Some
returns-in-Some c =
    let s7 = c.args.section7.now.octets.now in
    let is_length : c.read_u32-length.result ≡ length s7 = search rules in
    sym (fault_told c.args.layout.now s7 c.args.section7.now.start c.args.skip c.read_u32-length.result c.args.count c.in_ok-lists.lists c.fault.result is_length c.ranges.count.fits c.in_ok-lists.ensures c.fault.ensures) ∙ c.in-Some.is

pub push-fed-requires-clause-room : goal.push-fed-requires-clause-room
push-fed-requires-clause-room c =
    let s7 = c.args.section7.now.octets.now in
    let layout = c.args.layout.now in
    let is_length : c.read_u32-length.result ≡ length s7 = search rules in
    let memory = c.in_ok-with_capacity.ensures in
    let read = table_told layout s7 c.args.section7.now.start c.args.skip c.read_u32-length.result c.args.count c.in_ok-lists.lists c.fault.result is_length c.ranges.count.fits c.in_ok-lists.ensures c.fault.ensures
    c.into_table.result c.in_default.is c.into_table.ensures.references c.into_table.ensures.widths c.into_table.ensures.lengths in
    c.groups.ensures.room 0 (omega (arith, ap length memory.items, memory.capacity, ap values read.are, read.counted))

pub finish-requires-clause-room : goal.finish-requires-clause-room
finish-requires-clause-room c =
    let s7 = c.args.section7.now.octets.now in
    let layout = c.args.layout.now in
    let is_length : c.read_u32-length.result ≡ length s7 = search rules in
    let memory = c.in_ok-with_capacity.ensures in
    let read = table_told layout s7 c.args.section7.now.start c.args.skip c.read_u32-length.result c.args.count c.in_ok-lists.lists c.fault.result is_length c.ranges.count.fits c.in_ok-lists.ensures c.fault.ensures
    c.into_table.result c.in_default.is c.into_table.ensures.references c.into_table.ensures.widths c.into_table.ensures.lengths in
    c.push-fed.ensures.room 0 (c.groups.ensures.room 0 (omega (arith, ap length memory.items, memory.capacity, ap values read.are, read.counted)))

pub returns : goal.returns
returns c =
    let s7 = c.args.section7.now.octets.now in
    let layout = c.args.layout.now in
    let is_length : c.read_u32-length.result ≡ length s7 = search rules in
    let memory = c.in_ok-with_capacity.ensures in
    let read = table_told layout s7 c.args.section7.now.start c.args.skip c.read_u32-length.result c.args.count c.in_ok-lists.lists c.fault.result is_length c.ranges.count.fits c.in_ok-lists.ensures c.fault.ensures
    c.into_table.result c.in_default.is c.into_table.ensures.references c.into_table.ensures.widths c.into_table.ensures.lengths in
    let told = fault_told layout s7 c.args.section7.now.start c.args.skip c.read_u32-length.result c.args.count c.in_ok-lists.lists c.fault.result is_length c.ranges.count.fits c.in_ok-lists.ensures c.fault.ensures in
    let table = c.into_table.result in
    let k = 5 + c.args.skip in
    let os = take (length s7 - k) (drop k s7) in
    let m = c.octets_of_lists.result in
    let numbers = take (length os - m) (drop m os) in
    let at_numbers : numbers ≡ drop (list_octets layout) (drop k s7) = take_rest os m ∙ ap₂ (λ (n : ℕ) (ys : List ℕ). drop n ys) c.octets_of_lists.ensures.octets (take_rest s7 k) in
    let codes = codes_from layout (groups_in table) (bits numbers) in
    let all : codes ≡ grouped layout (drop k s7) = ap₂ (λ (gs : List Group) (ys : List ℕ). codes_from layout gs (bits ys)) read.are at_numbers in
    let enough : packed_bits (groups_in table) ≤ 8 * length numbers =
    omega (arith, read.enough, ap packed_bits read.are, ap length at_numbers, length-drop (list_octets layout) (drop k s7), length-drop k s7) in
    let took = c.finish.ensures.took layout (groups_in table) _ numbers (c.push-fed.ensures.fed layout (groups_in table) _ [] c.groups.ensures.fed) enough in
    let grown = took (omega (arith, ap length memory.items, memory.capacity, length-codes_from layout (groups_in table) (bits numbers), ap values read.are, read.counted)) in
    (sym told ∙ c.in_default.is, grown.items ∙ ap₂ (λ (xs ys : List Code). xs ++ ys) memory.items (map-id _) ∙ all)
