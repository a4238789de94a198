-- What is read of the three lists of groups.
use Rattle.std.specs.Prelude.{◌≡◌, ℕ, ◌+◌, ◌*◌, ◌^◌, ◌<◌, ◌≤◌, List, [], ◌∷◌, ◌++◌, length, drop, map, nat_lt, not, ◌==◌, Bool, cond, Option, Some, None, sum, vec_capacity}
use Rattle.std.specs.List.{All}
use Rattle.grib_base.specs.declared.code.Code.{Code}
use Rattle.grib_base.specs.declared.fault.Fault.{Fault}
use Rattle.grib_base.specs.declared.fault.Reason.TheVariants.{GroupWidth, GroupShape, DataTooShort}
use Rattle.grib_base.specs.Rules.{Rule, rule, first_fault, first_place, first_fault_at}
use Rattle.grib_packing.specs.declared.layout.Layout.{Layout}
use Rattle.grib_packing.specs.Groups.{reference_octets, list_octets, list_rules, packed_bits, groups, groups_from, first_past}
use Rattle.grib_group_reading.specs.declared.lists.References.{References}
use Rattle.grib_group_reading.specs.declared.lists.Widths.{Widths}
use Rattle.grib_group_reading.specs.declared.lists.Lengths.{Lengths}
use Rattle.grib_group_reading.specs.declared.lists.Lists.{Lists}
use Rattle.grib_group_reading.specs.declared.table.Table.{Table}
use Rattle.grib_group_reading.specs.Taking.{number_of}

-- There are groups, and no number in their lists has more than 32 bits.
pub record HasGroups (layout : Layout) : Type 0 where
  pub references : layout.reference_bits ≤ 32
  pub widths : layout.width_bits ≤ 32
  pub lengths : layout.length_bits ≤ 32
  pub groups : 1 ≤ layout.groups

-- A Section 7 of l octets, of which some after the fifth are extra descriptors, has all octets of the lists.
pub record HasLists (layout : Layout) (extra l : ℕ) : Type 0 where
  pub layout_has : HasGroups layout
  pub skip : extra ≤ 12
  pub lists : first_fault (list_rules layout l extra) ≡ None

-- Items were added to a list that has memory for as many as `memory`.
pub record Grown {X : Type 0} (before : List X) (memory : ℕ) (added : List X) (after : List X) (memory_after : ℕ) : Type 0 where
  pub items : after ≡ before ++ added
  pub capacity : memory ≤ memory_after

-- there is memory for n further references
abbrev pub ReferencesRoom : References → ℕ → Type 0
ReferencesRoom references n = length references.items.items + n ≤ vec_capacity references.items

abbrev pub ReferencesTook : References → List Code → References → Type 0
ReferencesTook before codes after =
    length before.items.items + length codes ≤ vec_capacity before.items
    → Grown before.items.items (vec_capacity before.items) (map number_of codes) after.items.items (vec_capacity after.items)

-- the place that was noted before, else this one where it is to be noted
abbrev pub noted_first : Option ℕ → Bool → ℕ → Option ℕ
noted_first (Some before) here place = Some before
noted_first None here place = cond here (Some place) None

-- a place from 1 on is noted, and none for 0
abbrev pub IsNoted : Option ℕ → ℕ → Type 0
IsNoted None place = place ≡ 0
IsNoted (Some noted) place = (1 ≤ noted) × (noted ≡ place)

-- These widths were read: they are kept, or the first of them that is over 32 is known.
pub record WidthsAre (widths : Widths) (read : List ℕ) : Type 0 where
  pub long : length widths.items.items ≡ length read
  pub items : widths.too_wide ≡ None → widths.items.items ≡ read
  pub place : IsNoted widths.too_wide (first_place (λ width. nat_lt 32 width) read)
  pub narrow : All (λ width. width ≤ 32) widths.items.items

-- there is memory for n further widths
abbrev pub WidthsRoom : Widths → ℕ → Type 0
WidthsRoom widths n = length widths.items.items + n ≤ vec_capacity widths.items

abbrev pub coded_widths : ℕ → List Code → List ℕ
coded_widths reference codes = map (λ code. reference + number_of code) codes

pub record WidthsTook (before : Widths) (codes : List Code) (after : Widths) : Type 0 where
  pub reference : after.reference ≡ before.reference
  pub capacity : vec_capacity before.items ≤ vec_capacity after.items
  pub long : WidthsRoom before (length codes) → length after.items.items ≡ length before.items.items + length codes
  pub read : (read : List ℕ) → length read + length codes ≤ vec_capacity before.items → WidthsAre before read → WidthsAre after (read ++ coded_widths before.reference codes)

-- These lengths were read, where the field has this many values: they are kept, or the first group that
-- takes their sum past the values is known.
pub record LengthsAre (values : ℕ) (lengths : Lengths) (read : List ℕ) : Type 0 where
  pub long : length lengths.items.items ≡ length read
  pub items : lengths.past ≡ None → lengths.items.items ≡ read
  pub rest : lengths.past ≡ None → sum read + lengths.rest ≡ values
  pub so_far : lengths.past ≡ None → (more : List ℕ) → first_past values 0 (read ++ more) ≡ first_past lengths.rest (length read) more
  pub over : (place : ℕ) → lengths.past ≡ Some place → values < sum read
  pub past : (place : ℕ) → lengths.past ≡ Some place → (more : List ℕ) → first_past values 0 (read ++ more) ≡ place

-- there is memory for n further lengths
abbrev pub LengthsRoom : Lengths → ℕ → Type 0
LengthsRoom lengths n = length lengths.items.items + n ≤ vec_capacity lengths.items

abbrev pub coded_lengths_by : ℕ → ℕ → List Code → List ℕ
coded_lengths_by reference increment codes = map (λ code. reference + increment * number_of code) codes

-- the parts that all lengths are read with stay
pub record SameCoding (before after : Lengths) : Type 0 where
  pub reference : after.reference ≡ before.reference
  pub increment : after.increment ≡ before.increment
  pub capacity : vec_capacity before.items ≤ vec_capacity after.items

pub record LengthAdded (before : Lengths) (added : ℕ) (after : Lengths) : Type 0 where
  pub same : SameCoding before after
  pub long : length after.items.items ≡ length before.items.items + 1
  pub read : (values : ℕ) (read : List ℕ) → length read + 1 ≤ vec_capacity before.items → LengthsAre values before read → LengthsAre values after (read ++ added ∷ [])

pub record LengthsTook (before : Lengths) (codes : List Code) (after : Lengths) : Type 0 where
  pub same : SameCoding before after
  pub long : LengthsRoom before (length codes) → length after.items.items ≡ length before.items.items + length codes
  pub read : (values : ℕ) (read : List ℕ) → length read + length codes ≤ vec_capacity before.items → LengthsAre values before read
      → LengthsAre values after (read ++ coded_lengths_by before.reference before.increment codes)

-- No group was read, and there is memory for all of them.
pub record AreEmpty (layout : Layout) (values : ℕ) (lists : Lists) : Type 0 where
  pub references : lists.references.items.items ≡ []
  pub reference_memory : layout.groups ≤ vec_capacity lists.references.items
  pub widths : WidthsAre lists.widths []
  pub width_reference : lists.widths.reference ≡ layout.width_reference
  pub width_memory : layout.groups ≤ vec_capacity lists.widths.items
  pub lengths : LengthsAre values lists.lengths []
  pub length_reference : lists.lengths.reference ≡ layout.length_reference
  pub length_increment : lists.lengths.increment ≡ layout.length_increment
  pub length_memory : layout.groups ≤ vec_capacity lists.lengths.items

-- These three lists were read, each with an entry for every group.
pub record ListsAre (layout : Layout) (values : ℕ) (lists : Lists) (references widths lengths : List ℕ) : Type 0 where
  pub references_are : lists.references.items.items ≡ references
  pub widths_are : WidthsAre lists.widths widths
  pub lengths_are : LengthsAre values lists.lengths lengths
  pub reference_count : length references ≡ layout.groups
  pub width_count : length widths ≡ layout.groups
  pub length_count : length lengths ≡ layout.groups

-- Some lists were read, of a field of some values.
pub record WereRead (layout : Layout) (lists : Lists) : Type 0 where
  pub values : ℕ
  pub small : values < 2 ^ 32
  pub references : List ℕ
  pub widths : List ℕ
  pub lengths : List ℕ
  pub are : ListsAre layout values lists references widths lengths

-- rules S7.4 to S7.6 of a Section 7 of l octets that has these lists
abbrev pub lists_rules : Layout → ℕ → ℕ → ℕ → List ℕ → List ℕ → List ℕ → List Rule
lists_rules layout skip l values references widths lengths =
    let too_wide = first_place (λ w. nat_lt 32 w) widths in
    rule (nat_lt 0 too_wide) (6 + skip + reference_octets layout) GroupWidth too_wide  -- S7.4
    ∷ rule (not (sum lengths == values)) 1 GroupShape (first_past values 0 lengths)  -- S7.5
    ∷ rule (nat_lt (8 * l) (8 * (5 + skip + list_octets layout) + packed_bits (groups_from references widths lengths))) 1 DataTooShort l  -- S7.6
    ∷ []

abbrev pub lists_fault : Layout → ℕ → ℕ → ℕ → ℕ → List ℕ → List ℕ → List ℕ → Option Fault
lists_fault layout start skip l values references widths lengths = first_fault_at start (lists_rules layout skip l values references widths lengths)
