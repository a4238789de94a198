-- Packed numbers that come in pieces.
use Rattle.std.specs.Prelude.{◌≡◌, ℕ, ◌+◌, ◌-◌, ◌^◌, ◌<◌, ◌≤◌, Bool, List, [], ◌∷◌, length, map, take, drop, vec_len}
use Rattle.grib_bits.specs.Bits.{bits}
use Rattle.grib_bits.specs.Plain.{plain}
use Rattle.grib_base.specs.declared.code.Code.{Code}
use Rattle.grib_base.specs.declared.code.Code.TheVariants.{Present}
use Rattle.grib_packing.specs.declared.group.Group.{Group}
use Rattle.grib_packing.specs.declared.layout.Layout.{Layout}
use Rattle.grib_packing.specs.Groups.{reference_octets, width_octets, length_octets, list_octets}
use Rattle.grib_group_reading.specs.declared.feeding.Fed.{Fed}
use Rattle.grib_group_reading.specs.declared.list_feeding.FedLists.{FedLists}
use Rattle.grib_group_reading.specs.declared.list_feeding.FedLists.TheVariants.{AtReferences, AtWidths, AtLengths}
use Rattle.grib_group_reading.specs.declared.lists.Lists.{Lists}
use Rattle.grib_group_reading.specs.declared.lists.References.{References}
use Rattle.grib_group_reading.specs.declared.lists.Widths.{Widths}
use Rattle.grib_group_reading.specs.declared.lists.Lengths.{Lengths}
use Rattle.grib_group_reading.specs.Table.{groups_in, IsWhole, IsNarrow}
use Rattle.grib_group_reading.specs.Taking.{values}
use Rattle.grib_group_reading.specs.Going.{left_of, IsReady, IsShort, Went}
use Rattle.grib_group_reading.specs.Lists.{ReferencesRoom, ReferencesTook, WidthsRoom, WidthsTook, LengthsRoom, LengthsTook, AreEmpty, HasGroups}

-- `size` octets after the first `from`, as far as they go
abbrev pub part : ℕ → ℕ → List ℕ → List ℕ
part from size octets = take size (drop from octets)

-- the layout of numbers none of which is a mark
abbrev pub no_marks : Layout
no_marks = record {
  groups = 0;
  reference_bits = 0;
  width_reference = 0;
  width_bits = 0;
  length_reference = 0;
  length_increment = 0;
  last_length = 0;
  length_bits = 0;
  management = 0;
}

-- and such numbers, all of one width
abbrev pub plain_groups : ℕ → ℕ → List Group
plain_groups bits count = record { reference = 0; width = bits; count = count } ∷ []

-- To what takes codes below `limit`, octets can be fed.
pub record IsFeedable {S : Type 0} (limit : ℕ) (fed : Fed S) : Type 0 where
  pub bits : fed.layout.reference_bits ≤ 48
  pub whole : IsWhole fed.table
  pub narrow : IsNarrow fed.table
  pub below : 0 < vec_len fed.table.lengths → 2 ^ 33 ≤ limit
  pub ready : IsReady limit fed.numbers

-- What takes the codes has room for those that are still to come, and for n more.
abbrev pub HasRoom : {S : Type 0} → (S → ℕ → Type 0) → Fed S → ℕ → Type 0
HasRoom room fed n = room fed.taker (values (left_of fed.numbers (groups_in fed.table)) + n)

-- These octets of the numbers of some groups came: the codes of the numbers that end in them went to
-- what takes them, which was at `start`, and the bits behind them are kept.
pub record WasFed {S : Type 0} (took : S → List Code → S → Type 0) (layout : Layout) (groups : List Group) (start : S) (octets : List ℕ) (fed : Fed S) : Type 0 where
  pub layout_is : fed.layout ≡ layout
  pub went : Went took layout groups (bits octets) start (left_of fed.numbers (groups_in fed.table)) fed.numbers.pending fed.taker

-- the pending bits
abbrev pub pending_of : {S : Type 0} → Fed S → List Bool
pending_of fed = fed.numbers.pending

-- All numbers are of this width.
pub record IsList {S : Type 0} (width : ℕ) (fed : Fed S) : Type 0 where
  pub all : vec_len fed.table.lengths ≡ 0
  pub current : fed.numbers.current.width ≡ width

-- No further number ends in the octets that came.
pub record IsCaughtUp {S : Type 0} (fed : Fed S) : Type 0 where
  pub waits : 0 < values (left_of fed.numbers (groups_in fed.table)) → IsShort fed.numbers

-- To the list that is being read octets can be fed, and there is memory for those after it. The last length comes
-- after the others.
abbrev pub CanBeFed : Layout → FedLists → Type 0
CanBeFed layout (AtReferences references widths lengths) =
    IsFeedable (2 ^ 32) references × HasRoom ReferencesRoom references 0 × WidthsRoom widths layout.groups × LengthsRoom lengths layout.groups
CanBeFed layout (AtWidths references widths lengths) = IsFeedable (2 ^ 32) widths × HasRoom WidthsRoom widths 0 × LengthsRoom lengths layout.groups
CanBeFed layout (AtLengths references widths lengths) = IsFeedable (2 ^ 32) lengths × HasRoom LengthsRoom lengths 1

pub record AreFeedable (layout : Layout) (fed : FedLists) : Type 0 where
  pub groups : HasGroups layout
  pub list : CanBeFed layout fed

-- The references, which were at `start`, are those of these octets, which hold all of them.
pub record HasReferences (layout : Layout) (start : Lists) (octets : List ℕ) (references : References) : Type 0 where
  pub came : reference_octets layout ≤ length octets
  pub took : ReferencesTook start.references (map Present (plain (bits octets) layout.reference_bits layout.groups)) references

-- And so are the widths.
pub record HasWidths (layout : Layout) (start : Lists) (octets : List ℕ) (widths : Widths) : Type 0 where
  pub came : reference_octets layout + width_octets layout ≤ length octets
  pub took : WidthsTook start.widths (map Present (plain (bits (drop (reference_octets layout) octets)) layout.width_bits layout.groups)) widths

-- Octets of the references are still to come.
pub record ReadsReferences (layout : Layout) (start : Lists) (octets : List ℕ) (references : Fed References) (widths : Widths) (lengths : Lengths) : Type 0 where
  pub short : length octets < reference_octets layout
  pub reads : WasFed ReferencesTook no_marks (plain_groups layout.reference_bits layout.groups) start.references (part 0 (reference_octets layout) octets) references
  pub widths_wait : widths ≡ start.widths
  pub lengths_wait : lengths ≡ start.lengths

-- The references are whole, and octets of the widths are still to come.
pub record ReadsWidths (layout : Layout) (start : Lists) (octets : List ℕ) (references : References) (widths : Fed Widths) (lengths : Lengths) : Type 0 where
  pub short : length octets < reference_octets layout + width_octets layout
  pub references_are : HasReferences layout start octets references
  pub reads : WasFed WidthsTook no_marks (plain_groups layout.width_bits layout.groups) start.widths (part (reference_octets layout) (width_octets layout) octets) widths
  pub lengths_wait : lengths ≡ start.lengths

-- The references and the widths are whole. The length of the last group is not read.
pub record ReadsLengths (layout : Layout) (start : Lists) (octets : List ℕ) (references : References) (widths : Widths) (lengths : Fed Lengths) : Type 0 where
  pub references_are : HasReferences layout start octets references
  pub widths_are : HasWidths layout start octets widths
  pub reads : WasFed LengthsTook no_marks (plain_groups layout.length_bits (layout.groups - 1)) start.lengths (part (reference_octets layout + width_octets layout) (length_octets layout) octets) lengths

abbrev pub Listing : Layout → Lists → List ℕ → FedLists → Type 0
Listing layout start octets (AtReferences references widths lengths) = ReadsReferences layout start octets references widths lengths
Listing layout start octets (AtWidths references widths lengths) = ReadsWidths layout start octets references widths lengths
Listing layout start octets (AtLengths references widths lengths) = ReadsLengths layout start octets references widths lengths

-- These octets came from the first list on: the lists, which were empty, have what they tell.
pub record ListsFed (layout : Layout) (values : ℕ) (octets : List ℕ) (fed : FedLists) : Type 0 where
  pub start : Lists
  pub empty : AreEmpty layout values start
  pub listing : Listing layout start octets fed

-- All octets of the lists came.
pub record AreWhole (layout : Layout) (lists : FedLists) : Type 0 where
  pub total : ℕ
  pub octets : List ℕ
  pub fed : ListsFed layout total octets lists
  pub enough : list_octets layout ≤ length octets

-- the pending bits of the list that is read
abbrev pub list_pending : FedLists → List Bool
list_pending (AtReferences references widths lengths) = pending_of references
list_pending (AtWidths references widths lengths) = pending_of widths
list_pending (AtLengths references widths lengths) = pending_of lengths
