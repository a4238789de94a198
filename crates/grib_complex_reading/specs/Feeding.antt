-- A Section 7 that comes in pieces: what is known of it by the octets that came after its fifth.
use Rattle.std.specs.Prelude.{◌≡◌, ℕ, ◌+◌, ◌-◌, ◌*◌, ◌^◌, ◌<◌, ◌≤◌, Bool, false, cond, None, Some, List, [], ◌++◌, get_or, length, take, drop, nat_abs, vec_capacity}
use Rattle.grib_bits.specs.Bits.{bits}
use Rattle.grib_base.specs.declared.fault.Fault.{Fault}
use Rattle.grib_base.specs.declared.fault.Reason.TheVariants.{ScaledRange}
use Rattle.grib_base.specs.Rules.{first_place, located, refusal}
use Rattle.grib_packing.specs.declared.group.Group.{Group}
use Rattle.grib_packing.specs.declared.layout.Layout.{Layout}
use Rattle.grib_packing.specs.Complex.{layout_of, descriptor_octets, difference_order, extra_octets}
use Rattle.grib_packing.specs.Entries.{data_fault, entries_of, has_no_groups, is_out_of_range}
use Rattle.grib_packing.specs.Groups.{codes_from, groups, list_octets, packed_bits}
use Rattle.grib_packing.specs.Packing.{value_count}
use Rattle.grib_packing.specs.declared.column.Point.{Point}
use Rattle.grib_group_reading.specs.declared.feeding.Fed.{Fed}
use Rattle.grib_group_reading.specs.declared.lists.References.{References}
use Rattle.grib_group_reading.specs.Feeding.{AreFeedable, HasRoom, IsCaughtUp, IsFeedable, IsList, ListsFed, WasFed, list_pending, no_marks, part, pending_of, plain_groups}
use Rattle.grib_group_reading.specs.Lists.{AreEmpty, ReferencesRoom, ReferencesTook}
use Rattle.grib_group_reading.specs.Table.{groups_in}
use Rattle.grib_group_reading.specs.Taking.{values, values_within}
use Rattle.grib_complex_reading.specs.declared.stages.Beginning.{Beginning}
use Rattle.grib_complex_reading.specs.declared.stages.Between.{Between}
use Rattle.grib_complex_reading.specs.declared.stages.ComplexReading.{ComplexReading}
use Rattle.grib_complex_reading.specs.declared.stages.ComplexReading.TheVariants.{Begins, Lists, ReadsPlainly, Reads, Passes, Refused}
use Rattle.grib_packing.specs.declared.keeping.Points.{Points}
use Rattle.grib_complex_reading.specs.declared.values.PlainValues.{PlainValues}
use Rattle.grib_complex_reading.specs.declared.values.Values.{Values}
use Rattle.grib_complex_reading.specs.Descriptors.{IsAccepted, is_signed_at, telling_by, telling_told}
use Rattle.grib_packing.specs.Kept.{ArePoints}
use Rattle.grib_complex_reading.specs.Representation.{Spelled}
use Rattle.grib_complex_reading.specs.Tells.{PlainTook, PointsWent, Tells, ValuesTook, telling_of}
use Rattle.grib_complex_reading.specs.Told.{Telling, Plainly, told, undoing}

abbrev pub AreOctets : List ℕ → Type 0
AreOctets xs = (i : ℕ) → get_or xs i 0 < 256

-- A Section 7 of l octets of which those from the sixth on begin with these.
pub record Continues (octets : List ℕ) (l : ℕ) (s7 : List ℕ) : Type 0 where
  pub long : length s7 ≡ l
  pub known : AreOctets (drop 5 s7)
  pub rest : List ℕ
  pub joined : drop 5 s7 ≡ octets ++ rest

-- This is the refusal of every such section.
abbrev pub IsFaultOf : List ℕ → ℕ → ℕ → List ℕ → Fault → Type 0
IsFaultOf s5 start l octets fault = (s7 : List ℕ) → Continues octets l s7 → located start (data_fault s5 s7) ≡ Some fault

-- No first value that is whole in these octets has its top bit set.
abbrev pub AreClear : ℕ → ℕ → ℕ → List ℕ → Type 0
AreClear order extra l octets = (j : ℕ) → j < order → (j + 1) * extra ≤ length octets → (s7 : List ℕ) → Continues octets l s7 → is_signed_at order extra s7 j ≡ false

-- ---- what a section holds

-- the group table: the references, widths and lengths that the three lists tell
abbrev pub table_of : List ℕ → List ℕ → List Group
table_of s5 s7 = cond (has_no_groups s5) [] (groups (layout_of s5) (drop (5 + descriptor_octets s5) s7))

-- the groups of the packed numbers; where Section 5 has no groups, each value is a number of no bits
abbrev pub number_groups : List ℕ → List ℕ → List Group
number_groups s5 s7 = cond (has_no_groups s5) (plain_groups 0 (value_count s5)) (table_of s5 s7)

-- the octets between the fifth and the first packed number
abbrev pub octets_before : List ℕ → ℕ
octets_before s5 = cond (has_no_groups s5) 0 (descriptor_octets s5 + list_octets (layout_of s5))

-- what the first code is told with: the first values and the minimum that stand in the section, if any
abbrev pub first_telling : List ℕ → List ℕ → Telling
first_telling s5 s7 = cond (has_no_groups s5) Plainly (telling_by (difference_order s5) (extra_octets s5) s7)

-- how many packed numbers end in these octets, which come after the fifth
abbrev pub numbers_in : List ℕ → List ℕ → List ℕ → ℕ
numbers_in s5 s7 octets = values_within (number_groups s5 s7) (8 * (length octets - octets_before s5))

-- and the entries of these numbers
abbrev pub entries_so_far : List ℕ → List ℕ → List ℕ → List Point
entries_so_far s5 s7 octets = take (numbers_in s5 s7 octets) (entries_of s5 s7)

-- ---- what is known of it

-- Not all octets of the extra descriptors came.
pub record BeginningAgrees {K : Type 0} (s5 : List ℕ) (keeper : K) (l : ℕ) (octets : List ℕ) (beginning : Beginning K) : Type 0 where
  pub spelled : Spelled beginning.complex s5
  pub accepted : IsAccepted beginning.complex
  pub groups : 1 ≤ beginning.complex.layout.groups
  pub few : beginning.complex.simple.values < 2 ^ 32
  pub within : 5 + (beginning.complex.order + 1) * beginning.complex.extra + list_octets beginning.complex.layout ≤ l
  pub below : length octets ≤ (beginning.complex.order + 1) * beginning.complex.extra
  pub first : References
  pub empty : first.items.items ≡ []
  pub memory : 3 ≤ vec_capacity first.items
  pub descriptors : WasFed ReferencesTook no_marks (plain_groups (8 * beginning.complex.extra) (beginning.complex.order + 1)) first (part 0 ((beginning.complex.order + 1) * beginning.complex.extra) octets) beginning.descriptors
  pub feedable : IsFeedable (2 ^ 32) beginning.descriptors
  pub list : IsList (8 * beginning.complex.extra) beginning.descriptors
  pub room : HasRoom ReferencesRoom beginning.descriptors 0
  pub lists : AreEmpty beginning.complex.layout beginning.complex.simple.values beginning.lists
  pub keeper_is : beginning.keeper ≡ keeper

-- The extra descriptors are whole in `all`, and of the octets of the lists these came: each list has those that are
-- its own. What the codes are undone with is what the descriptors tell, and no first value has its top bit set.
pub record ListingAgrees {K : Type 0} (s5 : List ℕ) (keeper : K) (l : ℕ) (octets all : List ℕ) (between : Between K) : Type 0 where
  pub spelled : Spelled between.complex s5
  pub accepted : IsAccepted between.complex
  pub groups : 1 ≤ between.complex.layout.groups
  pub few : between.complex.simple.values < 2 ^ 32
  pub within : 5 + (between.complex.order + 1) * between.complex.extra + list_octets between.complex.layout ≤ l
  pub came : (between.complex.order + 1) * between.complex.extra ≤ length all
  pub order : between.told.order ≡ between.complex.order
  pub first : nat_abs between.told.first ≤ 2 ^ 31
  pub second : nat_abs between.told.second ≤ 2 ^ 31
  pub minimum : nat_abs between.told.minimum ≤ 2 ^ 31
  pub told_is : (s7 : List ℕ) → Continues all l s7 → telling_told between.told ≡ telling_by between.complex.order between.complex.extra s7
  pub unsigned : (s7 : List ℕ) → Continues all l s7 → (is_signed_at between.complex.order between.complex.extra s7 0 ≡ false) × (is_signed_at between.complex.order between.complex.extra s7 1 ≡ false)
  pub lists : ListsFed between.complex.layout between.complex.simple.values (drop ((between.complex.order + 1) * between.complex.extra) octets) between.lists
  pub feedable : AreFeedable between.complex.layout between.lists
  pub keeper_is : between.keeper ≡ keeper

-- What keeps the points took as many as these, and the place of the first of these that is out of range is known.
-- Where none is, it took these.
pub record PointsAgree {K : Type 0} (kept : K → List Point → K → Type 0) (keeper : K) (points : List Point) (after_them : Values K) : Type 0 where
  pub place : after_them.teller.beyond ≡ first_place is_out_of_range points
  pub went : PointsWent kept keeper (length points) after_them.keeper
  pub keeps : after_them.teller.beyond ≡ 0 → kept keeper points after_them.keeper

-- The packed numbers of these groups, which are the scaled integers themselves, stand after the
-- first `before` octets: the points of those that came are kept, and no further number ends in
-- these octets.
pub record PlainAgrees {K : Type 0} (kept : K → List Point → K → Type 0) (keeper : K) (l : ℕ) (octets : List ℕ) (layout : Layout) (groups : List Group) (before : ℕ) (fed : Fed (PlainValues K)) : Type 0 where
  pub came : before ≤ length octets
  pub enough : 8 * (5 + before) + packed_bits groups ≤ 8 * l
  pub feedable : IsFeedable (2 ^ 49) fed
  pub so_far : WasFed (PlainTook kept) layout groups (record { keeper = keeper }) (drop before octets) fed
  pub caught_up : IsCaughtUp fed

-- They are those of a field in complex packing. No rule fails, whatever comes.
pub record ReadingPlainly {K : Type 0} (kept : K → List Point → K → Type 0) (s5 : List ℕ) (keeper : K) (l : ℕ) (octets : List ℕ) (fed : Fed (PlainValues K)) : Type 0 where
  pub layout : Layout
  pub groups : List Group
  pub before : ℕ
  pub reads : PlainAgrees kept keeper l octets layout groups before fed
  pub counted : values groups ≡ value_count s5
  pub entries : (s7 : List ℕ) → Continues octets l s7 → told Plainly (codes_from layout groups (bits (drop before (drop 5 s7)))) ≡ entries_of s5 s7
  pub passes : (s7 : List ℕ) → Continues octets l s7 → data_fault s5 s7 ≡ None
  pub before_is : before ≡ octets_before s5
  pub groups_are : (s7 : List ℕ) → Continues octets l s7 → groups ≡ number_groups s5 s7
  pub table : (s7 : List ℕ) → Continues octets l s7 → groups_in fed.table ≡ table_of s5 s7
  pub telling_is : (s7 : List ℕ) → Continues octets l s7 → Plainly ≡ first_telling s5 s7
  pub points : (s7 : List ℕ) → Continues octets l s7 → kept keeper (entries_so_far s5 s7 octets) fed.taker.keeper

-- The packed numbers of some groups, which are those of differences, stand after the first `before` octets: those that came went to what keeps
-- the points, and no further number ends in these octets. The groups, their table, what the codes are told with and
-- the points are those of each such section. No rule but that on the range of the numbers fails, and each such
-- section has the entries that the codes of these groups tell.
pub record ReadingAgrees {K : Type 0} (kept : K → List Point → K → Type 0) (s5 : List ℕ) (keeper : K) (start l : ℕ) (octets : List ℕ) (fed : Fed (Values K)) : Type 0 where
  pub layout : Layout
  pub groups : List Group
  pub telling : Telling
  pub first : Values K
  pub before : ℕ
  pub came : before ≤ length octets
  pub feedable : IsFeedable (2 ^ 49) fed
  pub so_far : WasFed (ValuesTook kept) layout groups first (drop before octets) fed
  pub fresh : Tells telling [] first.teller
  pub keeper_is : first.keeper ≡ keeper
  pub few : values groups < 2 ^ 32
  pub counted : values groups ≡ value_count s5
  pub enough : 8 * (5 + before) + packed_bits groups ≤ 8 * l
  pub entries : (s7 : List ℕ) → Continues octets l s7 → told telling (codes_from layout groups (bits (drop before (drop 5 s7)))) ≡ entries_of s5 s7
  pub within : (s7 : List ℕ) → Continues octets l s7 → first_place is_out_of_range (entries_of s5 s7) ≡ 0 → data_fault s5 s7 ≡ None
  pub beyond : (s7 : List ℕ) → Continues octets l s7 → 0 < first_place is_out_of_range (entries_of s5 s7) → located start (data_fault s5 s7) ≡ Some (refusal start ScaledRange (first_place is_out_of_range (entries_of s5 s7)))
  pub caught_up : IsCaughtUp fed
  pub before_is : before ≡ octets_before s5
  pub groups_are : (s7 : List ℕ) → Continues octets l s7 → groups ≡ number_groups s5 s7
  pub table : (s7 : List ℕ) → Continues octets l s7 → groups_in fed.table ≡ table_of s5 s7
  pub telling_is : (s7 : List ℕ) → Continues octets l s7 → telling ≡ first_telling s5 s7
  pub undone_with : (s7 : List ℕ) → Continues octets l s7 → undoing (telling_of fed.taker.teller.running) ≡ undoing (first_telling s5 s7)
  pub points : (s7 : List ℕ) → Continues octets l s7 → PointsAgree kept keeper (entries_so_far s5 s7 octets) fed.taker

-- No rule fails, whatever comes, and no points are kept.
pub record PassingAgrees {K : Type 0} (kept : K → List Point → K → Type 0) (s5 : List ℕ) (keeper : K) (l : ℕ) (octets : List ℕ) (after : K) : Type 0 where
  pub passes : (s7 : List ℕ) → Continues octets l s7 → data_fault s5 s7 ≡ None
  pub counted : (s7 : List ℕ) → Continues octets l s7 → length (entries_of s5 s7) ≡ value_count s5
  pub keeps : (points : List Point) → kept keeper points after

abbrev pub StateAgrees : {K : Type 0} → (K → List Point → K → Type 0) → List ℕ → K → ℕ → ℕ → List ℕ → ComplexReading K → Type 0
StateAgrees kept s5 keeper start l octets (Begins beginning) = BeginningAgrees s5 keeper l octets beginning × (length octets < (beginning.complex.order + 1) * beginning.complex.extra) × AreClear beginning.complex.order beginning.complex.extra l octets
StateAgrees kept s5 keeper start l octets (Lists between) = ListingAgrees s5 keeper l octets octets between × (length octets < (between.complex.order + 1) * between.complex.extra + list_octets between.complex.layout)
StateAgrees kept s5 keeper start l octets (ReadsPlainly fed) = ReadingPlainly kept s5 keeper l octets fed
StateAgrees kept s5 keeper start l octets (Reads fed) = ReadingAgrees kept s5 keeper start l octets fed
StateAgrees kept s5 keeper start l octets (Passes after) = PassingAgrees kept s5 keeper l octets after
StateAgrees kept s5 keeper start l octets (Refused fault after) = IsFaultOf s5 start l octets fault × (after ≡ keeper)

-- The state of some octets, this many of them.
pub record IsFedState {K : Type 0} (kept : K → List Point → K → Type 0) (start l count : ℕ) (state : ComplexReading K) : Type 0 where
  pub s5 : List ℕ
  pub keeper : K
  pub octets : List ℕ
  pub known : AreOctets octets
  pub low : 1 ≤ start
  pub high : start ≤ 268435456
  pub long : length octets ≡ count
  pub agrees : StateAgrees kept s5 keeper start l octets state

-- All octets came of a Section 7.
pub record IsWholeState {K : Type 0} (kept : K → List Point → K → Type 0) (start : ℕ) (state : ComplexReading K) : Type 0 where
  pub s5 : List ℕ
  pub keeper : K
  pub l : ℕ
  pub octets : List ℕ
  pub low : 1 ≤ start
  pub high : start ≤ 268435456
  pub whole : 5 + length octets ≡ l
  pub agrees : StateAgrees kept s5 keeper start l octets state

-- Some octets came before, this many, and not all of the extra descriptors.
pub record CanBegin {K : Type 0} (l count : ℕ) (beginning : Beginning K) : Type 0 where
  pub s5 : List ℕ
  pub keeper : K
  pub octets : List ℕ
  pub known : AreOctets octets
  pub long : length octets ≡ count
  pub agrees : BeginningAgrees s5 keeper l octets beginning

-- Some octets came before, this many, and the extra descriptors are whole with the next ones.
pub record CanList {K : Type 0} (l count : ℕ) (piece : List ℕ) (between : Between K) : Type 0 where
  pub s5 : List ℕ
  pub keeper : K
  pub octets : List ℕ
  pub long : length octets ≡ count
  pub agrees : ListingAgrees s5 keeper l octets (octets ++ piece) between

-- All octets before the packed numbers came.
pub record IsWholeListing {K : Type 0} (l : ℕ) (between : Between K) : Type 0 where
  pub s5 : List ℕ
  pub keeper : K
  pub octets : List ℕ
  pub agrees : ListingAgrees s5 keeper l octets octets between
  pub whole : (between.complex.order + 1) * between.complex.extra + list_octets between.complex.layout ≤ length octets

-- the bits that came and are not decoded
abbrev pub pending_in : {K : Type 0} → ComplexReading K → List Bool
pending_in (Begins beginning) = pending_of beginning.descriptors
pending_in (Lists between) = list_pending between.lists
pending_in (ReadsPlainly fed) = pending_of fed
pending_in (Reads fed) = pending_of fed
pending_in _ = []

-- what keeps the points
abbrev pub keeper_in : {K : Type 0} → ComplexReading K → K
keeper_in (Begins beginning) = beginning.keeper
keeper_in (Lists between) = between.keeper
keeper_in (ReadsPlainly fed) = fed.taker.keeper
keeper_in (Reads fed) = fed.taker.keeper
keeper_in (Passes keeper) = keeper
keeper_in (Refused fault keeper) = keeper

-- The points of the numbers that came stand in the column, as long as none is out of range. They are those of each
-- section that continues these octets.
abbrev pub ColumnAgrees : List ℕ → List Bool → ℕ → List ℕ → ComplexReading Points → Type 0
ColumnAgrees s5 mask l octets (ReadsPlainly fed) = (s7 : List ℕ) → Continues octets l s7 → ArePoints mask (entries_so_far s5 s7 octets) fed.taker.keeper
ColumnAgrees s5 mask l octets (Reads fed) =
    (s7 : List ℕ) → Continues octets l s7 → fed.taker.teller.beyond ≡ 0 → ArePoints mask (entries_so_far s5 s7 octets) fed.taker.keeper
ColumnAgrees s5 mask l octets state = ArePoints mask [] (keeper_in state)
