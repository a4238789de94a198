-- How codes go from groups and bits to what takes them.
use Rattle.std.specs.Prelude.{◌≡◌, ℕ, ◌+◌, ◌*◌, ◌^◌, ◌<◌, ◌≤◌, Bool, List, ◌∷◌, length, drop, vec_len}
use Rattle.grib_base.specs.declared.code.Code.{Code}
use Rattle.grib_packing.specs.declared.group.Group.{Group}
use Rattle.grib_packing.specs.declared.layout.Layout.{Layout}
use Rattle.grib_group_reading.specs.declared.numbers.Numbers.{Numbers}
use Rattle.grib_group_reading.specs.declared.table.Table.{Table}
use Rattle.grib_group_reading.specs.Table.{IsWhole, IsNarrow}
use Rattle.grib_group_reading.specs.Taking.{Taken}

-- the groups that are left: what is left of the current one, and those from the next on
abbrev pub left_of : Numbers → List Group → List Group
left_of numbers groups = numbers.current ∷ drop numbers.next groups

-- The codes of a group are below `limit`.
pub record IsReadable (limit : ℕ) (group : Group) : Type 0 where
  pub width : group.width ≤ 48
  pub below : group.reference + 2 ^ group.width ≤ limit

-- The pending bits are fewer than those of the next number.
pub record IsShort (numbers : Numbers) : Type 0 where
  pub some : 0 < numbers.current.count
  pub short : length numbers.pending < numbers.current.width

-- Numbers to which octets can be added.
pub record IsReady (limit : ℕ) (numbers : Numbers) : Type 0 where
  pub readable : IsReadable limit numbers.current
  pub pending : 0 < length numbers.pending → IsShort numbers

-- The numbers of the groups of a table can be read from these octets after their first `at` bits, for what takes
-- codes below `most`.
pub record CanRead (most : ℕ) (layout : Layout) (table : Table) (octets : List ℕ) (at : ℕ) : Type 0 where
  pub bits : layout.reference_bits ≤ 48
  pub whole : IsWhole table
  pub narrow : IsNarrow table
  pub limit : 0 < vec_len table.lengths → 2 ^ 33 ≤ most
  pub short : length octets < 2 ^ 32
  pub within : at ≤ 8 * length octets

-- Numbers were read from these octets up to their first `at` bits: no number of the current group fits behind them.
pub record IsReadTo (limit : ℕ) (octets : List ℕ) (before after : Numbers) (at : ℕ) : Type 0 where
  pub readable : IsReadable limit after.current
  pub pending : after.pending ≡ before.pending
  pub within : at ≤ 8 * length octets
  pub no_more : 0 < after.current.count → 8 * length octets < at + after.current.width

-- Codes went from these groups and bits to what takes them.
pub record Went {S : Type 0} (took : S → List Code → S → Type 0) (layout : Layout) (groups : List Group) (bits : List Bool) (before : S) (left : List Group) (rest : List Bool) (after : S) : Type 0 where
  pub codes : List Code
  pub taken : Taken layout groups bits codes left rest
  pub passed : took before codes after
