-- The table of groups.
use Rattle.std.specs.Prelude.{◌≡◌, ℕ, ◌≤◌, List, slice_index, vec_len}
use Rattle.std.specs.List.{All}
use Rattle.grib_packing.specs.declared.group.Group.{Group}
use Rattle.grib_packing.specs.Groups.{groups_from}
use Rattle.grib_group_reading.specs.declared.table.Table.{Table}

-- the groups of three lists
abbrev pub groups_in : Table → List Group
groups_in table = groups_from table.references.items table.widths.items table.lengths.items

-- the group at an index, from 0
abbrev pub group_at : Table → ℕ → Group
group_at table i = record {
  reference = slice_index table.references.items i;
  width = slice_index table.widths.items i;
  count = slice_index table.lengths.items i;
}

-- The lists have as many entries.
pub record IsWhole (table : Table) : Type 0 where
  pub references : vec_len table.references ≡ vec_len table.lengths
  pub widths : vec_len table.widths ≡ vec_len table.lengths

-- No width is over 32.
abbrev pub IsNarrow : Table → Type 0
IsNarrow table = All (λ width. width ≤ 32) table.widths.items
