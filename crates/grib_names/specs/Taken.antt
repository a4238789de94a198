-- The names that a table has, for its own use.
use Rattle.std.specs.Prelude.{◌≡◌}
use Rattle.std.specs.BTreeSet.{BTreeSet, contains_text}
use Rattle.std.specs.declared.string.String.{String}
use Rattle.grib_names.specs.Rows.{Name}
use Rattle.grib_names.specs.Table.{NameEntries, has_name}

-- a set has the names of a table, and no others
abbrev pub IsTaken : {Y : Type 0} → NameEntries → BTreeSet (String Y) → Type 0
IsTaken table taken = (name : Name) → contains_text taken name ≡ has_name table name
