-- `filter` by names: the messages and fields that have the values of keys that are asked for, and one of some names.
use Rattle.std.specs.Prelude.{ℕ, Bool, ◌&&◌, List}
use Rattle.grib_keys.specs.declared.wanted.Wanted.{Wanted}
use Rattle.grib_names.specs.Rows.{Name}
use Rattle.grib_names.specs.Table.{NameEntries}
use Rattle.grib_select.specs.Values.{fulfils_all}
use Rattle.grib_text.specs.Named.{has_field_name_of}
use Rattle.grib_command.specs.Command.{Command, IsLawfulCommand}
use Rattle.grib_edit.specs.Choosing.{chosen_of, choosing, choosing_lawful}

-- whether a field has every key with its value, and its parameter one of these names in the table
abbrev pub fulfils_named : List Wanted → List Name → NameEntries → List ℕ → ℕ → Bool
fulfils_named conditions wanted names message i = fulfils_all message i conditions && has_field_name_of names message i wanted

-- the message itself, where each of its fields does, else those that do, one after another
abbrev pub filtered_named : List Wanted → List Name → NameEntries → List ℕ → List ℕ
filtered_named conditions wanted names message = chosen_of (fulfils_named conditions wanted names message) message

abbrev pub filter_named_command : List Wanted → List Name → NameEntries → Command
filter_named_command conditions wanted names = choosing (fulfils_named conditions wanted names)

-- ---- it is lawful

pub filter_named_lawful : (conditions : List Wanted) (wanted : List Name) (names : NameEntries) → IsLawfulCommand (filter_named_command conditions wanted names)
filter_named_lawful conditions wanted names = choosing_lawful (fulfils_named conditions wanted names)
