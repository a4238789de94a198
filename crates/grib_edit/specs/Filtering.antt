-- `filter`: the messages and fields that have the values of keys that are asked for.
use Rattle.std.specs.Prelude.{ℕ, Bool, List}
use Rattle.grib_keys.specs.declared.wanted.Wanted.{Wanted}
use Rattle.grib_select.specs.Values.{fulfils_all}
use Rattle.grib_command.specs.Command.{Command, IsLawfulCommand}
use Rattle.grib_edit.specs.Choosing.{chosen_of, choosing, choosing_lawful}

-- whether a field has every key with its value
abbrev pub fulfils : List Wanted → List ℕ → ℕ → Bool
fulfils conditions message i = fulfils_all message i conditions

-- the message itself, where each of its fields fulfils the conditions, else those that do, one after another
abbrev pub filtered : List Wanted → List ℕ → List ℕ
filtered conditions message = chosen_of (fulfils conditions message) message

abbrev pub filter_command : List Wanted → Command
filter_command conditions = choosing (fulfils conditions)

-- ---- it is lawful

pub filter_lawful : (conditions : List Wanted) → IsLawfulCommand (filter_command conditions)
filter_lawful conditions = choosing_lawful (fulfils conditions)
