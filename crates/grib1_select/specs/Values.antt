-- Whether a message of edition 1 has what is asked of its numbers of Section 1. No such number is missing.
use Rattle.std.specs.Prelude.{ℕ, Bool, List}
use Rattle.std.specs.List.{list_all}
use Rattle.grib_keys.specs.declared.condition.Value.TheVariants.{Number}
use Rattle.grib_keys.specs.Wanted.{Holds, holds}
use Rattle.grib1_sections.specs.Keys.{number1_of}
use Rattle.grib1_select.specs.declared.condition.Wanted1.{Wanted1}

-- what is asked holds of the number
abbrev pub Fulfils1 : List ℕ → Wanted1 → Type 0
Fulfils1 message wanted = Holds wanted.test (Number (number1_of message wanted.key))

-- the same as a test
abbrev pub fulfils1 : List ℕ → Wanted1 → Bool
fulfils1 message wanted = holds wanted.test (Number (number1_of message wanted.key))

-- whether the message fulfils all conditions
abbrev pub fulfils_all1 : List ℕ → List Wanted1 → Bool
fulfils_all1 message conditions = list_all (fulfils1 message) conditions
