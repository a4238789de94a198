-- How a key with a value is written on a command line: `name=value`.
use Rattle.std.specs.Prelude.{ℕ, List, ◌++◌, codes}
use Rattle.std.specs.Fmt.{signed_decimal}
use Rattle.grib_keys.specs.declared.condition.Value.{Value}
use Rattle.grib_keys.specs.declared.condition.Value.TheVariants.{Number, Missing}
use Rattle.grib_keys.specs.declared.condition.Change.{Change}
use Rattle.grib_keys.specs.Keys.{name_of}

-- a number, with `-` where it is negative, or `missing`
abbrev pub value_text : Value → List ℕ
value_text (Number x) = signed_decimal x
value_text Missing = codes "missing"

abbrev pub word_of : Change → List ℕ
word_of change = name_of change.key ++ codes "=" ++ value_text change.value
