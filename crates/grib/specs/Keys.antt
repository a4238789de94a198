-- The keys of a field, with their values.
use Rattle.std.specs.Prelude.{ℤ, Option, None, Some, List, [], ◌∷◌}
use Rattle.grib_keys.specs.declared.key.Key.{Key}
use Rattle.grib_keys.specs.declared.condition.Value.{Value}
use Rattle.grib_keys.specs.declared.key1.Key1.{Key1}
use Rattle.grib.specs.declared.keys.Keys.{Keys}
use Rattle.grib.specs.declared.keys.Keys1.{Keys1}
use Rattle.grib.specs.Field.{shown, key_in, key1_in}

-- a key with its value, where the field has it, before others
abbrev pub before : {K V : Type 0} → K → Option V → List (K × V) → List (K × V)
before key None later = later
before key (Some value) later = (key, value) ∷ later

-- those of these keys that the field has, each with its value
abbrev pub with_values : {K V : Type 0} → (K → Option V) → List K → List (K × V)
with_values value_of [] = []
with_values value_of (key ∷ later) = before key (value_of key) (with_values value_of later)

-- those that are still to come
abbrev pub keys_left : Keys → List (Key × Value)
keys_left keys = with_values (key_in (shown keys.field)) keys.left.now

abbrev pub keys1_left : Keys1 → List (Key1 × ℤ)
keys1_left keys = with_values (key1_in (shown keys.field)) keys.left.now
