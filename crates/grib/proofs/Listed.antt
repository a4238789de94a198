-- The keys that are left, one after the other.
use Rattle.std.proofs.Common.{◌≡◌, Some, None, List, [], ◌∷◌, ap, ◌∙◌}
use Rattle.std.specs.declared.option.Option.{Option}
use Rattle.grib.specs.Keys.{before, with_values}

-- where none is left
pub values_none : {K V : Type 0} (value_of : K → Option V) (keys : List K) → keys ≡ [] → with_values value_of keys ≡ []
values_none value_of keys none = ap (with_values value_of) none

-- a key that the field does not have
pub values_passed : {K V : Type 0} (value_of : K → Option V) (keys : List K) (key : K) (later : List K) → keys ≡ key ∷ later → value_of key ≡ None
    → with_values value_of keys ≡ with_values value_of later
values_passed value_of keys key later is none = ap (with_values value_of) is ∙ ap (λ v. before key v (with_values value_of later)) none

-- and one that it has
pub values_first : {K V : Type 0} (value_of : K → Option V) (keys : List K) (key : K) (value : V) (later : List K) → keys ≡ key ∷ later → value_of key ≡ Some value
    → with_values value_of keys ≡ (key, value) ∷ with_values value_of later
values_first value_of keys key value later is some = ap (with_values value_of) is ∙ ap (λ v. before key v (with_values value_of later)) some
