-- What is asked of the value of a key.
use Rattle.std.specs.Prelude.{◌≡◌, Bool, true, false, not, ◌&&◌, int_le, ◌≤ℤ◌, List, All, Any}
use Rattle.std.specs.List.{list_any}
use Rattle.std.specs.Ordering.{int_eq}
use Rattle.grib_keys.specs.declared.condition.Value.{Value}
use Rattle.grib_keys.specs.declared.condition.Value.TheVariants.{Number, Missing}
use Rattle.grib_keys.specs.declared.wanted.Choice.{Choice}
use Rattle.grib_keys.specs.declared.wanted.Choice.TheVariants.{One, Between, From, UpTo}
use Rattle.grib_keys.specs.declared.wanted.Test.{Test}
use Rattle.grib_keys.specs.declared.wanted.Test.TheVariants.{Among, Outside}

-- a value is this one, or a number of the range with its ends; missing is no number
abbrev pub IsChosen : Choice → Value → Type 0
IsChosen (One this) value = value ≡ this
IsChosen (Between least most) (Number x) = (least ≤ℤ x) × (x ≤ℤ most)
IsChosen (From least) (Number x) = least ≤ℤ x
IsChosen (UpTo most) (Number x) = x ≤ℤ most
IsChosen choice Missing = ⊥

-- what is asked of a value: that it is one of these, or none of them
abbrev pub Holds : Test → Value → Type 0
Holds (Among choices) value = Any (λ choice. IsChosen choice value) choices
Holds (Outside choices) value = All (λ choice. ¬ IsChosen choice value) choices

-- ---- the same as tests

-- whether two values are the same
abbrev pub same_value : Value → Value → Bool
same_value (Number x) (Number y) = int_eq x y
same_value (Number x) Missing = false
same_value Missing (Number y) = false
same_value Missing Missing = true

abbrev pub is_chosen : Choice → Value → Bool
is_chosen (One this) value = same_value value this
is_chosen (Between least most) (Number x) = int_le least x && int_le x most
is_chosen (From least) (Number x) = int_le least x
is_chosen (UpTo most) (Number x) = int_le x most
is_chosen choice Missing = false

abbrev pub is_among : List Choice → Value → Bool
is_among choices value = list_any (λ choice. is_chosen choice value) choices

abbrev pub holds : Test → Value → Bool
holds (Among choices) value = is_among choices value
holds (Outside choices) value = not (is_among choices value)
