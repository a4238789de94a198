-- The records of a table of surfaces: parameters of edition 1 whose name says their level, as ECMWF's 2 metre
-- temperature, each with its parameter of edition 2 and the fixed surface that edition 2 has for that level.
use Rattle.std.specs.Prelude.{ℕ, if◌then◌else◌, Option, Some, None, List, [], ◌∷◌, codes}
use Rattle.std.specs.List.{filter_map}
use Rattle.std.specs.Str.{bytes_eq}
use Rattle.std.specs.Option.{option_map}
use Rattle.grib_params.specs.declared.row.Target.{Target}
use Rattle.grib_params.specs.declared.surface_row.SurfaceTarget.{SurfaceTarget}
use Rattle.grib_params.specs.Fields.{Field, Fields, Key, centre_in, long_number_in, number_in, records_of, short_number_in}

-- the level of a record: `*` stands for every level, and is seen as none
abbrev pub level_in : Field → Option (Option ℕ)
level_in field = if bytes_eq field (codes "*") then Some None else option_map Some (short_number_in field)

-- a scale factor and a scaled value, as their octets have them: `-` stands for a missing one, which is all ones
abbrev pub scale_in : Field → Option ℕ
scale_in field = if bytes_eq field (codes "-") then Some 255 else number_in field

abbrev pub value_in : Field → Option ℕ
value_in field = if bytes_eq field (codes "-") then Some 4294967295 else long_number_in field

-- what a target is kept under: centre, version and parameter; the type of level; the level, none for every one
abbrev pub SurfaceKey : Type 0
SurfaceKey = Key × ℕ × Option ℕ

-- a key, a parameter of edition 2 and its fixed surface, from their parts, where each is there
abbrev pub surface_key_from : Option (Option ℕ) → Option ℕ → Option ℕ → Option ℕ → Option (Option ℕ) → Option SurfaceKey
surface_key_from (Some centre) (Some version) (Some parameter) (Some level_type) (Some level) =
    Some ((centre, version, parameter), level_type, level)
surface_key_from _ _ _ _ _ = None

abbrev pub target_from : Option ℕ → Option ℕ → Option ℕ → Option ℕ → Option ℕ → Option Target
target_from (Some discipline) (Some category) (Some number) (Some master) (Some local) =
    Some (record { discipline = discipline; category = category; number = number; master = master; local = local })
target_from _ _ _ _ _ = None

abbrev pub surface_target_from : Option Target → Option ℕ → Option ℕ → Option ℕ → Option SurfaceTarget
surface_target_from (Some target) (Some kind) (Some scale_factor) (Some scaled_value) =
    Some (record { target = target; kind = kind; scale_factor = scale_factor; scaled_value = scaled_value })
surface_target_from _ _ _ _ = None

abbrev pub surface_row_from : Option SurfaceKey → Option SurfaceTarget → Option (SurfaceKey × SurfaceTarget)
surface_row_from (Some key) (Some target) = Some (key, target)
surface_row_from _ _ = None

-- what a record says, none where it does not have thirteen fields: a centre, a version, a parameter, a type of level
-- and a level of edition 1; a discipline, a category, a number and the versions of the master and the local tables; a
-- type of fixed surface, its scale factor and its scaled value
abbrev pub surface_row_in : Fields → Option (SurfaceKey × SurfaceTarget)
surface_row_in (centre ∷ version ∷ parameter ∷ level_type ∷ level ∷ discipline ∷ category ∷ number ∷ master ∷ local ∷ kind ∷ scale ∷ value ∷ []) =
    surface_row_from
    (surface_key_from (centre_in centre) (number_in version) (number_in parameter) (number_in level_type) (level_in level))
    (surface_target_from
    (target_from (number_in discipline) (number_in category) (number_in number) (number_in master) (number_in local))
    (number_in kind) (scale_in scale) (value_in value))
surface_row_in _ = None

-- the rows of a text, in their order
abbrev pub surface_rows_of : List ℕ → List (SurfaceKey × SurfaceTarget)
surface_rows_of text = filter_map surface_row_in (records_of text)
