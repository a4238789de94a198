-- Levels (WMO-No. 306, Volume I.2, FM 92 GRIB): the first and the second fixed surface of edition 2 as a type of
-- level of edition 1 and its number in octets 11 and 12. The table is that by which levels are migrated, read
-- from the surfaces to the level.
use Rattle.std.specs.Prelude.{ℕ, ◌+◌, ◌*◌, ◌/◌, ◌%◌, ◌^◌, Bool, not, cond, ◌&&◌, ◌||◌, Option, Some, None, option_map, List, [], ◌∷◌, nat_lt, ◌==◌}
use Rattle.std.specs.Option.{option_and_then, option_or}
use Rattle.grib_bits.specs.Octets.{octets}
use Rattle.grib_migrate.specs.Levels.{surface, surfaces_at}
use Rattle.grib_bits.specs.Encoding.{missing_1, missing_4}
use Rattle.grib_migrate.specs.declared.level.Surface.{Surface}
use Rattle.grib_migrate.specs.declared.level.Surfaces.{Surfaces}
use Rattle.grib_demote.specs.declared.level.Level.{Level}

-- the fixed surface in the six octets from `first` on of a Section 4
abbrev pub surface_at : List ℕ → ℕ → Surface
surface_at s4 first = surface (octets s4 first first) (octets s4 (first + 1) (first + 1)) (octets s4 (first + 2) (first + 5))

-- missing or 0, where the table has no value
abbrev pub is_bare : Surface → Bool
is_bare found =
    ((found.scale_factor == missing_1) || (found.scale_factor == 0))
    && ((found.scaled_value == missing_4) || (found.scaled_value == 0))

-- a scale factor from -9 to 9, and a value; the first bit of a scale factor says that it is negative
abbrev pub is_told : Surface → Bool
is_told found = not (found.scaled_value == missing_4) && nat_lt (found.scale_factor % 128) 10

-- 10 to this power, or 1
abbrev pub ten_to : Bool → ℕ → ℕ
ten_to applies places = cond applies (10 ^ places) 1

-- How often the value of a surface, scaled_value / 10 ^ scale_factor, has the value of another, that of the
-- number 1; none where that is not a whole number.
abbrev pub number_in : Surface → Surface → Option ℕ
number_in one found =
    let is_negative = nat_lt 127 found.scale_factor in
    let places = found.scale_factor % 128 in
    let whole = found.scaled_value * ten_to is_negative places * 10 ^ one.scale_factor in
    let part = one.scaled_value * ten_to (not is_negative) places in
    cond (is_told found && (whole % part == 0)) (Some (whole / part)) None

-- a number below a limit
abbrev pub below : ℕ → ℕ → Option ℕ
below limit n = cond (nat_lt n limit) (Some n) None

abbrev pub number_below : ℕ → Surface → Surface → Option ℕ
number_below limit one found = option_and_then (below limit) (number_in one found)

-- a top and a bottom in one octet each
abbrev pub layer : Option ℕ → Option ℕ → Option ℕ
layer (Some top) (Some bottom) = Some (256 * top + bottom)
layer _ _ = None

-- the number of a level with these surfaces, where the table has those of the number 1, or of the top 1 and the
-- bottom 1
abbrev pub number_by : Surface → Surface → Surfaces → Option ℕ
number_by first second one =
    cond (not (one.first.kind == first.kind) || not (one.second.kind == second.kind)) None
    (cond (one.first.scale_factor == missing_1) (cond (is_bare first) (Some 0) None)
    (cond (one.second.kind == missing_1) (number_below 65536 one.first first)
    (layer (number_below 256 one.first first) (number_below 256 one.second second))))

-- the types of level of the table
abbrev pub level_types : List ℕ
level_types = 1 ∷ 2 ∷ 3 ∷ 4 ∷ 5 ∷ 6 ∷ 7 ∷ 8 ∷ 9 ∷ 100 ∷ 101 ∷ 102 ∷ 103 ∷ 104 ∷ 105 ∷ 106 ∷ 107 ∷ 108 ∷ 109 ∷ 110 ∷ 111 ∷ 112 ∷ 113 ∷ []

abbrev pub level : ℕ → ℕ → Level
level level_type number = record { level_type = level_type; number = number }

-- the level of this type with these surfaces
abbrev pub level_with : Surface → Surface → ℕ → Option Level
level_with first second level_type =
    option_map (level level_type) (option_and_then (number_by first second) (surfaces_at level_type 1 1 1))

-- the first level of some types with these surfaces
abbrev pub level_among : Surface → Surface → List ℕ → Option Level
level_among first second [] = None
level_among first second (t ∷ types) = option_or (level_with first second t) (level_among first second types)

-- the level of a Section 4, none where it is lost
abbrev pub level_of : List ℕ → Option Level
level_of s4 = level_among (surface_at s4 23) (surface_at s4 29) level_types
