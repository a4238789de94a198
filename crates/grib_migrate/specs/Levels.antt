-- Levels (WMO-No. 306, Volume I.2, FM 92 GRIB): a type of level of edition 1 (code table 3) and its number in
-- octets 11 and 12, or its top and bottom in one octet each, as the first and the second fixed surface of
-- edition 2 (code table 4.5), each with a scale factor and a scaled value. The table is our own choice.
use Rattle.std.specs.Prelude.{ℕ, ◌*◌, Bool, not, cond, ◌&&◌, ◌||◌, Option, Some, None, option_map, find, List, [], ◌∷◌, nat_lt, ◌==◌}
use Rattle.grib_bits.specs.Octets.{octets}
use Rattle.grib1_sections.specs.Keys.{key_in}
use Rattle.grib_keys.specs.declared.key1.Key1.TheVariants.{LevelType, Level}
use Rattle.grib_migrate.specs.declared.level.Surface.{Surface}
use Rattle.grib_migrate.specs.declared.level.Surfaces.{Surfaces}
use Rattle.grib_bits.specs.Encoding.{missing_1, missing_4}

-- of this kind, at scaled_value / 10 ^ scale_factor
abbrev pub surface : ℕ → ℕ → ℕ → Surface
surface kind scale_factor scaled_value = record { kind = kind; scale_factor = scale_factor; scaled_value = scaled_value }

-- of a kind that has no value
abbrev pub bare : ℕ → Surface
bare kind = surface kind missing_1 missing_4

abbrev pub no_surface : Surface
no_surface = bare missing_1

abbrev pub surfaces : Surface → Surface → Surfaces
surfaces first second = record { first = first; second = second }

abbrev pub one_surface : Surface → Surfaces
one_surface first = surfaces first no_surface

-- a type of level of edition 1, and its fixed surfaces
pub record LevelRow : Type 0 where
  pub level_type : ℕ
  pub surfaces_are : Surfaces

abbrev pub row : ℕ → Surfaces → LevelRow
row level_type surfaces_are = record { level_type = level_type; surfaces_are = surfaces_are }

-- the types of level that have a number or a top and a bottom
abbrev pub level_rows : ℕ → ℕ → ℕ → List LevelRow
level_rows level top bottom =
    row 100 (one_surface (surface 100 0 (100 * level)))
    ∷ row 101 (surfaces (surface 100 0 (1000 * top)) (surface 100 0 (1000 * bottom)))
    ∷ row 102 (one_surface (bare 101))
    ∷ row 103 (one_surface (surface 102 0 level))
    ∷ row 104 (surfaces (surface 102 0 (100 * top)) (surface 102 0 (100 * bottom)))
    ∷ row 105 (one_surface (surface 103 0 level))
    ∷ row 106 (surfaces (surface 103 0 (100 * top)) (surface 103 0 (100 * bottom)))
    ∷ row 107 (one_surface (surface 104 4 level))
    ∷ row 108 (surfaces (surface 104 2 top) (surface 104 2 bottom))
    ∷ row 109 (one_surface (surface 105 0 level))
    ∷ row 110 (surfaces (surface 105 0 top) (surface 105 0 bottom))
    ∷ row 111 (one_surface (surface 106 2 level))
    ∷ row 112 (surfaces (surface 106 2 top) (surface 106 2 bottom))
    ∷ row 113 (one_surface (surface 107 0 level))
    ∷ []

-- types 1 to 9 are the same in both editions, and have no number
abbrev pub is_shared : ℕ → Bool
is_shared level_type = nat_lt 0 level_type && nat_lt level_type 10

-- the fixed surfaces of a type of level, none where the table lacks it
abbrev pub surfaces_at : ℕ → ℕ → ℕ → ℕ → Option Surfaces
surfaces_at level_type level top bottom =
    cond (is_shared level_type) (Some (one_surface (bare level_type)))
    (option_map (λ r. r.surfaces_are) (find (λ r. r.level_type == level_type) (level_rows level top bottom)))

-- types 1 to 9 and 102 have no number, which is then to be 0
abbrev pub lacks_number : ℕ → Bool
lacks_number level_type = is_shared level_type || (level_type == 102)

-- those of a Section 1, none where its level is lost
abbrev pub surfaces_of : List ℕ → Option Surfaces
surfaces_of s1 =
    let level_type = key_in s1 LevelType in
    cond (lacks_number level_type && not (key_in s1 Level == 0)) None
    (surfaces_at level_type (key_in s1 Level) (octets s1 11 11) (octets s1 12 12))
