-- The parameter and the fixed surfaces of a message by two tables: a table of surfaces, for
-- parameters whose name says their level, and where that has nothing for the message a parameter
-- table and the table of levels.
use Rattle.std.specs.Prelude.{ℕ, Option, List, option_map}
use Rattle.std.specs.Option.{option_or}
use Rattle.grib_params.specs.declared.row.Target.{Target}
use Rattle.grib_params.specs.declared.surface_row.SurfaceTarget.{SurfaceTarget}
use Rattle.grib_params.specs.Table.{Entries}
use Rattle.grib_params.specs.Surfaces.{SurfaceEntries, surface_in}
use Rattle.grib1_sections.specs.Keys.{key_in}
use Rattle.grib_keys.specs.declared.key1.Key1.TheVariants.{Version, Centre, Parameter, LevelType, Level}
use Rattle.grib_migrate.specs.declared.level.Surfaces.{Surfaces}
use Rattle.grib_migrate.specs.Source.{target_in}
use Rattle.grib_migrate.specs.Levels.{surface, one_surface, surfaces_of}

-- what the table of surfaces has for a Section 1
abbrev pub named_in : SurfaceEntries → List ℕ → Option SurfaceTarget
named_in surfaces s1 =
    surface_in surfaces (key_in s1 Centre) (key_in s1 Version) (key_in s1 Parameter) (key_in s1 LevelType) (key_in s1 Level)

-- its fixed surface; there is no second one
abbrev pub named_surfaces : SurfaceTarget → Surfaces
named_surfaces named = one_surface (surface named.kind named.scale_factor named.scaled_value)

-- the parameter, none where neither table has one
abbrev pub target_by : Entries → Option SurfaceTarget → List ℕ → Option Target
target_by table named s1 = option_or (option_map (λ n. n.target) named) (target_in table s1)

-- the fixed surfaces, none where the level is lost
abbrev pub surfaces_by : Option SurfaceTarget → List ℕ → Option Surfaces
surfaces_by named s1 = option_or (option_map named_surfaces named) (surfaces_of s1)
