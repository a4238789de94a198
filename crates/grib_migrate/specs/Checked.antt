-- What is known of a Section 1 of which nothing is lost, for private functions.
use Rattle.std.specs.Prelude.{◌≡◌, ℕ, ◌≤◌, true, cond, Option, Some, None, List}
use Rattle.grib_params.specs.Surfaces.{SurfaceEntries}
use Rattle.grib_params.specs.Table.{Entries}
use Rattle.grib1_sections.specs.Keys.{key_in}
use Rattle.grib_keys.specs.declared.key1.Key1.TheVariants.{P1, P2, TimeRange}
use Rattle.grib_migrate.specs.declared.checking.Product.{Product}
use Rattle.grib_migrate.specs.declared.date.Moment.{Moment}
use Rattle.grib_migrate.specs.declared.labels.Local.{Local}
use Rattle.grib_migrate.specs.Chosen.{named_in, surfaces_by, target_by}
use Rattle.grib_migrate.specs.Labels.{member_by}
use Rattle.grib_migrate.specs.Times.{unit_of, is_interval}
use Rattle.grib_migrate.specs.Dates.{end_of}

-- the end of an interval, none at a point in time
abbrev pub end_in : List ℕ → ℕ → Option Moment
end_in s1 unit_seconds = cond (is_interval (key_in s1 TimeRange)) (Some (end_of s1 unit_seconds)) None

-- what Section 1 gives
pub record IsProduct (table : Entries) (surfaces : SurfaceEntries) (local : Local) (s1 : List ℕ) (product : Product) : Type 0 where
  pub target : target_by table (named_in surfaces s1) s1 ≡ Some product.target
  pub surfaces_are : surfaces_by (named_in surfaces s1) s1 ≡ Some product.surfaces
  pub member : product.member ≡ member_by local s1
  pub unit : unit_of s1 ≡ Some product.unit
  pub end : product.end ≡ end_in s1 product.unit.seconds
  pub ordered : is_interval (key_in s1 TimeRange) ≡ true → key_in s1 P1 ≤ key_in s1 P2
