-- Why the points of a grid are not put in another order, or no box is cut out: the first cause that holds.
use Rattle.std.specs.Prelude.{◌≡◌, ℕ, ◌%◌, ◌<◌, IsTrue, Bool, not, cond, ◌&&◌, ◌||◌, Option, Some, None, is_none, List, [], ◌∷◌, nat_le, ◌==◌}
use Rattle.grib_bits.specs.Octets.{octets}
use Rattle.grib_rescan.specs.declared.points.Area.{Area}
use Rattle.grib_rescan.specs.declared.bounds.Bounds.{Bounds}
use Rattle.grib_rescan.specs.declared.cause.GridCause.{GridCause}
use Rattle.grib_rescan.specs.declared.cause.GridCause.TheVariants.{GridKind, ScanMode, OutsideBox, Increments}
use Rattle.grib_rescan.specs.Sections.{IsLatLon, has_steps}
use Rattle.grib_rescan.specs.Points.{IsBox}
use Rattle.grib_rescan.specs.Bounds.{area_in, area_within}

pub record Row : Type 0 where
  pub holds : Bool
  pub cause : GridCause

abbrev pub row : Bool → GridCause → Row
row holds cause = record { holds = holds; cause = cause }

abbrev pub first_cause : List Row → Option GridCause
first_cause [] = None
first_cause (r ∷ rs) = cond r.holds (Some r.cause) (first_cause rs)

-- defined by octets 13-14 (code table 3.0), by template 3.0, with no list of rows
abbrev pub is_lat_lon : List ℕ → Bool
is_lat_lon s = octets s 6 6 == 0 && (octets s 13 14 == 0) && (octets s 11 11 == 0)

-- bits 5 to 8 of the scanning octet are reserved, or say that rows are offset
abbrev pub rescan_cause_of : List ℕ → Option GridCause
rescan_cause_of s =
    first_cause
    (row (not (is_lat_lon s)) GridKind
    ∷ row (not (octets s 72 72 % 16 == 0)) ScanMode
    ∷ [])

abbrev pub crop_cause_of : Area → List ℕ → Option GridCause
crop_cause_of area s =
    first_cause
    (row (not (is_lat_lon s)) GridKind
    ∷ row (not (octets s 72 72 == 0)) ScanMode
    ∷ row (nat_le (octets s 31 34) area.i1 || nat_le (octets s 35 38) area.j1) OutsideBox
    ∷ row (not (has_steps s)) Increments
    ∷ [])

-- a box in degrees is looked for where the increments are known
abbrev pub within_cause_of : Bounds → List ℕ → Option GridCause
within_cause_of bounds s =
    first_cause
    (row (not (is_lat_lon s)) GridKind
    ∷ row (not (octets s 72 72 == 0)) ScanMode
    ∷ row (not (has_steps s)) Increments
    ∷ row (is_none (area_in bounds s)) OutsideBox
    ∷ [])

-- a grid out of which a box can be cut whose first column and row are at most its last
pub record CanBeCut (area : Area) (s : List ℕ) : Type 0 where
  pub lat_lon : IsLatLon s
  pub order : octets s 72 72 ≡ 0
  pub last_column : area.i1 < octets s 31 34
  pub last_row : area.j1 < octets s 35 38
  pub steps : IsTrue (has_steps s)

-- a grid out of which the box that lies within bounds can be cut
pub record HasWithin (bounds : Bounds) (s : List ℕ) : Type 0 where
  pub lat_lon : IsLatLon s
  pub order : octets s 72 72 ≡ 0
  pub steps : IsTrue (has_steps s)
  pub found : area_in bounds s ≡ Some (area_within bounds s)
  pub box : IsBox (area_within bounds s) (octets s 31 34) (octets s 35 38)
