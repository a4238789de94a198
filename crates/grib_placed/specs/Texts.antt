-- What is made once of a field for the lines of its points.
use Rattle.std.specs.Prelude.{◌≡◌, ℕ, false, None, List}
use Rattle.grib_packing.specs.declared.column.Point.{Point}
use Rattle.grib_decimal.specs.Range.{first_too_large, is_point_too_large}
use Rattle.grib_text.specs.Lines.{point_text}
use Rattle.grib_text.specs.Values.{value_text}
use Rattle.grib_places.specs.declared.coordinate.Coordinate.TheVariants.{Latitude, Longitude}
use Rattle.grib_places.specs.Tables.{AreMicrosOf}
use Rattle.grib_placed.specs.declared.form.PointForm.{PointForm}
use Rattle.grib_placed.specs.declared.form.PointForm.TheVariants.{Numbers, Decimals}
use Rattle.grib_placed.specs.declared.places.PlaceTexts.{PlaceTexts}

-- the latitudes and the longitudes of a grid
pub record ArePlacesOf (places : PlaceTexts) (s : List ℕ) : Type 0 where
  pub latitudes : AreMicrosOf places.latitudes Latitude s
  pub longitudes : AreMicrosOf places.longitudes Longitude s

-- how a point is printed
abbrev pub text_in : PointForm → Point → List ℕ
text_in Numbers point = point_text point
text_in (Decimals scale) point = value_text scale point

-- each point has a text
abbrev pub HasTexts : PointForm → List Point → Type 0
HasTexts Numbers points = Unit {0}
HasTexts (Decimals scale) points = first_too_large scale points ≡ None

abbrev pub HasText : PointForm → Point → Type 0
HasText Numbers point = Unit {0}
HasText (Decimals scale) point = is_point_too_large scale point ≡ false
