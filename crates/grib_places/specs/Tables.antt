-- What is worked out once for a grid.
use Rattle.std.specs.Prelude.{◌≡◌, ℕ, List, map}
use Rattle.std.specs.List.{range_with_len}
use Rattle.grib_bits.specs.Octets.{octets}
use Rattle.grib_rescan.specs.Scanning.{scanning_of}
use Rattle.grib_places.specs.declared.coordinate.Coordinate.{Coordinate}
use Rattle.grib_places.specs.declared.line.Line.{Line}
use Rattle.grib_places.specs.declared.order.StepOrder.{StepOrder}
use Rattle.grib_places.specs.declared.tables.PlaceWords.{PlaceWords}
use Rattle.grib_places.specs.declared.tables.PlaceMicros.{PlaceMicros}
use Rattle.grib_places.specs.Degrees.{degrees_word, micro_degrees}
use Rattle.grib_places.specs.Places.{stepped, first_of, way_of, count_of, degrees_at}

-- how the points of a grid follow one another
pub record IsOrderOf (order : StepOrder) (s : List ℕ) : Type 0 where
  pub by_columns : order.by_columns ≡ (scanning_of (octets s 72 72)).by_columns
  pub alternates : order.alternates ≡ (scanning_of (octets s 72 72)).alternates
  pub columns : order.columns ≡ octets s 31 34
  pub rows : order.rows ≡ octets s 35 38

-- a column or a row of a grid
pub record IsLineOf (line : Line) (coordinate : Coordinate) (s : List ℕ) : Type 0 where
  pub first : line.first ≡ first_of coordinate s
  pub way : line.way ≡ way_of coordinate s
  pub count : line.count ≡ count_of coordinate s

abbrev pub line_words : Line → List ℕ
line_words line = map (λ k. degrees_word (stepped line.first line.way line.count k)) (range_with_len 0 line.count)

-- the words of the latitudes, or of the longitudes, of a grid
pub record AreWordsOf (places : PlaceWords) (coordinate : Coordinate) (s : List ℕ) : Type 0 where
  pub order : IsOrderOf places.order s
  pub coordinate_is : places.coordinate ≡ coordinate
  pub words : places.words.items ≡ map (λ k. degrees_word (degrees_at coordinate s k)) (range_with_len 0 (count_of coordinate s))

-- the same in 10^-6 degree
pub record AreMicrosOf (places : PlaceMicros) (coordinate : Coordinate) (s : List ℕ) : Type 0 where
  pub order : IsOrderOf places.order s
  pub coordinate_is : places.coordinate ≡ coordinate
  pub micros : places.micros.items ≡ map (λ k. micro_degrees (degrees_at coordinate s k)) (range_with_len 0 (count_of coordinate s))
