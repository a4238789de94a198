-- How many steps a grid has.
use Rattle.std.specs.Prelude.{ℕ}
use Rattle.grib_places.specs.declared.coordinate.Coordinate.{Coordinate}
use Rattle.grib_places.specs.declared.coordinate.Coordinate.TheVariants.{Latitude, Longitude}
use Rattle.grib_places.specs.declared.order.StepOrder.{StepOrder}

-- of a coordinate
abbrev pub steps_in : Coordinate → StepOrder → ℕ
steps_in Latitude order = order.rows
steps_in Longitude order = order.columns
