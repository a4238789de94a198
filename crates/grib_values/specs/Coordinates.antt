-- `coordinates`: for each field of a message of edition 2 an array of the latitudes of its points, and one of their longitudes, in
-- degrees, in the form .npy 1.0 of NumPy.
use Rattle.std.specs.Prelude.{ℕ, List, ◌++◌, flat_map}
use Rattle.std.specs.List.{range_with_len}
use Rattle.grib2_grids.specs.Grid.{grid_points}
use Rattle.grib2_message.specs.Fields.{part_octets}
use Rattle.grib_nearest.specs.declared.format.Format.TheVariants.{Binary64}
use Rattle.grib_arrays.specs.Header.{header}
use Rattle.grib_arrays.specs.Values.{word_octets}
use Rattle.grib_places.specs.declared.coordinate.Coordinate.{Coordinate}
use Rattle.grib_places.specs.declared.coordinate.Coordinate.TheVariants.{Latitude, Longitude}
use Rattle.grib_places.specs.Degrees.{degrees_word}
use Rattle.grib_places.specs.Places.{point_degrees}
use Rattle.grib_command.specs.Command.{Command, IsLawfulCommand}
use Rattle.grib_placed.specs.Commands.{placed_command, placed_lawful}
use Rattle.grib_values.specs.Shapes.{shape_2}

-- the octets of a coordinate of point p, from 0, of a grid with this Section 3
abbrev pub coordinate_octets : Coordinate → List ℕ → ℕ → List ℕ
coordinate_octets coordinate s p = word_octets Binary64 (degrees_word (point_degrees coordinate s p))

-- of as many points
abbrev pub coordinates_from : Coordinate → List ℕ → ℕ → List ℕ
coordinates_from coordinate s points = flat_map (coordinate_octets coordinate s) (range_with_len 0 points)

abbrev pub coordinate_array : Coordinate → List ℕ → List ℕ
coordinate_array coordinate s = header Binary64 (shape_2 s) ++ coordinates_from coordinate s (grid_points s)

-- of a field with this Section 3
abbrev pub arrays_of : List ℕ → List ℕ
arrays_of s = coordinate_array Latitude s ++ coordinate_array Longitude s

-- of field i; the number of the message makes no difference
abbrev pub field_arrays : List ℕ → ℕ → List ℕ
field_arrays message i = arrays_of (part_octets message i 3)

abbrev pub coordinates_text : List ℕ → ℕ → ℕ → List ℕ
coordinates_text message m i = field_arrays message i

abbrev pub coordinates_command : Command
coordinates_command = placed_command coordinates_text

pub coordinates_lawful : IsLawfulCommand coordinates_command
coordinates_lawful = placed_lawful coordinates_text
