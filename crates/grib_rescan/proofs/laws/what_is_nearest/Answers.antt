use Rattle.std.proofs.Common.{refl}
use Rattle.grib_bits.specs.Octets.{octets}
use Rattle.grib_rescan.specs.Bounds.{row_distance, column_distance}
use Rattle.grib_rescan.proofs.Closest.{is_nearest}
use Rattle.grib_rescan.proofs.laws.what_is_nearest.Goals as goal

pub returns-clause-there : goal.returns-clause-there
returns-clause-there c latitude longitude s grid = refl

pub returns-clause-one : goal.returns-clause-one
returns-clause-one c latitude longitude s grid = (refl, refl)

pub returns-clause-row : goal.returns-clause-row
returns-clause-row c latitude longitude s grid = is_nearest (row_distance latitude s) (octets s 35 38) grid.rows

pub returns-clause-column : goal.returns-clause-column
returns-clause-column c latitude longitude s grid = is_nearest (column_distance longitude s) (octets s 31 34) grid.columns
