-- Columns with the reference value C2ED4000, E = -3 and D = 1 of the worked messages.
use Rattle.std.specs.Prelude.{ℕ, List, pos}
use Rattle.grib_packing.specs.declared.column.Point.{Point}
use Rattle.grib_packing.specs.declared.column.Point.TheVariants.{Scaled}
use Rattle.grib_packing.specs.declared.column.Column.{Column}

abbrev pub scaled : ℕ → Point
scaled x = Scaled (pos x)

abbrev pub column : List Point → Column
column points = record { reference = 0xC2ED4000; e = 0x8003; d = 1; points = points }
