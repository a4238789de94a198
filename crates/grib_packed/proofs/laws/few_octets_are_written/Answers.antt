use Rattle.grib_packing.specs.Misfits.{ToSimple, ToComplex, ToSpatial, ToCoded}
use Rattle.grib_packed.specs.Written.{packed}
use Rattle.grib_packed.proofs.Short.{simple_short, complex_short, spatial_short}
use Rattle.grib_packed.proofs.InBlocks.{coded_short}
use Rattle.grib_packed.proofs.laws.few_octets_are_written.Goals as goal

pub returns : goal.returns
unfolding packed
returns c ToSimple column kind may known none = simple_short column kind may none
returns c ToComplex column kind may known none = complex_short column kind none
returns c (ToSpatial order) column kind may known none = spatial_short order column kind known none
returns c (ToCoded block interval) column kind may known none = coded_short block interval column kind known may none
