use Rattle.grib_packing.specs.Misfits.{ToSimple, ToComplex, ToSpatial, ToCoded}
use Rattle.grib_packed.specs.Written.{packed}
use Rattle.grib_packed.proofs.Written.{simple_written, complex_written, spatial_written}
use Rattle.grib_packed.proofs.InBlocks.{coded_written}
use Rattle.grib_packed.proofs.laws.a_packing_is_written.Goals as goal

pub returns : goal.returns
unfolding packed
returns c ToSimple column kind may words known small none = simple_written column kind may words small none
returns c ToComplex column kind may words known small none = complex_written column kind may words small none
returns c (ToSpatial order) column kind may words known small none = spatial_written order column kind known may words small none
returns c (ToCoded block interval) column kind may words known small none = coded_written block interval column kind known may words small none
