use Rattle.grib_packing.specs.Misfits.{ToSimple, ToComplex, ToSpatial, ToCoded}
use Rattle.grib_packed.specs.Written.{packed}
use Rattle.grib_packed.proofs.Written.{simple_only}
use Rattle.grib_packed.proofs.Unique.{complex_only, spatial_only}
use Rattle.grib_packed.proofs.InBlocks.{coded_only}
use Rattle.grib_packed.proofs.laws.one_packing_is_written.Goals as goal

pub returns : goal.returns
unfolding packed
returns c ToSimple column kind s5 s6 s7 h = simple_only column kind s5 s6 s7 h
returns c ToComplex column kind s5 s6 s7 h = complex_only column kind s5 s6 s7 h
returns c (ToSpatial order) column kind s5 s6 s7 h = spatial_only order column kind s5 s6 s7 h
returns c (ToCoded block interval) column kind s5 s6 s7 h = coded_only block interval column kind s5 s6 s7 h
