-- What a message is repacked to, as what a packing packs to.
use Rattle.grib_packing.specs.Misfits.{Target, ToSimple, ToComplex, ToSpatial, ToCoded}
use Rattle.grib_packing.specs.declared.target.RepackTarget.{RepackTarget}
use Rattle.grib_packing.specs.declared.target.RepackTarget.TheVariants.{Simple, Complex, Spatial, Coded}

abbrev pub target_of : RepackTarget → Target
target_of Simple = ToSimple
target_of Complex = ToComplex
target_of (Spatial order) = ToSpatial order
target_of (Coded block interval) = ToCoded block interval
