use Rattle.std.proofs.Common.{refl, sym, ap, ◌∙◌, ◌<◌, arith, subst, replicate, List}
use Rattle.std.proofs.lemmas.Bool.{lt-ltb}
use Rattle.grib_packing.specs.declared.column.Point.{Point}
use Rattle.grib_packing.specs.Coded.{point_of}
use Rattle.grib_packing.specs.Packing.{bit_width, value_count}
use Rattle.grib_packing.proofs.Packings.{packing_passes}
use Rattle.grib_block_feeding.proofs.Accepting.{coding_fits}
use Rattle.grib_packings.proofs.Coded.{kept_at_once}
use Rattle.grib_packings.proofs.coded_reading.CodedReading.start.Goals as goal

pub start-requires-clause-fits : goal.start-requires-clause-fits
start-requires-clause-fits g c =
    let is = c.requires.1 in
    coding_fits c.requires.0 is.points c.args.coded.coding is.numbers.1.coding (omega arith) (omega (arith, is.numbers.1.simple.bits, ap (λ x. x.bits) is.numbers.1.coding, c.if-coded-eq0.false)) is.numbers.0 is.accepted

pub start-requires-clause-few : goal.start-requires-clause-few
start-requires-clause-few g c =
    let is = c.requires.1 in
    omega (arith, is.numbers.1.simple.values, (packing_passes c.requires.0 is.points is.accepted).few, is.few)
