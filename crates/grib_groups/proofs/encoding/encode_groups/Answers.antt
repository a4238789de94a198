use Rattle.grib_packing.specs.Groupings.{runs}
use Rattle.grib_groups.proofs.Measures.{none_known}
use Rattle.grib_groups.proofs.encoding.encode_groups.Goals as goal

pub encode_measured_groups-requires-clause-known : goal.encode_measured_groups-requires-clause-known
encode_measured_groups-requires-clause-known c = none_known c.args.layout.now.management c.args.layout.now.reference_bits (runs c.args.lengths.now c.args.codes.now)
