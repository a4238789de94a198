use Rattle.std.proofs.Common.{refl, ◌∙◌}
use Rattle.grib_places.specs.Degrees.{micro_degrees}
use Rattle.grib_places.proofs.Stepped.{are_of, as_many}
use Rattle.grib_places.proofs.tables.PlaceMicros.of.Goals as goal

pub invariant_of-result : goal.invariant_of-result
invariant_of-result c = record {
  micros_stand = as_many micro_degrees c.in_ok-micros.micros.items c.of-order.result c.of.result c.args.coordinate c.args.section.now c.of-order.ensures c.of.ensures c.in_ok-micros.ensures;
}

pub returns : goal.returns
returns c = record {
  order = c.of-order.ensures;
  coordinate_is = refl;
  micros = c.in_ok-micros.ensures ∙ are_of micro_degrees c.of.result c.args.coordinate c.args.section.now c.of.ensures;
}
