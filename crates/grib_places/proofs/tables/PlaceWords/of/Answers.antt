use Rattle.std.proofs.Common.{refl, ◌∙◌}
use Rattle.grib_places.specs.Degrees.{degrees_word}
use Rattle.grib_places.proofs.Stepped.{are_of, as_many}
use Rattle.grib_places.proofs.tables.PlaceWords.of.Goals as goal

pub invariant_of-result : goal.invariant_of-result
invariant_of-result c = record {
  words_stand = as_many degrees_word c.in_ok-words.words.items c.of-order.result c.of.result c.args.coordinate c.args.section.now c.of-order.ensures c.of.ensures c.in_ok-words.ensures;
}

pub returns : goal.returns
returns c = record {
  order = c.of-order.ensures;
  coordinate_is = refl;
  words = c.in_ok-words.ensures ∙ are_of degrees_word c.of.result c.args.coordinate c.args.section.now c.of.ensures;
}
