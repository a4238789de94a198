use Rattle.std.proofs.Common.{◌∙◌}
use Rattle.grib_places.specs.Degrees.{degrees_word}
use Rattle.grib_places.proofs.Stepped.{found_at}
use Rattle.grib_places.proofs.tables.PlaceWords.word.Goals as goal

pub returns : goal.returns
returns c = λ coordinate s are.
    let places = c.args.self.now in
    c.index.ensures
    ∙ found_at degrees_word c.index.result.now places.words.items places.order places.coordinate coordinate s c.args.point c.step.result
    are.order are.coordinate_is are.words c.step.ensures.value c.step.ensures.within
