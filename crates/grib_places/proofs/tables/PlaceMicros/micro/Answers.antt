use Rattle.std.proofs.Common.{FitsSigned, to_z-of_z, ◌∙◌, rules}
use Rattle.std.specs.Int.{w64}
use Rattle.grib_places.specs.Degrees.{micro_degrees}
use Rattle.grib_places.proofs.Stepped.{found_at}
use Rattle.grib_places.proofs.tables.PlaceMicros.micro.Goals as goal

pub returns : goal.returns
returns c = λ coordinate s are.
    let places = c.args.self.now in
    let fits : FitsSigned w64 c.index.result.now = search rules in
    to_z-of_z fits ∙ c.index.ensures
    ∙ found_at micro_degrees c.index.result.now places.micros.items places.order places.coordinate coordinate s c.args.point c.step.result
    are.order are.coordinate_is are.micros c.step.ensures.value c.step.ensures.within
