use Rattle.grib_places.proofs.Told.{uncaused}
use Rattle.grib_places.proofs.laws.what_has_places.Goals as goal

pub returns-clause-points : goal.returns-clause-points
returns-clause-points c = λ profile s none told.
    c.what_has_no_cause.ensures.points s (c.what_has_no_cause.ensures.rescanned profile s none (uncaused s told))

pub returns-clause-product : goal.returns-clause-product
returns-clause-product c = λ profile s none told.
    (c.what_has_no_cause.ensures.rescanned profile s none (uncaused s told)).product
