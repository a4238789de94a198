use Rattle.std.proofs.Common.{refl}
use Rattle.std.specs.Fmt.{digits}
use Rattle.grib_places.proofs.laws.worked_texts.Goals as goal

pub returns-clause-half : goal.returns-clause-half
unfolding digits
returns-clause-half c = refl

pub returns-clause-ten : goal.returns-clause-ten
unfolding digits
returns-clause-ten c = refl

pub returns-clause-zero : goal.returns-clause-zero
unfolding digits
returns-clause-zero c = refl

pub returns-clause-least : goal.returns-clause-least
unfolding digits
returns-clause-least c = refl
