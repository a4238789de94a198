use Rattle.std.proofs.Common.{refl}
use lib.Ieee.{size, span, climb}
use Rattle.grib_nearest.specs.Nearest.{nearest_word}
use Rattle.grib_nearest.proofs.laws.worked_doubles.Goals as goal

pub returns-clause-tenth : goal.returns-clause-tenth
unfolding nearest_word size span climb
returns-clause-tenth c = refl

pub returns-clause-third : goal.returns-clause-third
unfolding nearest_word size span climb
returns-clause-third c = refl

pub returns-clause-one : goal.returns-clause-one
unfolding nearest_word size span climb
returns-clause-one c = refl

pub returns-clause-zero : goal.returns-clause-zero
unfolding nearest_word size span climb
returns-clause-zero c = refl

pub returns-clause-least : goal.returns-clause-least
unfolding nearest_word size span climb
returns-clause-least c = refl

pub returns-clause-half_of_least : goal.returns-clause-half_of_least
unfolding nearest_word size span climb
returns-clause-half_of_least c = refl

pub returns-clause-above_half : goal.returns-clause-above_half
unfolding nearest_word size span climb
returns-clause-above_half c = refl

pub returns-clause-least_normal : goal.returns-clause-least_normal
unfolding nearest_word size span climb
returns-clause-least_normal c = refl

pub returns-clause-below_normal : goal.returns-clause-below_normal
unfolding nearest_word size span climb
returns-clause-below_normal c = refl

pub returns-clause-greatest : goal.returns-clause-greatest
unfolding nearest_word size span climb
returns-clause-greatest c = refl

pub returns-clause-below_infinity : goal.returns-clause-below_infinity
unfolding nearest_word size span climb
returns-clause-below_infinity c = refl

pub returns-clause-infinity : goal.returns-clause-infinity
unfolding nearest_word size span climb
returns-clause-infinity c = refl

pub returns-clause-large : goal.returns-clause-large
unfolding nearest_word size span climb
returns-clause-large c = refl

pub returns-clause-tie_down : goal.returns-clause-tie_down
unfolding nearest_word size span climb
returns-clause-tie_down c = refl

pub returns-clause-tie_up : goal.returns-clause-tie_up
unfolding nearest_word size span climb
returns-clause-tie_up c = refl
