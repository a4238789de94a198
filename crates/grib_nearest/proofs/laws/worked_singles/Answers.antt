use Rattle.std.proofs.Common.{refl}
use lib.Ieee.{size, span, climb}
use Rattle.grib_nearest.specs.Nearest.{nearest_word}
use Rattle.grib_nearest.proofs.laws.worked_singles.Goals as goal

pub returns-clause-tenth : goal.returns-clause-tenth
unfolding nearest_word size span climb
returns-clause-tenth c = refl

pub returns-clause-third : goal.returns-clause-third
unfolding nearest_word size span climb
returns-clause-third c = refl

pub returns-clause-tie : goal.returns-clause-tie
unfolding nearest_word size span climb
returns-clause-tie c = refl

pub returns-clause-tie_up : goal.returns-clause-tie_up
unfolding nearest_word size span climb
returns-clause-tie_up c = refl

pub returns-clause-least : goal.returns-clause-least
unfolding nearest_word size span climb
returns-clause-least c = refl

pub returns-clause-half_of_least : goal.returns-clause-half_of_least
unfolding nearest_word size span climb
returns-clause-half_of_least c = refl

pub returns-clause-below_infinity : goal.returns-clause-below_infinity
unfolding nearest_word size span climb
returns-clause-below_infinity c = refl

pub returns-clause-infinity : goal.returns-clause-infinity
unfolding nearest_word size span climb
returns-clause-infinity c = refl
