use Rattle.std.proofs.Common.{refl}
use lib.Ieee.{size, span, climb}
use Rattle.grib_nearest.specs.Nearest.{nearest_word}
use Rattle.grib_places.proofs.laws.worked_orders.Goals as goal

pub returns-clause-latitudes : goal.returns-clause-latitudes
unfolding nearest_word size span climb
returns-clause-latitudes c = refl

pub returns-clause-longitudes : goal.returns-clause-longitudes
unfolding nearest_word size span climb
returns-clause-longitudes c = refl

pub returns-clause-northward : goal.returns-clause-northward
unfolding nearest_word size span climb
returns-clause-northward c = refl

pub returns-clause-columns : goal.returns-clause-columns
unfolding nearest_word size span climb
returns-clause-columns c = refl

pub returns-clause-in_turn : goal.returns-clause-in_turn
unfolding nearest_word size span climb
returns-clause-in_turn c = refl
