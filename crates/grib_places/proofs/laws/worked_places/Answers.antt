use Rattle.std.proofs.Common.{refl}
use lib.Ieee.{size, span, climb}
use Rattle.grib_nearest.specs.Nearest.{nearest_word}
use Rattle.grib_places.proofs.laws.worked_places.Goals as goal

pub returns-clause-eastward : goal.returns-clause-eastward
unfolding nearest_word size span climb
returns-clause-eastward c = refl

pub returns-clause-round : goal.returns-clause-round
unfolding nearest_word size span climb
returns-clause-round c = refl

pub returns-clause-westward : goal.returns-clause-westward
unfolding nearest_word size span climb
returns-clause-westward c = refl

pub returns-clause-thirds : goal.returns-clause-thirds
unfolding nearest_word size span climb
returns-clause-thirds c = refl

pub returns-clause-negative : goal.returns-clause-negative
unfolding nearest_word size span climb
returns-clause-negative c = refl

pub returns-clause-single : goal.returns-clause-single
unfolding nearest_word size span climb
returns-clause-single c = refl
