use Rattle.grib_demote_law.proofs.Levels.{level_known}
use Rattle.grib_demote_law.proofs.laws.the_level_has_surfaces.Goals as goal

pub returns-clause-fits : goal.returns-clause-fits
returns-clause-fits c = λ section level is. (let known = level_known section level is in (known.type_small, known.number_few))

pub returns-clause-surfaces : goal.returns-clause-surfaces
returns-clause-surfaces c = λ section level is. (level_known section level is).surfaces_there

pub returns-clause-no_number : goal.returns-clause-no_number
returns-clause-no_number c = λ section level is. (level_known section level is).none_lacking
