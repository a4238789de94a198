use Rattle.grib_demote_law.proofs.Pairs.{first_finds, first_has}
use Rattle.grib_demote_law.proofs.laws.the_first_pair_is_found_again.Goals as goal

pub returns-clause-stands : goal.returns-clause-stands
returns-clause-stands c = first_finds

pub returns-clause-same : goal.returns-clause-same
returns-clause-same c = first_has
