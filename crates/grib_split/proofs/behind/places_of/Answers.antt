use Rattle.std.specs.Int.{w16}
use Rattle.grib_split.proofs.Lanes.{eq_set, eq_unset}
use Rattle.grib_split.proofs.behind.places_of.Goals as goal

pub returns-clause-in_places : goal.returns-clause-in_places
returns-clause-in_places c place within set = eq_set w16 c.args.costs.now c.args.cost place c.told-costs within set

pub returns-clause-not_in : goal.returns-clause-not_in
returns-clause-not_in c place within unset = eq_unset w16 c.args.costs.now c.args.cost place c.told-costs within unset
