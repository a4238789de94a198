use Rattle.std.proofs.Common.{sym, ◌∙◌}
use Rattle.grib_demote.proofs.Levels.{are_ones}
use Rattle.grib_demote.proofs.level.level_with.Goals as goal

pub number_by-requires : goal.number_by-requires
number_by-requires c = are_ones c.args.level_type c.in_ok-one.one (sym c.surfaces_at.ensures ∙ c.in_ok-one.was)
