use Rattle.std.proofs.Common.{◌∙◌, sym}
use Rattle.grib_params.proofs.Lookups.{fell_back_level}
use Rattle.grib_params.proofs.surfaces.SurfaceTable.under.Goals as goal

pub returns-in-None : goal.returns-in-None
returns-in-None c =
    rw (sym c.self.view_is) (fell_back_level c.self.inside.targets.entries c.args.key c.args.level_type c.args.level c.copied.result c.in-None.ensures.value (c.copied.ensures ∙ c.get-in-None.ensures.value))
