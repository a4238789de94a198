use Rattle.std.proofs.Common.{◌∙◌, sym}
use Rattle.grib_params.proofs.Lookups.{fell_back}
use Rattle.grib_params.proofs.table.Table.lookup.Goals as goal

pub returns-in-None : goal.returns-in-None
returns-in-None c =
    rw (sym c.self.view_is) (fell_back c.self.inside.targets.entries c.args.centre c.args.version c.args.parameter c.copied.result c.in-None.ensures.value (c.copied.ensures ∙ c.get-in-None.ensures.value))
