use Rattle.std.proofs.Common.{sym, subst, option_copied, Err}
use Rattle.grib_table.specs.Together.{ReadsTables, asked}
use Rattle.grib_table.proofs.TableReading.{parameters_stand, surfaces_stand, names_stand}
use Rattle.grib_table.proofs.TablesTogether.{by_parameters, by_surfaces, by_names, all_good}
use Rattle.grib_table.proofs.together.read_tables.Goals as goal

pub returns-in_err-parameters-clause-read : goal.returns-in_err-parameters-clause-read
returns-in_err-parameters-clause-read g c =
    by_parameters (g.H.Shelf.contents c.args.shelf.now) (asked (option_copied c.args.parameters) (option_copied c.args.surfaces) (option_copied c.args.names)) c.from_residual.result c.in_err-parameters.field-0.0
    (parameters_stand _ _ _ c.in_err-parameters.ensures.read) c.from_residual.ensures.1

pub returns-in-Err-clause-read : goal.returns-in-Err-clause-read
returns-in-Err-clause-read g c =
    let names = asked (option_copied c.args.parameters) (option_copied c.args.surfaces) (option_copied c.args.names) in
    subst (λ stop. ReadsTables (Err stop) (g.H.Shelf.contents c.args.shelf.now) names) (sym c.surfaces_stop.ensures)
    (by_surfaces (g.H.Shelf.contents c.args.shelf.now) names c.in_ok-parameters.parameters (parameters_stand _ _ _ c.in_ok-parameters.ensures.read) (g.H.Shelf.contents c.table_under.new.shelf) c.in_ok-parameters.ensures.kept
    c.in-Err.stop (surfaces_stand _ _ _ c.in-Err.ensures.read))

pub returns-in_err-names-clause-read : goal.returns-in_err-names-clause-read
returns-in_err-names-clause-read g c =
    by_names (g.H.Shelf.contents c.args.shelf.now) (asked (option_copied c.args.parameters) (option_copied c.args.surfaces) (option_copied c.args.names)) c.in_ok-parameters.parameters (parameters_stand _ _ _ c.in_ok-parameters.ensures.read)
    (g.H.Shelf.contents c.table_under.new.shelf) c.in_ok-parameters.ensures.kept c.in-Ok.surfaces (surfaces_stand _ _ _ c.in-Ok.ensures.read) (g.H.Shelf.contents c.table_under-2.new.shelf) c.in-Ok.ensures.kept
    c.from_residual-in_err-names.result c.in_err-names.field-0.0 (names_stand _ _ _ c.in_err-names.ensures.read) c.from_residual-in_err-names.ensures.1

pub returns-clause-read : goal.returns-clause-read
returns-clause-read g c =
    all_good (g.H.Shelf.contents c.args.shelf.now) (asked (option_copied c.args.parameters) (option_copied c.args.surfaces) (option_copied c.args.names)) c.in_ok-parameters.parameters (parameters_stand _ _ _ c.in_ok-parameters.ensures.read)
    (g.H.Shelf.contents c.table_under.new.shelf) c.in_ok-parameters.ensures.kept c.in-Ok.surfaces (surfaces_stand _ _ _ c.in-Ok.ensures.read) (g.H.Shelf.contents c.table_under-2.new.shelf) c.in-Ok.ensures.kept
    c.in_ok-names.names (names_stand _ _ _ c.in_ok-names.ensures.read)
