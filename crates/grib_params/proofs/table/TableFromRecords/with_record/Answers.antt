use Rattle.std.proofs.Common.{sym}
use Rattle.std.proofs.lemmas.Result.{err_from_is_err_and}
use Rattle.csv.specs.Records.{fields_of}
use Rattle.grib_params.proofs.Adding.{table_joined, table_refused}
use Rattle.grib_params.proofs.table.TableFromRecords.with_record.Goals as goal

pub returns-in_err-put : goal.returns-in_err-put
returns-in_err-put c =
    let p = err_from_is_err_and c.from_residual.result c.from_residual.ensures.1 in
    rw (p.1, p.2, sym c.self.view_is) (table_refused c.row_of.result (fields_of c.args.given.now) c.args.number c.self.inside.targets.entries c.in_err-put.field-0.0 c.row_of.ensures c.in_err-put.ensures)

pub returns : goal.returns
returns c =
    rw (sym c.self.view_is) (table_joined c.row_of.result (fields_of c.args.given.now) c.args.number c.self.inside.targets.entries c.put.new.rows.entries c.row_of.ensures c.in_ok-put.ensures)
