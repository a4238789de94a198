use Rattle.std.proofs.Common.{ℕ, List, sym, subst, Some}
use Rattle.grib_io.specs.Shelves.{Tells}
use Rattle.grib_io.specs.Reading.{IsFirst}
use Rattle.grib_table.proofs.TableReading.{by_fault, by_stop}
use Rattle.grib_table.specs.declared.reading.TheConstants.{MOST}
use Rattle.grib_table.proofs.reading.read_table.Goals as goal

pub returns-in_err-text-clause-read : goal.returns-in_err-text-clause-read
returns-in_err-text-clause-read g c =
    by_stop g.R.FromRecords.none g.R.FromRecords.good g.R.FromRecords.IsFault g.R.FromRecords.verdict c.from_residual.result (g.H.Shelf.contents c.args.shelf.now) c.args.name.now
    c.in_err-text.field-0.0 c.in_err-text.ensures.read c.from_residual.ensures.1

pub returns-in_err-read_rows-clause-read : goal.returns-in_err-read_rows-clause-read
returns-in_err-read_rows-clause-read g c =
    by_fault g.R.FromRecords.none g.R.FromRecords.good g.R.FromRecords.IsFault g.R.FromRecords.verdict c.from_residual-in_err-read_rows.result (g.H.Shelf.contents c.args.shelf.now) c.args.name.now
    c.as_slice.result.now c.in_err-read_rows.field-0.0
    (subst (λ (x : List ℕ). Tells (g.H.Shelf.contents c.args.shelf.now) c.args.name.now (IsFirst (Some MOST) x)) (sym c.as_slice.ensures.value) c.in_ok-text.ensures.read) c.in_err-read_rows.ensures
    c.from_residual-in_err-read_rows.ensures.1

pub returns-clause-read : goal.returns-clause-read
returns-clause-read g c = (
  c.as_slice.result.now,
  subst (λ (x : List ℕ). Tells (g.H.Shelf.contents c.args.shelf.now) c.args.name.now (IsFirst (Some MOST) x)) (sym c.as_slice.ensures.value) c.in_ok-text.ensures.read,
  c.in_ok-read_rows.ensures,
)
