use Rattle.std.proofs.Common.{◌≡◌, ℕ, ◌≤◌, List, length, sym, subst}
use Rattle.std.specs.Prelude.{IfOk}
use Rattle.grib2_grids.specs.Grid.{grid_points}
use Rattle.grib2_message.specs.Fields.{field_count, part_octets, column_of}
use Rattle.grib2_message.specs.Message.{FieldReads}
use Rattle.grib.proofs.field.second_column.Goals as goal

pub column-requires-clause-last : goal.column-requires-clause-last
column-requires-clause-last c = subst (λ (m : List ℕ). c.args.number ≤ field_count m) (sym c.readable.ensures) c.requires.last

pub returns-clause-column : goal.returns-clause-column
returns-clause-column c =
    subst (λ (m : List ℕ). IfOk c.column.result (λ column. column ≡ column_of m c.args.number)) c.readable.ensures c.column.ensures.column

pub returns-clause-count : goal.returns-clause-count
returns-clause-count c =
    subst (λ (m : List ℕ). IfOk c.column.result (λ column. length column.points ≡ grid_points (part_octets m c.args.number 3))) c.readable.ensures c.column.ensures.long

pub returns-clause-passes : goal.returns-clause-passes
returns-clause-passes c = subst (λ (m : List ℕ). FieldReads m c.args.number) c.readable.ensures c.column.ensures.passes
