use Rattle.std.proofs.Common.{◌≡◌, ℕ, ℤ, ◌+◌, ◌%◌, nat_le, Option, Some, sym, ap, ap₂, ◌∙◌, arith, w32, to_z, of_z, to_z-of_z}
use Rattle.std.proofs.Math.Nat.{le-mul_of_pos_right, mul_comm}
use Rattle.grib_bits.specs.Octets.{octets}
use Rattle.grib_rescan.specs.declared.places.Run.{Run}
use Rattle.grib_rescan.specs.declared.bounds.Bounds.TheVariants.{Box}
use Rattle.grib_rescan.specs.Sections.{longitude_at}
use Rattle.grib_rescan.specs.Bounds.{run_of, east_of, in_rows, first_column, rows_in, columns_in, area_of, area_in}
use Rattle.grib_rescan.proofs.Members.{run_is}
use Rattle.grib_rescan.proofs.Within.{no_columns}
use Rattle.grib_rescan.proofs.bounds.box_in.Goals as goal

pub returns-in_err-columns : goal.returns-in_err-columns
returns-in_err-columns c =
    let s = c.args.section.now in
    let ni = octets s 31 34 in
    let west = to_z w32 (of_z w32 c.args.west) in
    let east = to_z w32 (of_z w32 c.args.east) in
    let first = c.first_column-first.result in
    let columns_are =
    sym (c.columns_between.ensures ∙ ap (λ (w : ℕ). run_of (λ k. nat_le (east_of west (longitude_at s ((first + k) % ni))) w) ni) c.span.ensures
    ∙ ap (λ (f : ℕ). columns_in west east f s) c.first_column-first.ensures.column
    ∙ ap₂ (λ (w e : ℤ). columns_in w e (first_column w s) s) (to_z-of_z c.ranges.west) (to_z-of_z c.ranges.east)) ∙ c.in_err-columns.was in
    c.from_residual-in_err-columns.ensures ∙ sym (no_columns ni (first_column c.args.west s) (rows_in c.args.south c.args.north s) _ columns_are)

pub area_of-requires-clause-rows : goal.area_of-requires-clause-rows
area_of-requires-clause-rows c =
    let s = c.args.section.now in
    (run_is (in_rows (to_z w32 (of_z w32 c.args.south)) (to_z w32 (of_z w32 c.args.north)) s) (octets s 35 38) c.in_ok-rows.rows
    (sym c.rows_between.ensures ∙ c.in_ok-rows.was)).some

pub area_of-requires-clause-few_rows : goal.area_of-requires-clause-few_rows
area_of-requires-clause-few_rows c =
    let s = c.args.section.now in
    let run = run_is (in_rows (to_z w32 (of_z w32 c.args.south)) (to_z w32 (of_z w32 c.args.north)) s) (octets s 35 38) c.in_ok-rows.rows
    (sym c.rows_between.ensures ∙ c.in_ok-rows.was) in
    let few = le-mul_of_pos_right {m = octets s 31 34} (octets s 35 38) c.requires.columns in
    omega (arith, run.within, few, mul_comm (octets s 35 38) (octets s 31 34), c.requires.few)

pub area_of-requires-clause-columns : goal.area_of-requires-clause-columns
area_of-requires-clause-columns c =
    let s = c.args.section.now in
    let ni = octets s 31 34 in
    let west = to_z w32 (of_z w32 c.args.west) in
    (run_is (λ k. nat_le (east_of west (longitude_at s ((c.first_column-first.result + k) % ni))) c.span.result) ni c.in_ok-columns.columns
    (sym c.columns_between.ensures ∙ c.in_ok-columns.was)).some

pub area_of-requires-clause-within : goal.area_of-requires-clause-within
area_of-requires-clause-within c =
    let s = c.args.section.now in
    let ni = octets s 31 34 in
    let west = to_z w32 (of_z w32 c.args.west) in
    let run = run_is (λ k. nat_le (east_of west (longitude_at s ((c.first_column-first.result + k) % ni))) c.span.result) ni c.in_ok-columns.columns
    (sym c.columns_between.ensures ∙ c.in_ok-columns.was) in
    omega (arith, run.within, c.u32_at.ensures)

pub returns : goal.returns
returns c =
    let s = c.args.section.now in
    let ni = octets s 31 34 in
    let south = to_z w32 (of_z w32 c.args.south) in
    let north = to_z w32 (of_z w32 c.args.north) in
    let west = to_z w32 (of_z w32 c.args.west) in
    let east = to_z w32 (of_z w32 c.args.east) in
    let first = c.first_column-first.result in
    let rows_are : rows_in south north s ≡ Some c.in_ok-rows.rows = sym c.rows_between.ensures ∙ c.in_ok-rows.was in
    let columns_are : columns_in west east (first_column west s) s ≡ Some c.in_ok-columns.columns =
    sym (c.columns_between.ensures ∙ ap (λ (w : ℕ). run_of (λ k. nat_le (east_of west (longitude_at s ((first + k) % ni))) w) ni) c.span.ensures
    ∙ ap (λ (f : ℕ). columns_in west east f s) c.first_column-first.ensures.column) ∙ c.in_ok-columns.was in
    c.area_of.ensures
    ∙ ap₂ (λ (n f : ℕ). area_of n f (Some c.in_ok-rows.rows) (Some c.in_ok-columns.columns)) c.u32_at.ensures c.first_column-first.ensures.column
    ∙ sym (ap₂ (λ (r k : Option Run). area_of ni (first_column west s) r k) rows_are columns_are)
    ∙ ap₂ (λ (n l : ℤ). area_in (Box n l west east) s) (to_z-of_z c.ranges.north) (to_z-of_z c.ranges.south)
    ∙ ap₂ (λ (w e : ℤ). area_in (Box c.args.north c.args.south w e) s) (to_z-of_z c.ranges.west) (to_z-of_z c.ranges.east)
