-- The list that the section has as a whole is the list of rows.
use Rattle.std.proofs.Common.{◌≡◌, ◌<◌, eqb, cond, List, ℕ, subst, ap, ◌∙◌, arith}
use Rattle.std.specs.Prelude.{IfOk}
use Rattle.grib2_grids.specs.Grid.{list_start, list_octets}
use Rattle.grib2_grids.proofs.Lists.{row_list-whole}
use Rattle.grib2_grids.proofs.reading.read_rows.Goals as goal

pub returns-clause-rows : goal.returns-clause-rows
returns-clause-rows c =
    let s = c.args.octets.now in
    let start : c.in-Some.first ≡ list_start s = c.in-Some.ensures.1 ∙ ap (λ (n : ℕ). cond (eqb n 1) 85 73) c.u16_at.ensures in
    let size : c.from.result ≡ list_octets s = c.from.ensures ∙ c.u8_at-size.ensures in
    let some : 0 < c.from.result = omega arith in
    let RowsAre : List ℕ → Type 0 = λ xs. IfOk c.read_list.result (λ rows. rows.items ≡ xs) in
    subst RowsAre (row_list-whole s c.in-Some.first c.from.result c.u32_at-count.result c.requires.list start size c.u32_at-count.ensures some) c.read_list.ensures.numbers
