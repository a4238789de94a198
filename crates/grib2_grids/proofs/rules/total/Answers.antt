-- The list that the section has as a whole is the list of rows.
use Rattle.std.proofs.Common.{◌≡◌, ◌<◌, eqb, cond, ℕ, sum, ap, ◌∙◌, arith}
use Rattle.std.proofs.lemmas.List.FromFn.{sum_by-map-range_with_len_more}
use Rattle.grib_bits.specs.Listed.{number_at}
use Rattle.grib2_grids.specs.Grid.{list_start, list_octets, nj}
use Rattle.grib2_grids.proofs.Lists.{row_list-whole}
use Rattle.grib2_grids.proofs.rules.total.Goals as goal

pub loop-row-preserved : goal.loop-row-preserved
loop-row-preserved c =
    let more = sum_by-map-range_with_len_more (λ (n : ℕ). n) (number_at c.args.octets.now c.in-Some.first c.from-size.result) 0 c.loop-row.row c.loop-row.row (omega arith) in
    record { sums = omega (arith, more, c.loop-row.invariant.sums, c.uint_at.ensures, c.from-total.ensures); small = omega arith }

pub returns : goal.returns
returns c =
    let s = c.args.octets.now in
    let start : c.in-Some.first ≡ list_start s = c.in-Some.ensures.1 ∙ ap (λ (n : ℕ). cond (eqb n 1) 85 73) c.u16_at.ensures in
    let size : c.from-size.result ≡ list_octets s = c.from-size.ensures ∙ c.u8_at.ensures in
    let count : c.loop-row.row ≡ nj s = omega (arith, c.u32_at-row-end.ensures) in
    let some : 0 < c.from-size.result = omega (arith, c.requires.some) in
    c.loop-row.invariant.sums ∙ ap sum (row_list-whole s c.in-Some.first c.from-size.result c.loop-row.row c.requires.numbers.list start size count some)
