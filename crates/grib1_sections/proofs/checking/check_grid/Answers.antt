use Rattle.std.proofs.Common.{take, drop, arith}
use Rattle.grib1_sections.specs.Grid.{grid_rules}
use Rattle.grib_base.proofs.Passing.{second_failed}
use Rattle.grib1_sections.proofs.Answered.{two_passed, refused_at}
use Rattle.grib1_sections.proofs.checking.check_grid.Goals as goal

pub returns-in_err-check_lists : goal.returns-in_err-check_lists
returns-in_err-check_lists c =
    let s = c.args.section.now.octets.now in
    let rules = grid_rules s in
    refused_at _ _ _ _ c.from_residual.ensures.1
    (second_failed c.args.section.now.start (take 2 rules) (take 4 (drop 2 rules)) (drop 6 rules)
    (two_passed s c.u8_at-grid_type.result c.in-Some.least c.u8_at-grid_type.ensures c.in-Some.ensures.0 c.in-Some.ensures.1 (omega arith)) _
    c.in_err-check_lists.ensures.rules)
