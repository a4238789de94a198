-- The rules are tried in three parts.
use Rattle.std.proofs.Common.{take, drop}
use Rattle.grib2_grids.specs.Grid.{grid_rules}
use Rattle.grib_base.proofs.Passing.{second_failed, carried}
use Rattle.grib2_grids.proofs.rules.check_grid.Goals as goal

pub returns-in_err-check_list : goal.returns-in_err-check_list
returns-in_err-check_list c =
    let rules = grid_rules c.args.section.now.octets.now in
    carried _ _ _ _ c.from_residual-in_err-check_list.ensures.1
    (second_failed c.args.section.now.start (take 5 rules) (take 4 (drop 5 rules)) (drop 9 rules) c.in_ok-check_head.ensures.rules _ c.in_err-check_list.ensures.rules)
