use Rattle.grib_base.specs.Rules.{first_fault}
use Rattle.grib_base.proofs.Passing.{none-located}
use Rattle.grib2_grids.specs.Grid.{grid_rules}
use Rattle.grib2_grids.proofs.Numbers.{has_numbers}
use Rattle.grib2_grids.proofs.reading.read_grid.Goals as goal

pub grid_of-requires : goal.grid_of-requires
grid_of-requires c =
    let s = c.args.section.now.octets.now in
    has_numbers s (none-located c.args.section.now.start (first_fault (grid_rules s)) c.in_ok-check_grid.ensures)
