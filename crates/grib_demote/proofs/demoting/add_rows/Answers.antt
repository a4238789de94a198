use Rattle.std.proofs.Common.{arith}
use Rattle.grib_demote.proofs.Lists.{row_written}
use Rattle.grib_demote.proofs.demoting.add_rows.Goals as goal

pub loop-row-preserved : goal.loop-row-preserved
loop-row-preserved c =
    row_written c.args.rows.now c.loop-row.row-index c.args.out.now.items _ _ (omega arith) c.loop-row.invariant c.in_ok-add_numbers.ensures
