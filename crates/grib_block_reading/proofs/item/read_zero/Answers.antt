use Rattle.std.proofs.Common.{suc, ◌≡◌, ◌-◌, arith}
use Rattle.grib_block_reading.proofs.item.read_zero.Goals as goal

pub returns-else-bit-eq0 : goal.returns-else-bit-eq0
returns-else-bit-eq0 c =
    let some : c.args.bit ≡ suc (c.args.bit - 1) = omega arith in
    rw some (c.read_second.ensures (c.args.bit - 1))
