use Rattle.std.proofs.Common.{◌<◌, length, ◌≡◌, arith}
use Rattle.grib_block_reading.proofs.Blocks.{next, done, parity_here, still_near}
use Rattle.grib_block_reading.proofs.unmapping.unmap_near.Goals as goal

pub loop-code-preserved : goal.loop-code-preserved
loop-code-preserved c =
    let so = c.loop-code.invariant.so_far in
    let near = c.loop-code.invariant.near in
    let within : c.loop-code.code-index < length c.args.codes.now = omega arith in
    let same : length c.loop-code.codes ≡ length c.args.codes.now = omega arith in
    let told = parity_here _ _ c.by_parity-before.result _ _ _ _ so within same near c.by_parity-before.ensures.even c.by_parity-before.ensures.odd in
    record {
      so_far = next _ _ _ _ _ _ _ so within same told.0 told.1;
      near = still_near _ _ _ _ _ within near so.last_within told.0 told.1;
    }

pub returns : goal.returns
returns c = done _ _ _ _ _ _ c.loop-code.invariant.so_far (omega arith) (omega arith)
