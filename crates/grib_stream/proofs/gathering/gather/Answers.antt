use Rattle.std.proofs.Common.{ap, ◌∙◌, length, length-append, arith}
use Rattle.grib_stream.proofs.Windows.{gathers_more}
use Rattle.grib_stream.proofs.gathering.gather.Goals as goal

pub loop-wanted-preserved : goal.loop-wanted-preserved
loop-wanted-preserved g c =
    let reads = c.in_ok-count.ensures.read in
    record {
      read = gathers_more _ _ _ _ _ _ _ _ _ _ c.loop-wanted.invariant.read reads (omega (arith, c.min-most.ensures));
      short = omega (arith, ap length reads.grown, length-append c.loop-wanted.window.octets reads.piece, reads.size, reads.few, c.min-most.ensures, c.room_for.ensures.short, c.len-in-loop-wanted.ensures);
      room = omega (arith, c.in_ok-count.ensures.room, c.loop-wanted.invariant.room, c.loop-wanted-test.true, c.len.ensures);
      calm = c.in_ok-count.ensures.counted ∙ c.loop-wanted.invariant.calm;
    }
