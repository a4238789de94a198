use Rattle.std.proofs.Common.{arith}
use Rattle.grib_packing.specs.Packed.{packed_number}
use Rattle.grib_packing.proofs.Left.{left_none}
use Rattle.grib_groups.proofs.Joined.{few_more, few_room, no_codes}
use Rattle.grib_groups.proofs.encoding.put_fours.Goals as goal

pub put-requires-clause-room : goal.put-requires-clause-room
put-requires-clause-room c =
    few_room c.args.width (packed_number c.args.width c.args.reference) c.args.run.now 4 c.loop-done.done c.args.out.now c.loop-done.out _ c.four_numbers-four.result
    c.four_numbers-four.ensures.are c.loop-done.invariant c.requires.room

pub loop-done-preserved : goal.loop-done-preserved
loop-done-preserved c =
    few_more c.args.width (packed_number c.args.width c.args.reference) c.args.run.now 4 c.loop-done.done c.args.out.now c.loop-done.out c.put.new.self _ c.four_numbers-four.result
    c.four_numbers-four.ensures.are c.loop-done.invariant c.put.ensures.bits c.put.ensures.spare

pub returns : goal.returns
returns c =
    let ended = left_none c.args.out.now c.loop-done.out _ _ (no_codes c.args.width (packed_number c.args.width c.args.reference) c.args.run.now 4 c.loop-done.done (omega arith)) c.loop-done.invariant in
    record { bits = ended.0; spare = ended.1 }
