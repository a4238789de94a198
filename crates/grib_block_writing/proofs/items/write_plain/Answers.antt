use Rattle.std.proofs.Common.{refl, arith}
use Rattle.grib_bits.specs.Bits.{bits_of}
use Rattle.grib_coding.specs.Items.{all_bits}
use Rattle.grib_block_writing.proofs.Adding.{each_next, each_room, number_is, number_room}
use Rattle.grib_block_writing.proofs.items.write_plain.Goals as goal

pub put-requires-clause-room : goal.put-requires-clause-room
put-requires-clause-room c =
    number_room c.args.width _ _ (each_room (all_bits (bits_of c.args.width)) c.args.codes.now _ _ _ _ (omega arith) refl c.loop-code.invariant c.requires.room)

pub loop-code-preserved : goal.loop-code-preserved
loop-code-preserved c =
    each_next (all_bits (bits_of c.args.width)) c.args.codes.now _ _ _ _ _ (omega arith) refl c.loop-code.invariant
    (number_is _ _ _ _ _ c.put.ensures.bits c.put.ensures.spare c.from.ensures)
