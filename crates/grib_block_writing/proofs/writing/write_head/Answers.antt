use Rattle.std.proofs.Common.{◌≡◌, ◌≤◌, arith, length-append, length}
use Rattle.grib_bits.specs.Bits.{bits_of}
use Rattle.grib_bits.proofs.Numbers.{length-bits_of}
use Rattle.grib_coding.specs.Written.{reference_bits}
use Rattle.grib_block_writing.proofs.Heads.{head_some, head_none, reference_room}
use Rattle.grib_block_writing.proofs.writing.write_head.Goals as goal

pub put-requires-clause-room : goal.put-requires-clause-room
put-requires-clause-room c =
    omega (arith, c.requires.room, length-append (bits_of c.args.width c.args.identifier) (reference_bits c.args.coding.now c.args.reference), length-bits_of c.args.width c.args.identifier)

pub put-requires-in-Some-clause-room : goal.put-requires-in-Some-clause-room
put-requires-in-Some-clause-room c =
    omega (arith, c.from-in-Some-2.ensures, reference_room c.args.coding.now _ _ _ _ _ _ c.in-Some.is c.requires.room c.put.ensures.spare)

pub returns-in-Some : goal.returns-in-Some
returns-in-Some c =
    head_some _ _ _ c.args.coding.now _ _ _ _ _ _ _ c.in-Some.is c.put.ensures.bits c.put.ensures.spare c.from.ensures
    c.put-in-Some.ensures.bits c.put-in-Some.ensures.spare c.from-in-Some.ensures c.from-in-Some-2.ensures

pub returns-in_default : goal.returns-in_default
returns-in_default c = head_none _ _ c.args.coding.now _ _ _ _ c.in_default.is c.put.ensures.bits c.put.ensures.spare c.from.ensures
