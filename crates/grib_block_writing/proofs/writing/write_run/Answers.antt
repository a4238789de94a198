use Rattle.grib_block_writing.proofs.Heads.{first_room, second_room, both_are, run_parts}
use Rattle.grib_block_writing.proofs.writing.write_run.Goals as goal

pub write_head-requires-clause-room : goal.write_head-requires-clause-room
write_head-requires-clause-room c =
    first_room _ _ _ _ (run_parts c.args.coding.now c.args.reference c.args.number _ c.identifier_width.ensures.is) c.requires.room

pub write_sequence-requires : goal.write_sequence-requires
write_sequence-requires c =
    second_room _ _ _ _ _ (run_parts c.args.coding.now c.args.reference c.args.number _ c.identifier_width.ensures.is) c.requires.room c.write_head.ensures

pub returns : goal.returns
returns c =
    both_are _ _ _ _ _ _ (run_parts c.args.coding.now c.args.reference c.args.number _ c.identifier_width.ensures.is) c.write_head.ensures c.write_sequence.ensures
