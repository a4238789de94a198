use Rattle.grib_coding.specs.Written.{pair_numbers}
use Rattle.grib_block_writing.proofs.Heads.{first_room, second_room, both_are, second_parts, one_fits}
use Rattle.grib_block_writing.proofs.writing.write_pair_block.Goals as goal

pub write_head-requires-clause-room : goal.write_head-requires-clause-room
write_head-requires-clause-room c =
    first_room _ _ _ _ (second_parts c.args.coding.now c.args.reference (pair_numbers c.args.codes.now) _ c.identifier_width.ensures.is) c.requires.room

pub write_pairs-requires-clause-room : goal.write_pairs-requires-clause-room
write_pairs-requires-clause-room c =
    second_room _ _ _ _ _ (second_parts c.args.coding.now c.args.reference (pair_numbers c.args.codes.now) _ c.identifier_width.ensures.is) c.requires.room c.write_head.ensures

pub returns : goal.returns
returns c =
    both_are _ _ _ _ _ _ (second_parts c.args.coding.now c.args.reference (pair_numbers c.args.codes.now) _ c.identifier_width.ensures.is) c.write_head.ensures c.write_pairs.ensures
