use Rattle.std.proofs.Common.{sym, ◌∙◌, arith}
use Rattle.grib_block_writing.proofs.Adding.{same_bits}
use Rattle.grib_block_writing.proofs.Options.{pairs_small, skip_is, plain_item, pair_item, split_item, split_low, room_as}
use Rattle.grib_block_writing.proofs.writing.write_block.Goals as goal

pub write_plain_block-requires-clause-room : goal.write_plain_block-requires-clause-room
write_plain_block-requires-clause-room c =
    room_as _ _ _ (plain_item c.args.coding.now c.args.reference _ c.args.codes.now
    (skip_is c.args.reference _ _ c.from-skip.ensures c.is_some.ensures) (sym c.choose.ensures ∙ c.in-Plain.is)) c.requires.room

pub returns-in-Plain : goal.returns-in-Plain
returns-in-Plain c =
    same_bits _ _ _ _ (plain_item c.args.coding.now c.args.reference _ c.args.codes.now
    (skip_is c.args.reference _ _ c.from-skip.ensures c.is_some.ensures) (sym c.choose.ensures ∙ c.in-Plain.is)) c.write_plain_block.ensures

pub write_pair_block-requires-clause-small : goal.write_pair_block-requires-clause-small
write_pair_block-requires-clause-small c =
    pairs_small c.args.coding.now c.from-skip.result c.args.codes.now (omega arith) c.requires.fits.most_bits (omega arith)
    (sym c.choose.ensures ∙ c.in-Second.is)

pub write_pair_block-requires-clause-room : goal.write_pair_block-requires-clause-room
write_pair_block-requires-clause-room c =
    room_as _ _ _ (pair_item c.args.coding.now c.args.reference _ c.args.codes.now
    (skip_is c.args.reference _ _ c.from-skip.ensures c.is_some.ensures) (sym c.choose.ensures ∙ c.in-Second.is)) c.requires.room

pub returns-in-Second : goal.returns-in-Second
returns-in-Second c =
    same_bits _ _ _ _ (pair_item c.args.coding.now c.args.reference _ c.args.codes.now
    (skip_is c.args.reference _ _ c.from-skip.ensures c.is_some.ensures) (sym c.choose.ensures ∙ c.in-Second.is)) c.write_pair_block.ensures

pub write_split_block-requires-clause-k : goal.write_split_block-requires-clause-k
write_split_block-requires-clause-k c =
    split_low c.args.coding.now c.from-skip.result c.args.codes.now _ _ (sym c.choose.ensures ∙ c.in-Split.is) c.from.ensures

pub write_split_block-requires-clause-room : goal.write_split_block-requires-clause-room
write_split_block-requires-clause-room c =
    room_as _ _ _ (split_item c.args.coding.now c.args.reference _ c.args.codes.now _ _
    (skip_is c.args.reference _ _ c.from-skip.ensures c.is_some.ensures) (sym c.choose.ensures ∙ c.in-Split.is) c.from.ensures) c.requires.room

pub returns-in-Split : goal.returns-in-Split
returns-in-Split c =
    same_bits _ _ _ _ (split_item c.args.coding.now c.args.reference _ c.args.codes.now _ _
    (skip_is c.args.reference _ _ c.from-skip.ensures c.is_some.ensures) (sym c.choose.ensures ∙ c.in-Split.is) c.from.ensures) c.write_split_block.ensures
