use Rattle.std.proofs.Common.{◌*◌, length, refl, ◌∙◌}
use Rattle.grib_block_feeding.specs.Feeding.{left_at}
use Rattle.grib_block_feeding.proofs.Pieces.{agree, going_none, going_piece}
use Rattle.grib_block_feeding.proofs.feeding.FedBlocks.push.Goals as goal

pub returns : goal.returns
returns g c = λ coding count keeper octets agrees.
    let before = c.args.self.reading in
    let kept = c.args.self.kept in
    let after = c.read_rest-kept.new.self in
    let kept_after = c.read_rest-kept.result in
    let piece = c.args.piece.now in
    let begins = going_none g.K.Keeper.kept before.coding before.count before.block octets piece keeper (left_at before) kept.last kept.keeper agrees.going in
    agree g.K.Keeper.kept coding count _ keeper (record { reading = after; kept = kept_after }) agrees.fits agrees.few
    (c.read_rest-kept.ensures.coding ∙ c.read_items-items.ensures.coding ∙ c.end_item-ended.ensures.coding ∙ agrees.coding_is)
    (c.read_rest-kept.ensures.count ∙ c.read_items-items.ensures.count ∙ c.end_item-ended.ensures.count ∙ agrees.count_is) c.read_rest-kept.ensures.reading
    (going_piece g.K.Keeper.kept after.coding after.count after.block octets piece (8 * length piece) keeper (left_at after) kept_after.last kept_after.keeper refl
    (c.read_rest-kept.ensures.going octets keeper (c.read_items-items.ensures.going octets keeper (c.end_item-ended.ensures.going octets keeper begins))))
