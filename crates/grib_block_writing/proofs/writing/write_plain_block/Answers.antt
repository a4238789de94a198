use Rattle.std.proofs.Common.{ℕ, ◌≤◌, ◌<◌, ◌^◌, List, refl, sym, subst, arith}
use Rattle.std.specs.List.{All}
use Rattle.grib_block_writing.proofs.Heads.{first_room, second_room, both_are, plain_parts, all_ones, ones_fit, all_below}
use Rattle.grib_block_writing.proofs.writing.write_plain_block.Goals as goal

pub write_head-requires-clause-fits : goal.write_head-requires-clause-fits
write_head-requires-clause-fits c = ones_fit _ _ c.identifier_width-width.ensures.within refl

pub write_head-requires-clause-room : goal.write_head-requires-clause-room
write_head-requires-clause-room c =
    let width = c.identifier_width-width in
    first_room _ _ _ _ (plain_parts c.args.coding.now c.args.reference c.args.kept.now width.result _ _ width.ensures.is
    (all_ones c.args.coding.now width.result width.ensures.is width.ensures.within) refl) c.requires.room

pub write_plain-requires-clause-fit : goal.write_plain-requires-clause-fit
write_plain-requires-clause-fit c =
    let P : ℕ → Type 0 = λ (n : ℕ). All (λ code. code < 2 ^ n) c.args.kept.now in
    subst P (sym c.from.ensures) (all_below c.args.coding.now.bits c.args.kept.now c.requires.within)

pub write_plain-requires-clause-room : goal.write_plain-requires-clause-room
write_plain-requires-clause-room c =
    let width = c.identifier_width-width in
    second_room _ _ _ _ _ (plain_parts c.args.coding.now c.args.reference c.args.kept.now width.result _ _ width.ensures.is
    (all_ones c.args.coding.now width.result width.ensures.is width.ensures.within) c.from.ensures) c.requires.room c.write_head.ensures

pub returns : goal.returns
returns c =
    let width = c.identifier_width-width in
    both_are _ _ _ _ _ _ (plain_parts c.args.coding.now c.args.reference c.args.kept.now width.result _ _ width.ensures.is
    (all_ones c.args.coding.now width.result width.ensures.is width.ensures.within) c.from.ensures) c.write_head.ensures c.write_plain.ensures
