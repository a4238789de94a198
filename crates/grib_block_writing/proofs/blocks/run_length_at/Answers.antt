use Rattle.std.proofs.Common.{◌≡◌, sym, ◌∙◌, arith}
use Rattle.grib_block_writing.proofs.Zeros.{one_zero_more, no_more, at_the_end, most_blocks}
use Rattle.grib_block_writing.proofs.blocks.run_length_at.Goals as goal

pub loop-zeros-preserved : goal.loop-zeros-preserved
loop-zeros-preserved c =
    let most = most_blocks c.args.coding.now c.args.numbers.now c.args.block _ _ _ _ c.from.ensures c.room_of_run-room.ensures.is c.block_count.ensures c.min-most.ensures in
    one_zero_more _ _ _ _ c.loop-zeros.invariant (omega (arith, most)) (omega (arith, most))
    (sym c.is_zero_at.ensures ∙ c.if-not-is_zero_at.false)

pub returns-then-not-is_zero_at-clause-is : goal.returns-then-not-is_zero_at-clause-is
returns-then-not-is_zero_at-clause-is c =
    let most = most_blocks c.args.coding.now c.args.numbers.now c.args.block _ _ _ _ c.from.ensures c.room_of_run-room.ensures.is c.block_count.ensures c.min-most.ensures in
    sym (no_more _ _ _ _ c.loop-zeros.invariant (omega (arith, most)) (omega (arith, most))
    (sym c.is_zero_at.ensures ∙ c.if-not-is_zero_at.true))

pub returns-clause-is : goal.returns-clause-is
returns-clause-is c =
    let most = most_blocks c.args.coding.now c.args.numbers.now c.args.block _ _ _ _ c.from.ensures c.room_of_run-room.ensures.is c.block_count.ensures c.min-most.ensures in
    let whole : c.loop-zeros.zeros ≡ c.min-most.result = omega arith in
    sym (at_the_end _ _ _ _ c.loop-zeros.invariant (omega (arith, most)) ∙ whole)
