use Rattle.std.proofs.Common.{lit<, refl, ◌+◌, ◌-◌, ◌^◌, ◌<◌, ◌≤◌, ◌≡◌, [], sym, ◌∙◌, arith, append-nil}
use Rattle.std.proofs.Math.Nat.{pow-le-pow_right}
use Rattle.grib_coding.specs.Items.{sequence}
use Rattle.grib_block_writing.proofs.Adding.{next, done, left-same, number_added, sequence_zeros, sequence_number}
use Rattle.grib_block_writing.proofs.items.write_sequence.Goals as goal

pub loop-left-preserved : goal.loop-left-preserved
loop-left-preserved c =
    next _ _ _ _ _ _ (left-same _ _ _ _ _ (sequence_zeros 64 c.loop-left.left (omega arith)) c.loop-left.invariant)
    (number_added _ _ 64 0 c.put.ensures.bits c.put.ensures.spare)

pub put-requires-2-clause-fits : goal.put-requires-2-clause-fits
put-requires-2-clause-fits c =
    let more : 1 ≤ c.loop-left.left + 1 = omega arith in
    let two : 2 ^ 1 ≤ 2 ^ (c.loop-left.left + 1) = pow-le-pow_right {n = 2} (lit< tt) more in
    omega (arith, two)

pub returns : goal.returns
returns c =
    done _ _ _ [] (next _ _ _ _ _ []
    (left-same _ _ _ _ _ (sym (sequence_number c.loop-left.left) ∙ sym (append-nil _)) c.loop-left.invariant)
    (number_added _ _ _ 1 c.put-2.ensures.bits c.put-2.ensures.spare)) refl
