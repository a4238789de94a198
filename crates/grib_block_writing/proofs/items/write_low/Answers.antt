use Rattle.std.proofs.Common.{List, ℕ, Bool, refl, arith, ◌∙◌}
use Rattle.grib_bits.specs.Bits.{bits_of}
use Rattle.grib_coding.specs.Items.{all_bits}
use Rattle.grib_coding.specs.Written.{lows}
use Rattle.grib_block_writing.proofs.Adding.{each_next, each_room, number_is, number_room, last_bits}
use Rattle.grib_block_writing.proofs.items.write_low.Goals as goal

pub put-requires-clause-room : goal.put-requires-clause-room
put-requires-clause-room c =
    let F : List ℕ → List Bool = λ (xs : List ℕ). all_bits (bits_of c.args.k) (lows c.args.k xs) in
    number_room c.args.k _ _ (each_room F c.args.codes.now _ _ _ _ (omega arith) refl c.loop-code.invariant c.requires.room)

pub loop-code-preserved : goal.loop-code-preserved
loop-code-preserved c =
    let F : List ℕ → List Bool = λ (xs : List ℕ). all_bits (bits_of c.args.k) (lows c.args.k xs) in
    each_next F c.args.codes.now _ _ _ _ _ (omega arith) refl c.loop-code.invariant
    (number_is _ _ _ _ _ c.put.ensures.bits c.put.ensures.spare (c.from.ensures ∙ last_bits _ _ c.requires.k))
