use Rattle.std.proofs.Common.{List, ℕ, Bool, refl, arith}
use Rattle.grib_coding.specs.Items.{sequence, all_bits}
use Rattle.grib_coding.specs.Written.{highs}
use Rattle.grib_block_writing.proofs.Adding.{each_next, each_room}
use Rattle.grib_block_writing.proofs.items.write_high.Goals as goal

pub write_sequence-requires : goal.write_sequence-requires
write_sequence-requires c =
    let F : List ℕ → List Bool = λ (xs : List ℕ). all_bits sequence (highs c.args.k xs) in
    each_room F c.args.codes.now _ _ _ _ (omega arith) refl c.loop-code.invariant c.requires.room

pub loop-code-preserved : goal.loop-code-preserved
loop-code-preserved c =
    let F : List ℕ → List Bool = λ (xs : List ℕ). all_bits sequence (highs c.args.k xs) in
    each_next F c.args.codes.now _ _ _ _ _ (omega arith) refl c.loop-code.invariant c.write_sequence.ensures
