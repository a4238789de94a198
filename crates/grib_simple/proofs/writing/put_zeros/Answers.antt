use Rattle.std.proofs.Common.{◌≡◌, ℕ, ◌+◌, ◌*◌, ◌%◌, Bool, false, List, ◌++◌, replicate, ap, ◌∙◌, arith, append_assoc}
use Rattle.std.proofs.lemmas.List.{replicate-append-replicate}
use Rattle.grib_bits.specs.Bits.{bits_of}
use Rattle.grib_bits.proofs.Numbers.{bits_of-zero}
use Rattle.grib_simple.proofs.writing.put_zeros.Goals as goal

-- some zeros more behind those that were written
zeros_more : (before now after : List Bool) (done more whole : ℕ) → now ≡ before ++ replicate done false → after ≡ now ++ bits_of more 0 → done + more ≡ whole
    → after ≡ before ++ replicate whole false
zeros_more before now after done more whole so_far next is =
    next
    ∙ ap (λ (xs : List Bool). xs ++ bits_of more 0) so_far
    ∙ append_assoc before (replicate done false) (bits_of more 0)
    ∙ ap (λ (xs : List Bool). before ++ (replicate done false ++ xs)) (bits_of-zero more)
    ∙ ap (λ (xs : List Bool). before ++ xs) (replicate-append-replicate done more false ∙ ap (λ (n : ℕ). replicate n false) is)

pub loop-word-preserved : goal.loop-word-preserved
loop-word-preserved c = record {
  bits =
      zeros_more c.args.out.now.bits c.loop-word.out.bits c.put.new.self.bits (64 * c.loop-word._word) 64 (64 * (c.loop-word._word + 1)) c.loop-word.invariant.bits c.put.ensures.bits (omega arith);
  spare = omega (arith, c.put.ensures.spare, c.loop-word.invariant.spare);
}

pub returns-clause-bits : goal.returns-clause-bits
returns-clause-bits c =
    zeros_more c.args.out.now.bits c.loop-word.out.bits c.put-2.new.self.bits (64 * c.loop-word._word) (c.args.count % 64) c.args.count c.loop-word.invariant.bits c.put-2.ensures.bits (omega arith)
