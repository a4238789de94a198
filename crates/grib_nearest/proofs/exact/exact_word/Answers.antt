use Rattle.std.proofs.Common.{◌^◌, ◌*ℤ◌, pos, FitsSigned, to_z-of_z, sym, ap, ◌∙◌, arith, rules}
use Rattle.std.specs.Int.{w128}
use Rattle.std.proofs.Math.Nat.{one-le-pow}
use Rattle.grib_nearest.specs.Formats.{format_of}
use Rattle.grib_nearest.specs.Numbers.{number_of, word_of}
use Rattle.grib_nearest.proofs.Words.{narrow_word}
use Rattle.grib_nearest.proofs.exact.exact_word.Goals as goal

pub word-requires-clause-some : goal.word-requires-clause-some
word-requires-clause-some c = omega (arith, c.pow.ensures, one-le-pow c.args.down 10 (omega arith))

pub returns : goal.returns
returns c =
    let f = format_of c.args.format in
    let fits : FitsSigned w128 c.in-Near.near = search rules in
    let fits' : FitsSigned w128 c.in-Some.raised = search rules in
    let raised = c.in-Some.ensures.value ∙ ap (λ n. n *ℤ pos (10 ^ c.args.up)) (to_z-of_z fits) in
    let word = rw (to_z-of_z fits', to_z-of_z c.ranges.exponent) at c.word.ensures.word in
    word ∙ narrow_word f c.in-Near.near c.in-Some.raised c.args.exponent c.args.up c.args.down c.pow.result raised c.pow.ensures
    ∙ ap (λ n. word_of f (number_of n) c.args.exponent c.args.up c.args.down) (sym c.in-Near.is)
