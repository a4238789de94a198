use Rattle.std.proofs.Common.{take, get_or, ap, arith}
use Rattle.std.proofs.lemmas.List.{take_more}
use Rattle.grib_packing.specs.Groupings.{greatest, present_codes}
use Rattle.grib_codes.specs.Words.{codes_of}
use Rattle.grib_codes.proofs.Marked.{greatest_number_behind}
use Rattle.grib_codes.proofs.codes.greatest_number.Goals as goal

pub loop-word-preserved : goal.loop-word-preserved
loop-word-preserved c =
    let words = c.args.words.now in
    let i = c.loop-word.word-index in
    let word = get_or words i 0 in
    let next = take_more words i 0 c.loop-word-test.true in
    omega (arith, c.max-most.ensures, c.number_or_none.ensures, c.loop-word.invariant, greatest_number_behind word (take i words), ap (λ ws. greatest (present_codes (codes_of 1 ws))) next)
