use Rattle.std.proofs.Common.{◌∷◌, take, get_or, ap, arith}
use Rattle.std.proofs.lemmas.List.{take_more}
use Rattle.grib_packing.specs.Groupings.{greatest, smallest}
use Rattle.grib_codes.proofs.Ends.{greatest-behind, smallest-behind}
use Rattle.grib_codes.proofs.codes.ends.Goals as goal

pub loop-word-preserved : goal.loop-word-preserved
loop-word-preserved c =
    let words = c.args.words.now in
    let i = c.loop-word.word-index in
    let word = get_or words i 0 in
    let next = take_more words i 0 c.loop-word-test.true in
    record {
      least = omega (arith, c.min-least.ensures, c.loop-word.invariant.least, smallest-behind word 4294967295 (take i words), ap (λ ws. smallest (4294967295 ∷ ws)) next);
      most = omega (arith, c.max-most.ensures, c.loop-word.invariant.most, greatest-behind word (take i words), ap greatest next);
    }
