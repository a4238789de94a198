use Rattle.std.proofs.Common.{◌≡◌, ◌+◌, ◌*◌, ◌<◌, drop, length, ap, arith}
use Rattle.grib_coding.specs.Choices.{high_sum, pair_sum}
use Rattle.grib_block_writing.proofs.PairSums.{pair_step, sum_step}
use Rattle.grib_block_writing.proofs.sums.pair_sum_of.Goals as goal

pub loop-pair-preserved : goal.loop-pair-preserved
loop-pair-preserved c =
    let codes = c.args.codes.now in
    let at = 2 * c.loop-pair.pair in
    let within : at + 1 < length codes = omega arith in
    let next : 2 * (c.loop-pair.pair + 1) ≡ at + 2 = omega arith in
    let pairs = pair_step codes at within in
    let sums = sum_step codes at within in
    let later : pair_sum (drop (2 * (c.loop-pair.pair + 1)) codes) ≡ pair_sum (drop (at + 2) codes) = ap (λ n. pair_sum (drop n codes)) next in
    let later_sum : high_sum 0 (drop (2 * (c.loop-pair.pair + 1)) codes) ≡ high_sum 0 (drop (at + 2) codes) = ap (λ n. high_sum 0 (drop n codes)) next in
    record {
      is = omega (arith, c.loop-pair.invariant.is, pairs, later, c.number_of_pair-sum.ensures.is);
      few = omega (arith, c.number_of_pair-sum.ensures.small);
      small = omega (arith, c.loop-pair.invariant.small, sums, later_sum);
    }
