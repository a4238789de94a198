use Rattle.std.proofs.Common.{◌≤ℤ◌, FitsSigned, to_z-of_z, arith, rules}
use Rattle.std.specs.Int.{w32, w64}
use Rattle.std.proofs.lemmas.Int.{ints}
use Rattle.std.proofs.lemmas.Result.{IfOk-weaker}
use Rattle.grib_nearest.specs.Numbers.{number_of}
use Rattle.grib_arrays.proofs.Settled.{settled_high, settled_low}
use Rattle.grib_arrays.proofs.scale.ArrayScale.value_word.Goals as goal

pub returns-then-self : goal.returns-then-self
returns-then-self c f r e d is =
    let s = c.args.self.now in
    let m_fits : FitsSigned w64 s.mantissa = search rules in
    let k_fits : FitsSigned w32 s.exponent = search rules in
    let e_fits : FitsSigned w32 s.e = search rules in
    let test = rw (to_z-of_z k_fits, to_z-of_z e_fits) at c.if-self.true in
    let more : s.e ≤ℤ s.exponent = omega (arith, ints, test) in
    let gap = rw (to_z-of_z k_fits, to_z-of_z e_fits) at c.abs_diff-gap.ensures in
    let number = rw (to_z-of_z m_fits, to_z-of_z c.ranges.x) at c.of-number.ensures in
    let word = rw (to_z-of_z e_fits) at c.exact_word.ensures in
    IfOk-weaker c.exact_word.result _ _ (λ w is_word. settled_high s f r e d c.args.x (number_of c.of-number.result) c.abs_diff-gap.result w is more gap number is_word) word

pub returns-else-self : goal.returns-else-self
returns-else-self c f r e d is =
    let s = c.args.self.now in
    let m_fits : FitsSigned w64 s.mantissa = search rules in
    let k_fits : FitsSigned w32 s.exponent = search rules in
    let e_fits : FitsSigned w32 s.e = search rules in
    let test = rw (to_z-of_z k_fits, to_z-of_z e_fits) at c.if-self.false in
    let less : s.exponent ≤ℤ s.e = omega (arith, ints, test) in
    let gap = rw (to_z-of_z k_fits, to_z-of_z e_fits) at c.abs_diff-gap.ensures in
    let number = rw (to_z-of_z m_fits, to_z-of_z c.ranges.x) at c.of-number-else-self.ensures in
    let word = rw (to_z-of_z k_fits) at c.exact_word-else-self.ensures in
    IfOk-weaker c.exact_word-else-self.result _ _ (λ w is_word. settled_low s f r e d c.args.x (number_of c.of-number-else-self.result) c.abs_diff-gap.result w is less gap number is_word) word
