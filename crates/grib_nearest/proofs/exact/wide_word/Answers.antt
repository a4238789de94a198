use Rattle.std.proofs.Common.{zero, ◌+◌, true, to_z-of_z, sym, ap, ◌∙◌, arith}
use Rattle.std.specs.Int.{is_negative}
use Rattle.grib_bits.proofs.Arithmetic.{nat_abs-some}
use Rattle.grib_nearest.specs.Formats.{format_of}
use Rattle.grib_nearest.specs.Numbers.{number_of}
use Rattle.grib_nearest.specs.Values.{signed_word}
use Rattle.grib_nearest.proofs.Words.{below_some, zero_word, minus_word, plus_word}
use Rattle.grib_nearest.proofs.exact.wide_word.Goals as goal

pub returns-then-is_zero : goal.returns-then-is_zero
returns-then-is_zero c = zero_word (format_of c.args.format) (number_of c.args.number) c.args.exponent c.args.up c.args.down (c.is_zero.ensures.zero c.if-is_zero.true)

pub long_leading-requires-clause-some : goal.long_leading-requires-clause-some
long_leading-requires-clause-some c = omega (arith, c.in_ok-long.ensures.value, nat_abs-some (number_of c.args.number) (c.is_zero.ensures.some c.if-is_zero.false))

pub returns-then-is_negative : goal.returns-then-is_negative
returns-then-is_negative c =
    let f = format_of c.args.format in
    let n = number_of c.args.number in
    let leading = rw (to_z-of_z c.ranges.exponent, c.in_ok-long.ensures.value) at c.in_ok-long_leading.ensures in
    let is = c.nearest-word.ensures.nearest _ _ (below_some c.args.exponent c.args.down) leading in
    ap (λ s. c.nearest-word.result + s) c.sign.ensures ∙ ap (λ w. w + signed_word f true 0) is ∙ minus_word f (is_negative n) _ (sym c.is_negative.ensures ∙ c.if-is_negative.true)

pub returns-else-is_negative : goal.returns-else-is_negative
returns-else-is_negative c =
    let f = format_of c.args.format in
    let n = number_of c.args.number in
    let leading = rw (to_z-of_z c.ranges.exponent, c.in_ok-long.ensures.value) at c.in_ok-long_leading.ensures in
    let is = c.nearest-word.ensures.nearest _ _ (below_some c.args.exponent c.args.down) leading in
    is ∙ plus_word f (is_negative n) _ (sym c.is_negative.ensures ∙ c.if-is_negative.false)
