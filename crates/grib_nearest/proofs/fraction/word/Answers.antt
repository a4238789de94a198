use Rattle.std.proofs.Common.{◌≡◌, ◌+◌, true, nat_abs, to_z-of_z, ap, ◌∙◌, arith}
use Rattle.std.proofs.lemmas.Int.{ints}
use Rattle.grib_nearest.specs.Formats.{format_of}
use Rattle.grib_nearest.specs.Values.{signed_word}
use Rattle.grib_nearest.proofs.Numbers.{zero_signed, plus_signed, minus_signed, denominator_some, infinity_below}
use Rattle.grib_nearest.proofs.fraction.word.Goals as goal

pub returns-then-number-eq0-clause-word : goal.returns-then-number-eq0-clause-word
returns-then-number-eq0-clause-word c =
    zero_signed (format_of c.args.format) c.args.number c.args.exponent c.args.divisor (let e = c.if-number-eq0.true in omega (arith, ints)) c.requires.some

pub returns-then-number-lt0-clause-word : goal.returns-then-number-lt0-clause-word
returns-then-number-lt0-clause-word c =
    let f = format_of c.args.format in
    let size : c.unsigned_abs.result ≡ nat_abs c.args.number = c.unsigned_abs.ensures.value ∙ ap nat_abs (to_z-of_z c.ranges.number) in
    let leading = rw (to_z-of_z c.ranges.exponent, size) at c.leading.ensures in
    let is = c.nearest-word.ensures.nearest _ _ (denominator_some c.args.exponent c.args.divisor c.requires.some) leading in
    ap (λ s. c.nearest-word.result + s) c.sign.ensures ∙ ap (λ w. w + signed_word f true 0) is ∙ minus_signed f c.args.number _ (let e = c.if-number-lt0.true in omega (arith, ints))

pub returns-else-number-lt0-clause-word : goal.returns-else-number-lt0-clause-word
returns-else-number-lt0-clause-word c =
    let f = format_of c.args.format in
    let size : c.unsigned_abs.result ≡ nat_abs c.args.number = c.unsigned_abs.ensures.value ∙ ap nat_abs (to_z-of_z c.ranges.number) in
    let leading = rw (to_z-of_z c.ranges.exponent, size) at c.leading.ensures in
    let is = c.nearest-word.ensures.nearest _ _ (denominator_some c.args.exponent c.args.divisor c.requires.some) leading in
    is ∙ plus_signed f c.args.number _ (let e = c.if-number-lt0.false in omega (arith, ints))

pub returns-then-number-eq0-clause-within : goal.returns-then-number-eq0-clause-within
returns-then-number-eq0-clause-within c = omega (arith, infinity_below (format_of c.args.format))

pub returns-then-number-lt0-clause-within : goal.returns-then-number-lt0-clause-within
returns-then-number-lt0-clause-within c = omega (arith, c.nearest-word.ensures.within, c.sign.ensures, infinity_below (format_of c.args.format))

pub returns-else-number-lt0-clause-within : goal.returns-else-number-lt0-clause-within
returns-else-number-lt0-clause-within c = omega (arith, c.nearest-word.ensures.within, infinity_below (format_of c.args.format))
