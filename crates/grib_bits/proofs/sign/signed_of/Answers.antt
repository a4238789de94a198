use Rattle.std.proofs.Common.{◌≡◌, ◌+◌, ◌-◌, ◌*◌, ◌%◌, ◌^◌, ◌<◌, sym, ap, ◌∙◌, arith, ℕ}
use Rattle.grib_bits.specs.Bits.{bits_of, signed}
use Rattle.grib_bits.proofs.Signs.{signed-below, signed-above, sign_within, sign_twice, kept, negated}
use Rattle.grib_bits.proofs.sign.signed_of.Goals as goal

pub returns-then-raw-sign : goal.returns-then-raw-sign
returns-then-raw-sign c =
    let width = c.args.width in
    let same = signed-below width c.requires.nonempty c.requires.word c.args.raw c.if-raw-sign.true in
    let within = sign_within width c.requires.nonempty c.requires.word in
    kept c.args.raw (omega arith) ∙ sym same

pub returns-else-raw-sign : goal.returns-else-raw-sign
returns-else-raw-sign c =
    let width = c.args.width in
    let sign = 1 * 2 ^ (width - 1) % 2 ^ 64 in
    let within = sign_within width c.requires.nonempty c.requires.word in
    let below : c.args.raw - sign < sign = omega (arith, sign_twice width c.requires.nonempty c.requires.word) in
    let whole : sign + (c.args.raw - sign) ≡ c.args.raw = omega arith in
    let same = signed-above width c.requires.nonempty c.requires.word (c.args.raw - sign) below in
    negated (c.args.raw - sign) (omega arith) ∙ sym same ∙ ap (λ (n : ℕ). signed (bits_of width n)) whole
