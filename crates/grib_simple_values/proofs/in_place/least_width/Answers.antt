use Rattle.std.proofs.Common.{◌≡◌, ℕ, ap, ◌∙◌, arith}
use Rattle.grib_bits.specs.Bits.{bits}
use Rattle.grib_bits.specs.Plain.{plain}
use Rattle.grib_packing.specs.Groupings.{digits, greatest}
use Rattle.grib_simple_values.proofs.InPlace.{no_bits, width_most, all_bits, greatest_more}
use Rattle.grib_simple_values.proofs.in_place.least_width.Goals as goal

pub returns-then-bits-eq0-clause-width : goal.returns-then-bits-eq0-clause-width
returns-then-bits-eq0-clause-width c = no_bits (bits c.args.octets.now) c.args.bits c.args.count c.if-bits-eq0.true

pub returns-then-number-bits-eq1-clause-width : goal.returns-then-number-bits-eq1-clause-width
returns-then-number-bits-eq1-clause-width c =
    all_bits (bits c.args.octets.now) c.args.bits c.loop-index.index c.args.count c.number_at-number.result (omega (arith, c.if-bits-eq0.false)) c.requires.bits
    (omega (arith, c.loop-index-test.true)) c.number_at-number.ensures.number c.if-number-bits-eq1.true

pub loop-index-preserved : goal.loop-index-preserved
loop-index-preserved c =
    c.max-greatest.ensures ∙ greatest_more (bits c.args.octets.now) c.args.bits c.loop-index.index c.number_at-number.result c.loop-index.greatest
    c.loop-index.invariant c.number_at-number.ensures.number

last : (c : goal.After-bit_length) → c.bit_length.result ≡ digits (greatest (plain (bits c.args.octets.now) c.args.bits c.args.count))
last c =
    let end : c.loop-index.index ≡ c.args.count = omega arith in
    c.bit_length.ensures.is ∙ ap digits c.loop-index.invariant ∙ ap (λ (n : ℕ). digits (greatest (plain (bits c.args.octets.now) c.args.bits n))) end

pub returns-clause-width : goal.returns-clause-width
returns-clause-width c = last c

pub returns-clause-most : goal.returns-clause-most
returns-clause-most c = omega (arith, last c, width_most (bits c.args.octets.now) c.args.bits c.args.count c.requires.bits)
