use Rattle.std.proofs.Common.{◌≡◌, ◌+◌, ap, sym, ◌∙◌, drop, arith}
use Rattle.grib_bits.specs.Bits.{bits}
use Rattle.grib_bits.proofs.OctetBits.{length-bits}
use Rattle.grib_bits.proofs.WordNumbers.{number-lt}
use Rattle.grib_coding.specs.Reading.{front_number, Found}
use Rattle.grib_block_reading.proofs.Places.{number_found, number_ended}
use Rattle.grib_block_reading.proofs.bits_left.BitsLeft.number.Goals as goal

pub returns-then-end-self-clause-found : goal.returns-then-end-self-clause-found
returns-then-end-self-clause-found c =
    let octets = c.self.inside.octets.now in
    ap (front_number c.args.width) (sym c.self.view_is)
    ∙ number_ended c.args.width c.self.inside.at (bits octets) (omega (arith, length-bits octets, c.self.invariant)) (omega (arith, length-bits octets, c.if-end-self.true, c.from.ensures))

pub returns-clause-found : goal.returns-clause-found
returns-clause-found c =
    let octets = c.self.inside.octets.now in
    let at = c.self.inside.at in
    let width = c.args.width in
    let moved : at + c.from.result ≡ at + width = omega (arith, c.from.ensures) in
    ap (front_number width) (sym c.self.view_is)
    ∙ (number_found width at (bits octets) (omega (arith, length-bits octets, c.if-end-self.false, c.from.ensures))
    ∙ (ap (λ n. Found n (drop (at + width) (bits octets))) (sym c.get_bits-number.ensures)
    ∙ ap (λ k. Found c.get_bits-number.result (drop k (bits octets))) (sym moved)))

pub returns-clause-fits : goal.returns-clause-fits
returns-clause-fits c =
    omega (arith, c.get_bits-number.ensures, number-lt c.args.width (drop c.self.inside.at (bits c.self.inside.octets.now)))
