use Rattle.std.proofs.Common.{ℕ, ◌<◌, ◌*◌, ◌^◌, drop, sym, subst}
use Rattle.grib_bits.specs.Bits.{bits}
use Rattle.grib_bits.proofs.WordNumbers.{number-lt}
use Rattle.grib_simple_reading.proofs.words.number_at.Goals as goal

pub returns-then-at-octets-clause-fits : goal.returns-then-at-octets-clause-fits
returns-then-at-octets-clause-fits c =
    subst (λ (n : ℕ). n < 2 ^ c.args.bits) (sym c.number_in_word.ensures.value)
    (number-lt c.args.bits (drop (c.from.result * c.from-2.result) (bits c.args.octets.now)))

pub returns-else-at-octets-clause-fits : goal.returns-else-at-octets-clause-fits
returns-else-at-octets-clause-fits c =
    subst (λ (n : ℕ). n < 2 ^ c.args.bits) (sym c.get_bits.ensures)
    (number-lt c.args.bits (drop (c.from.result * c.from-2.result) (bits c.args.octets.now)))
