use Rattle.std.proofs.Common.{◌<◌, ◌^◌, sym, subst, ℕ, drop}
use Rattle.grib_bits.specs.Bits.{bits}
use Rattle.grib_bits.proofs.OctetNumbers.{AreOctets-known}
use Rattle.grib_bits.proofs.WordNumbers.{number_in_word, number-lt_48}
use Rattle.grib_bits.proofs.field.number_in_word.Goals as goal

pub returns-clause-value : goal.returns-clause-value
returns-clause-value c =
    number_in_word c.args.octets.now c.args.at c.args.width c.read_u64-word.result (AreOctets-known c.args.octets.now c.type_inv.octets) c.requires.some c.requires.width c.requires.within c.read_u64-word.ensures

pub returns-clause-fits : goal.returns-clause-fits
returns-clause-fits c =
    let same = number_in_word c.args.octets.now c.args.at c.args.width c.read_u64-word.result (AreOctets-known c.args.octets.now c.type_inv.octets) c.requires.some c.requires.width c.requires.within c.read_u64-word.ensures in
    subst (λ (n : ℕ). n < 2 ^ 48) (sym same) (number-lt_48 c.args.width (drop c.args.at (bits c.args.octets.now)) c.requires.width)
