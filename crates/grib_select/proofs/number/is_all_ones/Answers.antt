use Rattle.std.proofs.Common.{ℕ, ◌+◌, ◌*◌, ◌==◌, sym, ap, ◌∙◌, arith}
use Rattle.std.proofs.lemmas.Nat.{one_shl}
use Rattle.grib_bits.proofs.Encoding.{pow_256}
use Rattle.grib_select.proofs.Numbers.{four_octets}
use Rattle.grib_select.proofs.number.is_all_ones.Goals as goal

pub overflow_add-result : goal.overflow_add-result
overflow_add-result c = omega (arith, four_octets c.args.octets c.requires.few, c.requires.fits)

pub returns : goal.returns
returns c = ap (λ (n : ℕ). c.args.number + 1 == n) (one_shl (8 * c.args.octets) 64 (omega (arith, c.requires.few)) ∙ sym (pow_256 c.args.octets))
