use Rattle.std.proofs.Common.{◌+◌, ◌*◌, ◌<◌, ◌≤◌, ◌^◌, ℕ, drop, take, sym, ap, ◌∙◌, subst, arith}
use Rattle.std.proofs.Math.Nat.{mul-le-mul_right}
use Rattle.grib_bits.specs.Bits.{bits, num}
use Rattle.grib_bits.proofs.WordNumbers.{number-lt_48}
use Rattle.grib_rescan.proofs.Added.{scaled, all_added, number_at}
use Rattle.grib_rescan.proofs.source.NumbersGridPoints.point.Goals as goal

pub overflow_mul-at : goal.overflow_mul-at
overflow_mul-at c =
    let numbers = c.args.self.now in
    let less : c.args.place ≤ 2 ^ 32 = omega (arith, all_added numbers, c.requires.within) in
    let h = mul-le-mul_right numbers.bits less in
    omega (arith, h, c.requires.stands.width, ap (λ (w : ℕ). c.args.place * w) c.from.ensures)

pub get_bits-requires-clause-within : goal.get_bits-requires-clause-within
get_bits-requires-clause-within c =
    let numbers = c.args.self.now in
    let less : c.args.place + 1 ≤ numbers.count = omega (arith, all_added numbers, c.requires.within) in
    let h = mul-le-mul_right numbers.bits less in
    omega (arith, h, c.requires.stands.within, ap (λ (w : ℕ). c.args.place * w) c.from.ensures)

pub scaled_point-requires : goal.scaled_point-requires
scaled_point-requires c =
    let numbers = c.args.self.now in
    subst (λ (n : ℕ). n < 2 ^ 48) (sym c.get_bits.ensures) (number-lt_48 numbers.bits (drop (c.args.place * c.from.result) (bits numbers.octets.now)) c.requires.stands.width)

pub returns : goal.returns
returns c =
    let numbers = c.args.self.now in
    c.scaled_point.ensures
    ∙ ap scaled (c.get_bits.ensures ∙ ap (λ (w : ℕ). num (take numbers.bits (drop (c.args.place * w) (bits numbers.octets.now)))) c.from.ensures)
    ∙ number_at numbers c.args.place (omega (arith, all_added numbers, c.requires.within))
