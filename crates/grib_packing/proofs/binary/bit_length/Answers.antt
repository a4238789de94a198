use Rattle.std.proofs.Common.{◌≡◌, ℕ, ◌+◌, ◌*◌, ◌^◌, ◌<◌, ◌≤◌, arith}
use Rattle.std.proofs.Math.Nat.{pow-le-pow_right}
use Rattle.std.proofs.lemmas.Nat.{leading_length}
use Rattle.grib_packing.specs.Groupings.{digits}
use Rattle.grib_packing.proofs.Digits.{digits-is, highest}
use Rattle.grib_packing.proofs.binary.bit_length.Goals as goal

-- and it is below 2 ^ 32 where they are 32 at most
at_most_32 : (number n : ℕ) → number < 2 ^ 32 → 2 ^ n ≤ 2 * number + 1 → n ≤ 32
at_most_32 number n small least = omega (arith, clash)
  where
    clash : 32 < n → ⊥
    clash more = let high : 2 ^ 33 ≤ 2 ^ n = pow-le-pow_right (omega arith) more in omega (arith, high)

pub returns-clause-is : goal.returns-clause-is
returns-clause-is c =
    let l = leading_length 64 c.args.number (c.ranges.number).fits in
    let is : digits c.args.number ≡ l.0 = digits-is c.args.number l.0 (omega (arith, l.1)) l.2 (highest c.args.number l.0 l.3) in
    omega (arith, is, l.1)

pub returns-clause-few : goal.returns-clause-few
returns-clause-few c small =
    let l = leading_length 64 c.args.number (c.ranges.number).fits in
    omega (arith, l.1, at_most_32 c.args.number l.0 small l.3)
