use Rattle.std.proofs.Common.{◌≡◌, ℕ, ◌+◌, ◌*◌, ◌/◌, ◌^◌, ◌<◌, ◌≤◌, FitsSigned, ℤ, pos, ◌+ℤ◌, ◌*ℤ◌, nat_abs, ap, ◌∙◌, arith, to_z, of_z, w64, to_z-of_z}
use Rattle.std.proofs.Math.Nat.{mul-le-mul_left}
use Rattle.std.proofs.lemmas.Int.{fits_signed_from_abs, ints, to_z_pos}
use Rattle.grib_complex_reading.proofs.RunRepeated.{AreNear, are_near}
use Rattle.grib_complex_reading.proofs.same.moved.Goals as goal
use Rattle.grib_complex_reading.proofs.same.moved.Goals.{After-from-count}

few : (n : ℕ) → n < 2 ^ 32 → n * (n + 1) / 2 < 2 ^ 63
few n small =
    let most : n * (n + 1) ≤ n * 4294967296 = mul-le-mul_left n (omega arith) in
    omega (arith, most)

-- the factors, and how large their products are
record Parts (c : After-from-count) : Type 0 where
  times : to_z w64 (of_z w64 c.from-times.result) ≡ pos c.args.count
  pairs : to_z w64 (c.from-count.result * (c.from-count.result + 1) / 2) ≡ pos (c.args.count * (c.args.count + 1) / 2)
  last : to_z w64 (of_z w64 c.args.last) ≡ c.args.last
  step : to_z w64 (of_z w64 c.args.step) ≡ c.args.step
  growth : to_z w64 (of_z w64 c.args.growth) ≡ c.args.growth
  near : AreNear c.args.last c.args.step c.args.growth c.args.count (2 ^ 60)

parts : (c : After-from-count) → Parts c
parts c =
    let n = c.args.count in
    let small : n < 2 ^ 32 = c.ranges.count.fits in
    let fits : FitsSigned w64 c.from-times.result = record { sfits = c.from-times.type_inv } in
    record {
      times = to_z-of_z fits ∙ c.from-times.ensures;
      pairs = ap (λ (k : ℕ). to_z w64 (k * (k + 1) / 2)) c.from-count.ensures ∙ to_z_pos w64 (n * (n + 1) / 2) (few n small);
      last = to_z-of_z c.ranges.last;
      step = to_z-of_z c.ranges.step;
      growth = to_z-of_z c.ranges.growth;
      near = are_near c.args.last c.args.step c.args.growth n (2 ^ 60) c.requires.near;
    }

sum_is : (a b c : ℤ) → nat_abs a + nat_abs b + nat_abs c ≤ 2 ^ 60 → to_z w64 (of_z w64 (to_z w64 (of_z w64 (a +ℤ to_z w64 (of_z w64 b))) +ℤ to_z w64 (of_z w64 c))) ≡ (a +ℤ b) +ℤ c
sum_is a b c small = omega (arith, ints, small)

product_fits : (a : ℤ) → nat_abs a ≤ 2 ^ 60 → FitsSigned w64 a
product_fits a small = fits_signed_from_abs w64 a (omega (arith, small))

sum_fits : (a b c : ℤ) → nat_abs a + nat_abs b + nat_abs c ≤ 2 ^ 60 → FitsSigned w64 (to_z w64 (of_z w64 (a +ℤ to_z w64 (of_z w64 b))) +ℤ to_z w64 (of_z w64 c))
sum_fits a b c small = fits_signed_from_abs w64 _ (omega (arith, ints, small))

pub overflow_mul-result-2 : goal.overflow_mul-result-2
overflow_mul-result-2 c =
    let p = parts (goal.at.overflow_mul-result-2 c).After-from-count in
    rw (p.pairs, p.growth) (product_fits (pos (c.args.count * (c.args.count + 1) / 2) *ℤ c.args.growth) p.near.growths)

pub overflow_add-result-2 : goal.overflow_add-result-2
overflow_add-result-2 c =
    let p = parts (goal.at.overflow_add-result-2 c).After-from-count in
    rw (p.pairs, p.growth, p.times, p.step, p.last) (sum_fits c.args.last (pos c.args.count *ℤ c.args.step) (pos (c.args.count * (c.args.count + 1) / 2) *ℤ c.args.growth) p.near.all)

pub returns-clause-number : goal.returns-clause-number
returns-clause-number c =
    let p = parts (goal.at.returns-clause-number c).After-from-count in
    rw (p.pairs, p.growth, p.times, p.step, p.last) (sum_is c.args.last (pos c.args.count *ℤ c.args.step) (pos (c.args.count * (c.args.count + 1) / 2) *ℤ c.args.growth) p.near.all)

pub returns-clause-near : goal.returns-clause-near
returns-clause-near c =
    let p = parts (goal.at.returns-clause-near c).After-from-count in
    let x = c.args.last in
    let y = pos c.args.count *ℤ c.args.step in
    let z = pos (c.args.count * (c.args.count + 1) / 2) *ℤ c.args.growth in
    let all : nat_abs ((x +ℤ y) +ℤ z) ≤ 2 ^ 60 = omega (arith, ints, p.near.all) in
    rw (p.pairs, p.growth, p.times, p.step, p.last) (rw (sum_is x y z p.near.all) all)
