-- A code leaves the numbers of the others within the reach that they had.
use Rattle.std.proofs.Common.{◌≡◌, ℕ, suc, ◌+◌, ◌*◌, ◌<◌, ◌≤◌, cond, ◌==◌, true, false, ℤ, pos, ◌+ℤ◌, ◌-ℤ◌, ◌*ℤ◌, nat_abs, arith}
use Rattle.std.proofs.lemmas.Int.{ints}
use Rattle.std.proofs.Math.Nat.{mul-le-mul_left, suc-mul}
use Rattle.grib_complex_reading.specs.Running.{number_by}
use Rattle.grib_complex_reading.specs.Reach.{reach_by, reach_of}

-- one step less
pub step_less : (k far next step most : ℕ) → next ≤ far + step → far + suc k * step ≤ most → next + k * step ≤ most
step_less k far next step most near fits = omega (arith, near, fits, suc-mul k step)

-- one step less, where each is by a size longer than the one before
pub longer_step_less : (k far next step longer size most : ℕ) → next ≤ far + (step + size) → longer ≤ step + size
    → far + suc k * (step + suc k * size) ≤ most → next + k * (longer + k * size) ≤ most
longer_step_less k far next step longer size most near longest fits =
    let e : step + suc k * size ≡ (step + size) + k * size = omega (arith, suc-mul k size) in
    let same : far + suc k * ((step + size) + k * size) ≤ most = rw e at fits in
    let more : k * (longer + k * size) ≤ k * ((step + size) + k * size) = mul-le-mul_left k (omega (arith, longest)) in
    omega (arith, near, same, more, suc-mul k ((step + size) + k * size))

-- a difference is no larger than the limit and the minimum together
small_difference : (code limit : ℕ) (minimum : ℤ) → code < limit → nat_abs (pos code +ℤ minimum) ≤ limit + nat_abs minimum
small_difference code limit minimum below = omega (arith, ints, below)

first_step : (difference last : ℤ) → nat_abs (difference +ℤ last) ≤ nat_abs last + nat_abs difference
first_step difference last = omega (arith, ints)

second_step : (difference before last : ℤ)
    → nat_abs ((difference +ℤ (pos 2 *ℤ last)) -ℤ before) ≤ nat_abs last + (nat_abs (last -ℤ before) + nat_abs difference)
second_step difference before last = omega (arith, ints)

longer_step : (difference before last : ℤ)
    → nat_abs (((difference +ℤ (pos 2 *ℤ last)) -ℤ before) -ℤ last) ≤ nat_abs (last -ℤ before) + nat_abs difference
longer_step difference before last = omega (arith, ints)

-- the next number is as near as all that follow
pub near : (last : ℤ) (size count most : ℕ) → reach_by last size count ≤ most → nat_abs last ≤ most
near last size count most fits = omega (arith, fits)

pub last_near : (order : ℕ) (before last : ℤ) (size count most : ℕ) → reach_of order before last size count ≤ most → nat_abs last ≤ most
last_near order before last size count most fits =
    elim (order == 1) as (λ t. cond t (reach_by last size count) (reach_by last (nat_abs (last -ℤ before) + count * size) count) ≤ most → nat_abs last ≤ most)
    [ true ↦ near last size count most | false ↦ near last (nat_abs (last -ℤ before) + count * size) count most ] fits

-- after one difference less, the others reach no farther
pub reach_less_by : (order k size : ℕ) (difference before last : ℤ) (most : ℕ) → nat_abs difference ≤ size
    → reach_of order before last size (suc k) ≤ most
    → reach_of order last (number_by order difference before last) size k ≤ most
reach_less_by order k size difference before last most small fits =
    let one = difference +ℤ last in
    let two = (difference +ℤ (pos 2 *ℤ last)) -ℤ before in
    elim (order == 1) as (λ t. cond t (reach_by last size (suc k)) (reach_by last (nat_abs (last -ℤ before) + suc k * size) (suc k)) ≤ most
    → cond t (reach_by (cond t one two) size k) (reach_by (cond t one two) (nat_abs (cond t one two -ℤ last) + k * size) k) ≤ most) [
      | true ↦ (λ h. step_less k (nat_abs last) (nat_abs one) size most (omega (arith, small, first_step difference last)) h)
      | false ↦ (λ h. longer_step_less k (nat_abs last) (nat_abs two) (nat_abs (last -ℤ before)) (nat_abs (two -ℤ last)) size most
          (omega (arith, small, second_step difference before last)) (omega (arith, small, longer_step difference before last)) h)
    ] fits

-- and after one code less
pub reach_less : (order k code limit : ℕ) (minimum before last : ℤ) (most : ℕ) → code < limit
    → reach_of order before last (limit + nat_abs minimum) (suc k) ≤ most
    → reach_of order last (number_by order (pos code +ℤ minimum) before last) (limit + nat_abs minimum) k ≤ most
reach_less order k code limit minimum before last most below fits =
    reach_less_by order k (limit + nat_abs minimum) (pos code +ℤ minimum) before last most (small_difference code limit minimum below) fits

-- fewer differences reach no farther
pub reach_fewer : (order k size : ℕ) (before last : ℤ) (most : ℕ) → reach_of order before last size (suc k) ≤ most → reach_of order before last size k ≤ most
reach_fewer order k size before last most fits =
    let step = nat_abs (last -ℤ before) in
    let longer : k * (step + k * size) ≤ k * (step + suc k * size) = mul-le-mul_left k (omega (arith, suc-mul k size)) in
    elim (order == 1) as (λ t. cond t (reach_by last size (suc k)) (reach_by last (step + suc k * size) (suc k)) ≤ most
    → cond t (reach_by last size k) (reach_by last (step + k * size) k) ≤ most) [
      | true ↦ (λ h. omega (arith, h, suc-mul k size))
      | false ↦ (λ h. omega (arith, h, longer, suc-mul k (step + suc k * size)))
    ] fits
