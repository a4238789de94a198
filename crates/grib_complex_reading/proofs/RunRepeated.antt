-- Lemmas on codes that are the same.
use Rattle.std.proofs.Common.{◌≡◌, ℕ, zero, suc, inl, inr, ◌+◌, ◌*◌, ◌/◌, ◌^◌, ◌≤◌, false, ℤ, pos, negsuc, ◌+ℤ◌, ◌-ℤ◌, ◌*ℤ◌, nat_abs, refl, sym, ap, ap₂, ◌∙◌, subst, arith, add-mul, le-ltb}
use Rattle.std.proofs.Math.Nat.{mul-le-mul_left, mul-le-mul_right}
use Rattle.std.proofs.lemmas.Int.{ints}
use Rattle.grib_packing.specs.Differences.{Descriptors, Last, One, Two, is_beyond, last_after}
use Rattle.grib_complex_reading.specs.Follows.{last_of}
use Rattle.grib_complex_reading.specs.Order.{IsOrder}
use Rattle.grib_complex_reading.specs.Reach.{reach_of}
use Rattle.grib_complex_reading.specs.Running.{Run, after_code, number_by}
use Rattle.grib_complex_reading.specs.Same.{StaysWithin, after_same, growth_of, moved_by, number_after, step_of}
use Rattle.grib_complex_reading.proofs.Following.{after_by, next_by}
use Rattle.grib_complex_reading.proofs.RunReach.{last_near, reach_less_by}

-- ---- one part after another

pub after_same-add : (run : Run) (code m n : ℕ) → after_same run code (m + n) ≡ after_same (after_same run code m) code n
after_same-add run code zero n = let e : 0 + n ≡ n = omega arith in ap (after_same run code) e
after_same-add run code (suc m) n =
    let e : suc m + n ≡ suc (m + n) = omega arith in
    ap (after_same run code) e ∙ after_same-add (after_code run code) code m n

pub stays-add : (run : Run) (code m n : ℕ) → StaysWithin run code m → StaysWithin (after_same run code m) code n → StaysWithin run code (m + n)
stays-add run code zero n first second = let e : n ≡ 0 + n = omega arith in subst (λ (k : ℕ). StaysWithin run code k) e second
stays-add run code (suc m) n first second =
    let e : suc (m + n) ≡ suc m + n = omega arith in
    subst (λ (k : ℕ). StaysWithin run code k) e (first.0, stays-add (after_code run code) code m n first.1 second)

-- ---- products

times-add : (m n : ℕ) (z : ℤ) → pos (m + n) *ℤ z ≡ (pos m *ℤ z) +ℤ (pos n *ℤ z)
times-add m n (pos k) = ap pos (add-mul m n k)
times-add m n (negsuc k) = omega (arith, ints, add-mul m n (suc k))

times-zero : (z : ℤ) → pos 0 *ℤ z ≡ pos 0
times-zero (pos k) = omega (arith, ints)
times-zero (negsuc k) = omega (arith, ints)

times-one : (z : ℤ) → pos 1 *ℤ z ≡ z
times-one (pos k) = omega (arith, ints)
times-one (negsuc k) = omega (arith, ints)

pairs_next : (n : ℕ) → suc n * (suc n + 1) / 2 ≡ n * (n + 1) / 2 + suc n
pairs_next n =
    let e : suc n * (suc n + 1) ≡ n * (n + 1) + suc n * 2 = grind arith in
    omega (arith, e)

moved_zero : (last step growth : ℤ) → moved_by last step growth 0 ≡ last
moved_zero last step growth = omega (arith, ints, times-zero step, times-zero growth)

-- one step more
moved_next : (last step growth : ℤ) (n : ℕ) → moved_by last step growth (suc n) ≡ moved_by last step growth n +ℤ (step +ℤ (pos (suc n) *ℤ growth))
moved_next last step growth n =
    let one : suc n ≡ n + 1 = omega arith in
    let steps : pos (suc n) *ℤ step ≡ (pos n *ℤ step) +ℤ step = ap (λ (k : ℕ). pos k *ℤ step) one ∙ times-add n 1 step ∙ ap (λ (z : ℤ). (pos n *ℤ step) +ℤ z) (times-one step) in
    let pairs : pos (suc n * (suc n + 1) / 2) *ℤ growth ≡ (pos (n * (n + 1) / 2) *ℤ growth) +ℤ (pos (suc n) *ℤ growth) =
    ap (λ (k : ℕ). pos k *ℤ growth) (pairs_next n) ∙ times-add (n * (n + 1) / 2) (suc n) growth in
    ap₂ (λ (a b : ℤ). (last +ℤ a) +ℤ b) steps pairs ∙ omega (arith, ints)

-- ---- how far a number moves

abs_times : (n : ℕ) (z : ℤ) → nat_abs (pos n *ℤ z) ≡ n * nat_abs z
abs_times n (pos k) = refl
abs_times n (negsuc k) = omega (arith, ints)

few_pairs : (n : ℕ) → n * (n + 1) / 2 ≤ n * n
few_pairs zero = omega arith
few_pairs (suc n) =
    let e : suc n * (suc n + 1) ≡ suc n * suc n + suc n = grind arith in
    let some : suc n * 1 ≤ suc n * suc n = mul-le-mul_left (suc n) (omega arith) in
    omega (arith, e, some)

-- the products of a number that is moved
pub record AreNear (last step growth : ℤ) (n most : ℕ) : Type 0 where
  pub steps : nat_abs (pos n *ℤ step) ≤ most
  pub growths : nat_abs (pos (n * (n + 1) / 2) *ℤ growth) ≤ most
  pub all : nat_abs last + nat_abs (pos n *ℤ step) + nat_abs (pos (n * (n + 1) / 2) *ℤ growth) ≤ most

pub are_near : (last step growth : ℤ) (n most : ℕ) → nat_abs last + n * (nat_abs step + n * nat_abs growth) ≤ most → AreNear last step growth n most
are_near last step growth n most fits =
    let pairs : n * (n + 1) / 2 * nat_abs growth ≤ n * n * nat_abs growth = mul-le-mul_right (nat_abs growth) (few_pairs n) in
    let parts : n * (nat_abs step + n * nat_abs growth) ≡ n * nat_abs step + n * n * nat_abs growth = grind arith in
    let first = abs_times n step in
    let second = abs_times (n * (n + 1) / 2) growth in
    record {
      steps = omega (arith, first, parts, fits);
      growths = omega (arith, second, pairs, parts, fits);
      all = omega (arith, first, second, pairs, parts, fits);
    }

-- ---- differences that are all the same

abbrev run_at : Descriptors → ℤ → ℤ → Run
run_at d before last = record { told = d; last = last_of d.order before last }

-- the number before the one after some of them
abbrev number_before : ℕ → ℤ → ℤ → ℤ → ℕ → ℤ
number_before order before last difference n =
    number_after order before last difference n -ℤ (step_of order before last difference +ℤ (pos n *ℤ growth_of order difference))

next_1 : (last difference : ℤ) (n : ℕ) → difference +ℤ moved_by last difference (pos 0) n ≡ moved_by last difference (pos 0) (suc n)
next_1 last difference n =
    let none : pos (suc n) *ℤ pos 0 ≡ pos 0 = let e : suc n * 0 ≡ 0 = omega arith in ap pos e in
    omega (arith, ints, moved_next last difference (pos 0) n, none)

next_2 : (before last difference : ℤ) (n : ℕ)
    → let at = moved_by last (last -ℤ before) difference n in
    (difference +ℤ (pos 2 *ℤ at)) -ℤ (at -ℤ ((last -ℤ before) +ℤ (pos n *ℤ difference))) ≡ moved_by last (last -ℤ before) difference (suc n)
next_2 before last difference n =
    let one : suc n ≡ n + 1 = omega arith in
    let more : pos (suc n) *ℤ difference ≡ (pos n *ℤ difference) +ℤ difference = ap (λ (k : ℕ). pos k *ℤ difference) one ∙ times-add n 1 difference ∙ ap (λ (z : ℤ). (pos n *ℤ difference) +ℤ z) (times-one difference) in
    omega (arith, ints, moved_next last (last -ℤ before) difference n, more)

next_number_is : (order : ℕ) (before last difference : ℤ) (n : ℕ) → IsOrder order
    → number_by order difference (number_before order before last difference n) (number_after order before last difference n) ≡ number_after order before last difference (suc n)
next_number_is order before last difference n (inl one) = rw one (next_1 last difference n)
next_number_is order before last difference n (inr two) = rw two (next_2 before last difference n)

first_is : (order : ℕ) (before last difference : ℤ) → IsOrder order
    → last_of order before last ≡ last_of order (number_before order before last difference 0) (number_after order before last difference 0)
first_is order before last difference (inl one) = rw one (ap One (sym (moved_zero last difference (pos 0))))
first_is order before last difference (inr two) =
    let none = moved_zero last (last -ℤ before) difference in
    rw two (ap₂ Two (omega (arith, ints, none, times-zero difference)) (sym none))

module _ (d : Descriptors) (code : ℕ) (orders : IsOrder d.order) where
  after_run : (before last : ℤ) → after_code (run_at d before last) code ≡ run_at d last (number_by d.order (pos code +ℤ d.minimum) before last)
  after_run before last =
      ap (λ (l : Last). let r : Run = record { told = d; last = l } in r)
      (ap (last_after d (last_of d.order before last)) (sym (next_by d before last code orders)) ∙ sym (after_by d before last (number_by d.order (pos code +ℤ d.minimum) before last) orders))

  module _ (before last : ℤ) where
    abbrev difference : ℤ
    difference = pos code +ℤ d.minimum

    one_more : (n : ℕ) → after_code (run_at d (number_before d.order before last difference n) (number_after d.order before last difference n)) code
        ≡ run_at d (number_after d.order before last difference n) (number_after d.order before last difference (suc n))
    one_more n =
        after_run (number_before d.order before last difference n) (number_after d.order before last difference n)
        ∙ ap (run_at d (number_after d.order before last difference n)) (next_number_is d.order before last difference n orders)

    on_by : (n : ℕ) → after_same (run_at d before last) code (suc n) ≡ after_code (after_same (run_at d before last) code n) code
    on_by n = let one : suc n ≡ n + 1 = omega arith in ap (after_same (run_at d before last) code) one ∙ after_same-add (run_at d before last) code n 1

    walked : (n : ℕ) → after_same (run_at d before last) code n ≡ run_at d (number_before d.order before last difference n) (number_after d.order before last difference n)
    walked zero = ap (λ (l : Last). let r : Run = record { told = d; last = l } in r) (first_is d.order before last difference orders)
    walked (suc n) =
        let same : number_after d.order before last difference n ≡ number_before d.order before last difference (suc n) =
        omega (arith, ints, moved_next last (step_of d.order before last difference) (growth_of d.order difference) n) in
        on_by n ∙ ap (λ (r : Run). after_code r code) (walked n) ∙ one_more n
        ∙ ap (λ (b : ℤ). run_at d b (number_after d.order before last difference (suc n))) same

    -- the last two numbers
    pub walked_on : (n : ℕ) → after_same (run_at d before last) code (suc n) ≡ run_at d (number_after d.order before last difference n) (number_after d.order before last difference (suc n))
    walked_on n = on_by n ∙ ap (λ (r : Run). after_code r code) (walked n) ∙ one_more n

  -- none is out of range
  pub stays_near : (before last : ℤ) (count : ℕ) → reach_of d.order before last (nat_abs (pos code +ℤ d.minimum)) count ≤ 2 ^ 60 → StaysWithin (run_at d before last) code count
  stays_near before last zero fits = tt
  stays_near before last (suc n) fits =
      let moves = pos code +ℤ d.minimum in
      let number = number_by d.order moves before last in
      let reach = reach_less_by d.order n (nat_abs moves) moves before last (2 ^ 60) (omega arith) fits in
      let near = last_near d.order last number (nat_abs moves) n (2 ^ 60) reach in
      let within : is_beyond number ≡ false = le-ltb (2 ^ 60) (nat_abs number) near in (
        ap is_beyond (sym (next_by d before last code orders)) ∙ within,
        subst (λ (r : Run). StaysWithin r code n) (sym (after_run before last)) (stays_near last number n reach),
      )
