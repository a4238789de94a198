use Rattle.std.proofs.Common.{◌≡◌, ℕ, ◌+◌, ◌*◌, ◌/◌, ◌^◌, ◌≤◌, inl, inr, ◌-ℤ◌, ◌+ℤ◌, pos, neg_ℤ, FitsSigned, to_z, of_z, to_z-of_z, sym, ap, subst, ◌∙◌, arith, rules}
use Rattle.std.specs.Int.{w32}
use Rattle.std.proofs.Math.Nat.{mul-pos, one-le-pow, mul_comm}
use Rattle.std.proofs.lemmas.Bool.{false≢true}
use Rattle.grib_decimal.specs.Decimal.{or_0}
use Rattle.grib_long.specs.Digits.{value}
use Rattle.grib_long.specs.Floor.{IsFloor}
use Rattle.grib_long.proofs.Floors.{floor_twice}
use Rattle.grib_nearest.proofs.Fractions.{leading_far, many_left}
use Rattle.grib_nearest.proofs.Words.{turned}
use Rattle.grib_nearest.proofs.exact.long_leading.Goals as goal
use Rattle.grib_nearest.proofs.exact.long_leading.Goals.{then-quotient, else-quotient}

enough : (down : ℕ) → 4 * down + 100 ≤ 32 * (down / 8 + 4)
enough down = omega arith

pub invariant_of-result : goal.invariant_of-result
invariant_of-result c =
    let n : ℕ = value c.args.number * 10 ^ c.args.up in
    let zeros : ℕ = c.args.down / 8 + 4 in
    let quotient = c.in_ok-quotient.quotient in
    let shifted : value c.in_ok-shifted.shifted ≡ n * 2 ^ (32 * zeros) = c.in_ok-shifted.ensures.value ∙ ap (λ k. k * 2 ^ (32 * zeros)) c.in_ok-times_tens.ensures.value in
    let floor : IsFloor (n * 2 ^ (32 * zeros)) (value quotient.whole) (10 ^ c.args.down) quotient.more =
    subst (λ k. IsFloor k (value quotient.whole) (10 ^ c.args.down) quotient.more) shifted c.in_ok-quotient.ensures.floor in
    let many = many_left n (value quotient.whole) zeros c.args.down quotient.more (mul-pos c.requires.some (one-le-pow c.args.up 10 (omega arith))) (enough c.args.down) floor in
    record {
      many = omega (arith, c.leading-first.ensures.many many);
      few = c.leading-first.ensures.few;
    }

pub returns : goal.returns
returns c a b split =
    let n : ℕ = value c.args.number * 10 ^ c.args.up in
    let zeros : ℕ = c.args.down / 8 + 4 in
    let e = c.args.exponent in
    let quotient = c.in_ok-quotient.quotient in
    let first = c.leading-first.result in
    let fits : FitsSigned w32 c.moved.result = search rules in
    let shifted : value c.in_ok-shifted.shifted ≡ n * 2 ^ (32 * zeros) = c.in_ok-shifted.ensures.value ∙ ap (λ k. k * 2 ^ (32 * zeros)) c.in_ok-times_tens.ensures.value in
    let floor : IsFloor (n * 2 ^ (32 * zeros)) (value quotient.whole) (10 ^ c.args.down) quotient.more =
    subst (λ k. IsFloor k (value quotient.whole) (10 ^ c.args.down) quotient.more) shifted c.in_ok-quotient.ensures.floor in
    let both : IsFloor (n * 2 ^ (32 * zeros)) first.steps (10 ^ c.args.down * 2 ^ first.exponent) c.if-quotient.result =
    floor_twice (n * 2 ^ (32 * zeros)) (value quotient.whole) first.steps (10 ^ c.args.down) (2 ^ first.exponent) quotient.more first.more c.if-quotient.result
    (one-le-pow c.args.down 10 (omega arith)) floor c.leading-first.ensures.floor
    (λ none. elim c.if-quotient.branch [
      | then-quotient w ↦ absurd (false≢true (sym none ∙ w.result-is ∙ w.if-quotient.true))
      | else-quotient w ↦ (w.if-quotient.false, sym w.result-is ∙ none)
    ])
    (λ some. elim c.if-quotient.branch [
      | then-quotient w ↦ inl w.if-quotient.true
      | else-quotient w ↦ inr (sym w.result-is ∙ some)
    ]) in
    let moved : to_z w32 (of_z w32 c.moved.result) ≡ e +ℤ pos first.exponent -ℤ pos (32 * zeros) =
    to_z-of_z fits ∙ c.moved.ensures ∙ ap (λ z. z +ℤ pos first.exponent -ℤ pos (32 * zeros)) (to_z-of_z c.ranges.exponent) in
    rw (← turned (value c.args.number) (2 ^ or_0 e) (10 ^ c.args.up), mul_comm (2 ^ or_0 (neg_ℤ e)) (10 ^ c.args.down))
    (leading_far n (10 ^ c.args.down) (32 * zeros) first.exponent first.steps c.if-quotient.result e _ moved both a b split)
