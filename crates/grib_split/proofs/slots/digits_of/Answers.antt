use Rattle.std.proofs.Common.{◌≡◌, ℕ, suc, ◌+◌, ◌-◌, ◌*◌, ◌^◌, ◌<◌, ◌≤◌, ap, sym, subst, arith}
use Rattle.std.proofs.Math.Nat.{pow-suc, pow-le-pow_right}
use Rattle.std.proofs.lemmas.Nat.{leading_top}
use Rattle.std.specs.Int.Count.{count_leading_zeros}
use Rattle.grib_packing.specs.Groupings.{digits}
use Rattle.grib_packing.proofs.Digits.{digits-is}
use Rattle.grib_split.proofs.slots.digits_of.Goals as goal

-- what is known of the digits of a number
record Digits (number bits : ℕ) : Type 0 where
  is : bits ≡ digits number
  few : bits ≤ 32
  below : number < 2 ^ bits

half_below : (number top : ℕ) → 2 * number + 1 < 2 ^ suc top → number < 2 ^ top
half_below number top below = omega (arith, below, pow-suc 2 top)

half_above : (number top : ℕ) → 2 ^ top ≤ 2 * number + 1 → 1 ≤ top → 2 ^ (top - 1) ≤ number
half_above number top above some =
    let e : top ≡ suc (top - 1) = omega arith in
    let twice : 2 ^ top ≡ 2 ^ suc (top - 1) = ap (λ n. 2 ^ n) e in
    omega (arith, above, twice, pow-suc 2 (top - 1))

at_most_32 : (number top : ℕ) → number < 2 ^ 32 → 2 ^ top ≤ 2 * number + 1 → top ≤ 32
at_most_32 number top small above = omega (arith, clash)
  where
    clash : 32 < top → ⊥
    clash more = let high : 2 ^ 33 ≤ 2 ^ top = pow-le-pow_right (omega arith) more in omega (arith, high)

digits_by : (number bits : ℕ) → number < 2 ^ 32 → bits ≡ 63 - count_leading_zeros 64 (2 * number + 1) → Digits number bits
digits_by number bits small is =
    let t = leading_top 64 (2 * number + 1) (omega arith) (omega arith) in
    let top = t.0 in
    let same : bits ≡ top = omega (arith, is, t.1) in
    let P : ℕ → Type 0 = λ n. Digits number n in
    subst P (sym same) (record {
      is = sym (digits-is number top (omega (arith, at_most_32 number top small t.2)) (half_below number top t.3) (half_above number top t.2));
      few = at_most_32 number top small t.2;
      below = half_below number top t.3;
    })

digits_here : (c : goal.After-from-2) → Digits (c.args.number + c.args.more) (63 - count_leading_zeros 64 (2 * c.from.result + (2 * c.from-2.result + 1)))
digits_here c =
    let twice : 2 * c.from.result + (2 * c.from-2.result + 1) ≡ 2 * (c.args.number + c.args.more) + 1 = omega (arith, c.from.ensures, c.from-2.ensures) in
    digits_by (c.args.number + c.args.more) _ (omega (arith, c.requires)) (ap (λ n. 63 - count_leading_zeros 64 n) twice)

pub returns-clause-is : goal.returns-clause-is
returns-clause-is c = (digits_here c).is

pub returns-clause-few : goal.returns-clause-few
returns-clause-few c = (digits_here c).few

pub returns-clause-below : goal.returns-clause-below
returns-clause-below c = (digits_here c).below
