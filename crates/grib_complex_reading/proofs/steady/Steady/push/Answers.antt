use Rattle.std.proofs.Common.{◌≡◌, ◌<◌, ◌≤◌, ◌+◌, ◌-◌, ◌^◌, suc, ◌∙◌, ap, sym, nat_abs, false, pos, ◌+ℤ◌, arith, to_z, of_z, w64}
use Rattle.std.proofs.lemmas.Int.{ints}
use Rattle.grib_packing.specs.Differences.{Descriptors, is_beyond}
use Rattle.grib_complex_reading.specs.Running.{number_by}
use Rattle.grib_complex_reading.specs.Reach.{reach_of}
use Rattle.grib_complex_reading.proofs.Following.{next_by}
use Rattle.grib_complex_reading.proofs.RunReach.{last_near, reach_less}
use Rattle.grib_complex_reading.proofs.steady.Steady.push.Goals as goal
use Rattle.grib_complex_reading.proofs.steady.Steady.push.Goals.{After-number_after-number}

-- the number by the fields, and the reach that it leaves to the other codes
record Left (c : After-number_after-number) : Type 0 where
  number : to_z w64 (of_z w64 c.number_after-number.result) ≡ c.number_after-number.result
  last : to_z w64 (of_z w64 c.self.inside.last) ≡ c.self.inside.last
  is : c.number_after-number.result ≡ number_by c.self.inside.order (pos c.args.code +ℤ c.self.inside.minimum) c.self.inside.before c.self.inside.last
  far : nat_abs c.self.inside.last ≤ 2 ^ 60
  reach : reach_of c.self.inside.order c.self.inside.last c.number_after-number.result (c.self.inside.limit + nat_abs c.self.inside.minimum) (c.self.inside.left - 1) ≤ 2 ^ 60

left : (c : After-number_after-number) → Left c
left c =
    let s = c.self.inside in
    let i = c.self.invariant in
    let size = s.limit + nat_abs s.minimum in
    let below : c.args.code < s.limit = omega (arith, c.requires.code, ap (λ t. t.limit) c.self.view_is) in
    let some : s.left ≡ suc (s.left - 1) = omega (arith, c.requires.some, ap (λ t. t.left) c.self.view_is) in
    let all : reach_of s.order s.before s.last size (suc (s.left - 1)) ≤ 2 ^ 60 = rw (← some) i.6 in
    let far : nat_abs s.last ≤ 2 ^ 60 = last_near s.order s.before s.last size s.left (2 ^ 60) i.6 in
    let minimum : to_z w64 (of_z w64 s.minimum) ≡ s.minimum = omega (arith, ints, i.3) in
    let before : to_z w64 (of_z w64 s.before) ≡ s.before = omega (arith, ints, i.5) in
    let last : to_z w64 (of_z w64 s.last) ≡ s.last = omega (arith, ints, far) in
    let is : c.number_after-number.result ≡ number_by s.order (pos c.args.code +ℤ s.minimum) s.before s.last = rw (minimum, before, last) at c.number_after-number.ensures in
    record {
      number = omega (arith, ints);
      last = last;
      is = is;
      far = far;
      reach = rw is (reach_less s.order (s.left - 1) c.args.code s.limit s.minimum s.before s.last (2 ^ 60) below all);
    }

pub invariant_of-self : goal.invariant_of-self
invariant_of-self c =
    let i = c.self.invariant in
    let l = left (goal.at.invariant_of-self c).After-number_after-number in
    rw (l.number, l.last) (i.0, i.1, i.2, i.3, i.4, l.far, l.reach)

pub returns-clause-within : goal.returns-clause-within
returns-clause-within c =
    let s = c.self.inside in
    let l = left (goal.at.returns-clause-within c).After-number_after-number in
    let told : Descriptors = record { order = s.order; first = s.first; second = s.second; minimum = s.minimum } in
    let next = l.is ∙ next_by told s.before s.last c.args.code c.self.invariant.0 in
    let near : nat_abs c.number_after-number.result ≤ 2 ^ 60 = last_near s.order s.last c.number_after-number.result (s.limit + nat_abs s.minimum) (s.left - 1) (2 ^ 60) l.reach in
    let within : is_beyond c.number_after-number.result ≡ false = grind (arith, near) in
    rw (← c.self.view_is) (ap is_beyond (sym next) ∙ within)
