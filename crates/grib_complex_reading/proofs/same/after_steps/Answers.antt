use Rattle.std.proofs.Common.{◌≡◌, ◌≤◌, ◌^◌, ◌∙◌, cond, ◌==◌, pos, ◌-ℤ◌, nat_abs, arith, to_z, of_z, w64, SFits, to_z-of_z, rules}
use Rattle.std.proofs.lemmas.Int.{ints}
use Rattle.grib_complex_reading.specs.Same.{moved_by}
use Rattle.grib_complex_reading.proofs.RunReach.{last_near}
use Rattle.grib_complex_reading.proofs.same.after_steps.Goals as goal

pub returns-else-order-eq1-clause-number : goal.returns-else-order-eq1-clause-number
returns-else-order-eq1-clause-number c =
    let order = c.args.order in
    let step : cond (order == 1) c.args.difference (c.args.last -ℤ c.args.before) ≡ c.args.last -ℤ c.args.before = grind (arith, c.if-order-eq1.false) in
    let growth : cond (order == 1) (pos 0) c.args.difference ≡ c.args.difference = grind (arith, c.if-order-eq1.false) in
    let fits : SFits w64 c.moved-else-order-eq1.result = search rules in
    let far : nat_abs c.args.last ≤ 2 ^ 60 = last_near order c.args.before c.args.last (nat_abs c.args.difference) c.args.count (2 ^ 60) c.requires.near in
    let last = to_z-of_z c.ranges.last in
    let before = to_z-of_z c.ranges.before in
    let difference = to_z-of_z c.ranges.difference in
    let between : to_z w64 (of_z w64 (c.args.last -ℤ c.args.before)) ≡ c.args.last -ℤ c.args.before = omega (arith, ints, far, c.requires.before) in
    let is : c.moved-else-order-eq1.result ≡ moved_by c.args.last (c.args.last -ℤ c.args.before) c.args.difference c.args.count =
    rw (last, before, difference, between) at c.moved-else-order-eq1.ensures.number in
    rw (step, growth) (to_z-of_z fits ∙ is)
