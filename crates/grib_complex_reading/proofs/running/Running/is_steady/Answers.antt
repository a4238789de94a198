use Rattle.std.proofs.Common.{◌≡◌, ◌+◌, ◌^◌, ◌≤◌, nat_abs, subst, arith, to_z, of_z, w64}
use Rattle.std.proofs.lemmas.Int.{ints}
use Rattle.grib_packing.specs.Differences.{Descriptors}
use Rattle.grib_complex_reading.specs.Follows.{last_of}
use Rattle.grib_complex_reading.specs.Reach.{reach_of, IsSteadyAfter}
use Rattle.grib_complex_reading.proofs.Steadily.{is_steady}
use Rattle.grib_complex_reading.proofs.running.Running.is_steady.Goals as goal

pub returns-in-Some : goal.returns-in-Some
returns-in-Some c within =
    let r = c.self.inside in
    let i = c.self.invariant in
    let before : to_z w64 (of_z w64 r.before) ≡ r.before = omega (arith, ints, i.5) in
    let last : to_z w64 (of_z w64 r.last) ≡ r.last = omega (arith, ints, i.6) in
    let minimum : to_z w64 (of_z w64 r.minimum) ≡ r.minimum = omega (arith, ints, i.3) in
    let size : c.args.limit + c.unsigned_abs.result ≡ c.args.limit + nat_abs r.minimum = omega (arith, ints, minimum, c.unsigned_abs.ensures.value) in
    let is : c.in-Some.reach ≡ reach_of r.order r.before r.last (c.args.limit + nat_abs r.minimum) c.args.count = rw (before, last, size) at c.in-Some.ensures in
    let all : r.order ≡ r.told = omega (arith, i.4, c.if-self.false) in
    let near : c.in-Some.reach ≤ 2 ^ 60 = grind (arith, within) in
    let fits : reach_of r.order r.before r.last (c.args.limit + nat_abs r.minimum) c.args.count ≤ 2 ^ 60 = rw is at near in
    let told : Descriptors = record { order = r.order; first = r.first; second = r.second; minimum = r.minimum } in
    rw (← c.self.view_is) (subst (λ n. IsSteadyAfter told (last_of n r.before r.last) c.args.count c.args.limit) all (is_steady told r.before r.last c.args.count c.args.limit i.0 fits))
