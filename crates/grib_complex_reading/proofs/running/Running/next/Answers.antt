use Rattle.std.proofs.Common.{◌≡◌, ◌∙◌, ap, arith, to_z, of_z, w64, pos, ◌+ℤ◌}
use Rattle.std.proofs.lemmas.Int.{ints}
use Rattle.grib_complex_reading.specs.Running.{number_by}
use Rattle.grib_complex_reading.specs.Follows.{last_of}
use Rattle.grib_packing.specs.Differences.{Descriptors, next_number}
use Rattle.grib_complex_reading.proofs.Following.{next_by}
use Rattle.grib_complex_reading.proofs.running.Running.next.Goals as goal

pub returns : goal.returns
returns c =
    let r = c.self.inside in
    let i = c.self.invariant in
    let number = c.number_after.result in
    let same : to_z w64 (of_z w64 number) ≡ number = omega (arith, ints) in
    let minimum : to_z w64 (of_z w64 r.minimum) ≡ r.minimum = omega (arith, ints, i.3) in
    let before : to_z w64 (of_z w64 r.before) ≡ r.before = omega (arith, ints, i.5) in
    let last : to_z w64 (of_z w64 r.last) ≡ r.last = omega (arith, ints, i.6) in
    let all : r.order ≡ r.told = omega (arith, i.4, c.if-self.false) in
    let told : Descriptors = record { order = r.order; first = r.first; second = r.second; minimum = r.minimum } in
    let is : number ≡ number_by r.order (pos c.args.code +ℤ r.minimum) r.before r.last = rw (minimum, before, last) at c.number_after.ensures in
    let next : number ≡ next_number told (last_of r.order r.before r.last) c.args.code = is ∙ next_by told r.before r.last c.args.code i.0 in
    rw (← c.self.view_is) (same ∙ (next ∙ ap (λ n. next_number told (last_of n r.before r.last) c.args.code) all))
