use Rattle.std.proofs.Common.{rules, ◌≡◌, ℕ, ◌+◌, ◌-◌, ◌*◌, min, ◌^◌, ◌≤◌, ℤ, nat_abs, to_z-of_z, SFits, w64, ap, ◌∙◌, arith}
use Rattle.std.proofs.lemmas.Int.{ints}
use Rattle.std.proofs.lemmas.Bool.{leb-true}
use Rattle.grib_packing.specs.Groups.{codes_from}
use Rattle.grib_group_reading.specs.Table.{groups_in}
use Rattle.grib_group_reading.proofs.Taken.{length-codes_from}
use Rattle.grib_complex_reading.specs.Range.{reach}
use Rattle.grib_complex_reading.specs.Descriptors.{descriptors_in}
use Rattle.grib_complex_reading.proofs.Reach.{groups_near, stays_by as near_stays}
use Rattle.grib_complex_reading.proofs.range.stays_by.Goals as goal

pub returns : goal.returns
returns c = λ holds layout numbers.
    let told = c.args.told.now in
    let order = told.order in
    let d = descriptors_in told in
    let groups = groups_in c.args.table.now in
    let codes = codes_from layout groups numbers in
    let first : c.unsigned_abs.result ≡ nat_abs d.first = omega (arith, ints, c.unsigned_abs.ensures.value, c.requires.first) in
    let second : c.unsigned_abs-2.result ≡ nat_abs d.second = omega (arith, ints, c.unsigned_abs-2.ensures.value, c.requires.second) in
    let near = groups_near d.minimum layout groups numbers in
    let fits : SFits w64 told.minimum = search rules in
    let is_each : c.saturating_add-each.result ≡ min (c.unsigned_abs.result + c.unsigned_abs-2.result + min (reach d.minimum groups) (2 ^ 64 - 1)) (2 ^ 64 - 1) =
    omega (arith, c.saturating_add-each.ensures, c.reach.ensures, ap (λ (m : ℤ). reach m groups) (to_z-of_z fits)) in
    let is_more = c.saturating_mul.ensures ∙ ap (λ (n : ℕ). min (c.saturating_add-each.result * n) (2 ^ 64 - 1)) c.times.ensures in
    let small : c.saturating_add.result ≤ 2 ^ 60 = leb-true c.saturating_add.result (2 ^ 60) holds in
    near_stays d codes c.args.values (c.unsigned_abs.result + c.unsigned_abs-2.result) (reach d.minimum groups) c.saturating_add-each.result c.saturating_mul.result c.saturating_add.result
    c.requires.order (omega (arith, first, second)) (omega (arith, length-codes_from layout groups numbers, c.requires.values)) near is_each is_more c.saturating_add.ensures small c.requires.some
