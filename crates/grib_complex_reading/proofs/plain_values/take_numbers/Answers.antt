use Rattle.std.proofs.Common.{◌^◌, ◌*◌, ◌≤◌, List, [], length, arith, pow_mono, subst}
use Rattle.grib_bits.specs.Bits.{bits}
use Rattle.grib_packing.specs.declared.column.Point.{Point}
use Rattle.grib_packing.specs.Groups.{packed_bits}
use Rattle.grib_group_reading.specs.Feeding.{no_marks, plain_groups}
use Rattle.grib_group_reading.proofs.Pieces.{plain_packed}
use Rattle.grib_complex_reading.specs.declared.values.PlainValues.{PlainValues}
use Rattle.grib_complex_reading.proofs.Starting.{plain_told}
use Rattle.grib_complex_reading.proofs.plain_values.take_numbers.Goals as goal

pub list-requires-clause-limit : goal.list-requires-clause-limit
list-requires-clause-limit g c =
    let power : 2 ^ c.args.bits ≤ 2 ^ 48 = pow_mono c.requires.width in
    omega arith

pub returns : goal.returns
returns g c =
    let w = c.args.bits in
    let n = c.args.count in
    let octets = c.args.octets.now in
    let groups = plain_groups w n in
    let first : PlainValues _ = record { keeper = c.args.keeper } in
    let enough : packed_bits groups ≤ 8 * length octets = omega (arith, plain_packed w n, c.requires.within) in
    subst (λ (ps : List Point). g.K.Keeper.kept c.args.keeper ps c.finish.result.keeper) (plain_told w n (bits octets))
    (c.finish.ensures.took no_marks groups first octets (c.push.ensures.fed no_marks groups first [] c.list.ensures.fed) enough)
