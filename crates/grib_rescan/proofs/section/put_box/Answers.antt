use Rattle.std.proofs.Common.{◌*◌, ◌≤◌, arith}
use Rattle.std.proofs.Math.Nat.{mul-le-mul, le-mul_of_pos_right, mul_comm}
use Rattle.grib_bits.specs.Octets.{octets}
use Rattle.grib_rescan.specs.Points.{width, height}
use Rattle.grib_rescan.proofs.section.put_box.Goals as goal

pub put_size-requires-clause-few : goal.put_size-requires-clause-few
put_size-requires-clause-few c =
    let area = c.args.area.now in
    let s = c.args.grid.now in
    let few : height area * width area ≤ octets s 35 38 * octets s 31 34 = mul-le-mul (omega arith) (omega arith) in
    omega (arith, few, mul_comm (octets s 35 38) (octets s 31 34), c.requires.grid.few)

pub put_size-requires-clause-few_columns : goal.put_size-requires-clause-few_columns
put_size-requires-clause-few_columns c =
    let s = c.args.grid.now in
    let few : octets s 31 34 ≤ octets s 31 34 * octets s 35 38 = le-mul_of_pos_right (octets s 31 34) (omega arith) in
    omega (arith, few, c.requires.grid.few)

pub put_size-requires-clause-few_rows : goal.put_size-requires-clause-few_rows
put_size-requires-clause-few_rows c =
    let s = c.args.grid.now in
    let few : octets s 35 38 ≤ octets s 35 38 * octets s 31 34 = le-mul_of_pos_right (octets s 35 38) (omega arith) in
    omega (arith, few, mul_comm (octets s 35 38) (octets s 31 34), c.requires.grid.few)
