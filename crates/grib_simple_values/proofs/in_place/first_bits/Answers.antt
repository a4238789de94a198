use Rattle.std.proofs.Common.{◌≡◌, ◌^◌, ◌≤◌, length, take, drop, arith, pow_mono}
use Rattle.std.proofs.lemmas.List.{length-drop, length-take-le}
use Rattle.grib_bits.specs.Bits.{bits}
use Rattle.grib_bits.proofs.OctetBits.{length-bits}
use Rattle.grib_bits.proofs.WordNumbers.{number-lt}
use Rattle.grib_simple_values.proofs.InPlace.{first_of_octet}
use Rattle.grib_simple_values.proofs.in_place.first_bits.Goals as goal

pub overflow_cast-result : goal.overflow_cast-result
overflow_cast-result c =
    let rest = drop c.args.at (bits c.args.octets.now) in
    let power : 2 ^ c.args.count ≤ 2 ^ 8 = pow_mono c.requires.few in
    omega (arith, c.get_bits-first.ensures, number-lt c.args.count rest, power)

pub returns : goal.returns
returns c =
    let rest = drop c.args.at (bits c.args.octets.now) in
    let long : length (take c.args.count rest) ≡ c.args.count =
    length-take-le c.args.count rest (omega (arith, c.requires.within, length-drop c.args.at (bits c.args.octets.now), length-bits c.args.octets.now)) in
    first_of_octet c.args.count c.get_bits-first.result (take c.args.count rest) c.requires.few long c.get_bits-first.ensures
