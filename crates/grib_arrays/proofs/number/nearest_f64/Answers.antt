use Rattle.std.proofs.Common.{T, not, from_bits, to_z-of_z, sym, ap, subst}
use lib.Ieee.{binary64, nan_bits}
use Rattle.grib_bits.specs.Bits.{bits_of, signed}
use Rattle.grib_dyadic.specs.Value.{value_of}
use Rattle.grib_nearest.specs.declared.format.Format.TheVariants.{Binary64}
use Rattle.grib_arrays.proofs.Finite.{not_nan}
use Rattle.grib_arrays.proofs.number.nearest_f64.Goals as goal

pub float_from_bits-result : goal.float_from_bits-result
float_from_bits-result c =
    let r = c.args.reference.now in
    let e = signed (bits_of 16 c.args.e) in
    let d = signed (bits_of 16 c.args.d) in
    let word = rw (to_z-of_z c.ranges.x) at (c.in_ok-word.ensures Binary64 r e d c.of-scale.ensures) in
    subst (λ w. T (not (nan_bits binary64 w))) (sym word) (not_nan (value_of r e d c.args.x))

pub returns : goal.returns
returns c =
    let r = c.args.reference.now in
    let e = signed (bits_of 16 c.args.e) in
    let d = signed (bits_of 16 c.args.d) in
    let word = rw (to_z-of_z c.ranges.x) at (c.in_ok-word.ensures Binary64 r e d c.of-scale.ensures) in
    ap (from_bits binary64) word
