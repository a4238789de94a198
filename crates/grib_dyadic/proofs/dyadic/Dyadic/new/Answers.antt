use Rattle.std.proofs.Common.{◌<◌, ◌%◌, ◌∙◌, ap, inl, arith}
use Rattle.std.proofs.lemmas.Int.{ints}
use Rattle.grib_dyadic.proofs.Lengths.{without_zeros}
use Rattle.grib_dyadic.proofs.Signs.{nat_abs-signed, without_zeros-number, without_zeros-odd}
use Rattle.grib_dyadic.proofs.dyadic.Dyadic.new.Goals as goal

pub invariant_of-result-2 : goal.invariant_of-result-2
invariant_of-result-2 c =
    inl (without_zeros-odd c.args.magnitude _ (omega arith) c.ranges.magnitude.fits c.from.ensures)

pub returns-clause-number : goal.returns-clause-number
returns-clause-number c =
    let some : 0 < c.args.magnitude = omega arith in
    let zeros = (without_zeros c.args.magnitude some c.ranges.magnitude.fits).0 in
    without_zeros-number c.args.negative c.args.magnitude c.from.result _ c.args.exponent some c.ranges.magnitude.fits c.from.ensures (omega (arith, ints))

pub returns-clause-reduced : goal.returns-clause-reduced
returns-clause-reduced c =
    inl (ap (λ n. n % 2) (nat_abs-signed c.args.negative c.from.result) ∙ without_zeros-odd c.args.magnitude _ (omega arith) c.ranges.magnitude.fits c.from.ensures)
