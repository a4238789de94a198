use Rattle.std.proofs.Common.{◌≤◌, ◌^◌, nat_abs, FitsSigned, to_z-of_z, ap, arith, rules}
use Rattle.std.specs.Int.{w64}
use Rattle.grib_decimal.proofs.Sums.{product_fits, sum_fits, sum_small, sum_times}
use Rattle.grib_decimal.proofs.quick.Quick.numerator.Goals as goal

pub overflow_mul-result : goal.overflow_mul-result
overflow_mul-result c =
    let q = c.args.self.now in
    let fits : FitsSigned w64 q.stride = search rules in
    let few : nat_abs c.args.x ≤ q.most = omega (arith, ap nat_abs (to_z-of_z c.ranges.x)) in
    rw (to_z-of_z c.ranges.x, to_z-of_z fits) (product_fits q.origin q.stride c.args.x q.most q.within few)

pub overflow_add-result : goal.overflow_add-result
overflow_add-result c =
    let q = c.args.self.now in
    let fits : FitsSigned w64 q.stride = search rules in
    let fits' : FitsSigned w64 q.origin = search rules in
    let few : nat_abs c.args.x ≤ q.most = omega (arith, ap nat_abs (to_z-of_z c.ranges.x)) in
    rw (to_z-of_z c.ranges.x, to_z-of_z fits, to_z-of_z fits', to_z-of_z (product_fits q.origin q.stride c.args.x q.most q.within few)) (sum_fits q.origin q.stride c.args.x q.most q.within few)

pub returns-clause-exact : goal.returns-clause-exact
returns-clause-exact c base shift factor divisor is =
    let q = c.args.self.now in
    let fits : FitsSigned w64 q.stride = search rules in
    let fits' : FitsSigned w64 q.origin = search rules in
    let few : nat_abs c.args.x ≤ q.most = omega (arith, ap nat_abs (to_z-of_z c.ranges.x)) in
    rw (to_z-of_z c.ranges.x, to_z-of_z fits, to_z-of_z fits', to_z-of_z (product_fits q.origin q.stride c.args.x q.most q.within few), to_z-of_z (sum_fits q.origin q.stride c.args.x q.most q.within few)) (sum_times base c.args.x q.origin q.stride (2 ^ nat_abs shift) factor is.origin_is is.stride_is)

pub returns-clause-small : goal.returns-clause-small
returns-clause-small c =
    let q = c.args.self.now in
    let fits : FitsSigned w64 q.stride = search rules in
    let fits' : FitsSigned w64 q.origin = search rules in
    let few : nat_abs c.args.x ≤ q.most = omega (arith, ap nat_abs (to_z-of_z c.ranges.x)) in
    rw (to_z-of_z c.ranges.x, to_z-of_z fits, to_z-of_z fits', to_z-of_z (product_fits q.origin q.stride c.args.x q.most q.within few), to_z-of_z (sum_fits q.origin q.stride c.args.x q.most q.within few)) (sum_small q.origin q.stride c.args.x q.most q.within few)
