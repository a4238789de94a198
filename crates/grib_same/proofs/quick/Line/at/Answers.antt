use Rattle.std.proofs.Common.{◌≡◌, FitsSigned, to_z, of_z, to_z-of_z, ◌∙◌, rules}
use Rattle.std.specs.Int.{w64, w128}
use Rattle.grib_same.proofs.Lines.{product_fits, line_fits}
use Rattle.grib_same.proofs.quick.Line.at.Goals as goal

pub returns : goal.returns
returns c =
    let line = c.args.self.now in
    let from : FitsSigned w128 c.from.result = search rules in
    let from' : FitsSigned w128 c.from-2.result = search rules in
    let stride_fits : FitsSigned w64 line.stride = search rules in
    let origin_fits : FitsSigned w128 line.origin = search rules in
    let x : to_z w128 (of_z w128 c.from.result) ≡ c.args.x = to_z-of_z from ∙ c.from.ensures ∙ to_z-of_z c.ranges.x in
    let stride : to_z w128 (of_z w128 c.from-2.result) ≡ line.stride = to_z-of_z from' ∙ c.from-2.ensures ∙ to_z-of_z stride_fits in
    let product = product_fits c.args.x line.stride c.ranges.x stride_fits in
    let sum = line_fits line.origin c.args.x line.stride line.origin_small c.ranges.x stride_fits in
    rw (x, stride, to_z-of_z product, to_z-of_z origin_fits) (to_z-of_z sum)
