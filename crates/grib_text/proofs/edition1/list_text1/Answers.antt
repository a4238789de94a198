use Rattle.std.proofs.Common.{◌≡◌, ◌∙◌}
use Rattle.std.proofs.lemmas.Result.{IfOk-weaker}
use Rattle.grib_text.specs.Lines.{origin_of}
use Rattle.grib_text.specs.Lines1.{time1_of, origin1_text, grid1_of, grid1_text, product1_of, packing1_of, packing1_text}
use Rattle.grib_text.proofs.Pieces1.{list_text1-pieces}
use Rattle.grib_text.proofs.edition1.list_text1.Goals as goal

pub returns : goal.returns
returns c =
    let m = c.args.message.now in
    let o = c.read-origin in
    let g = c.read-grid in
    let q = c.read-product.result in
    let k = c.read-packing in
    let t = o.result.time in
    let origin = origin_of o.result.centre (time1_of t.year t.month t.day t.hour t.minute) in
    let grid = grid1_of g.result.grid_type g.result.points in
    let product = product1_of q.version q.parameter q.unit q.range q.p1 q.p2 q.level_type q.level in
    let packing = packing1_of k.result.bits k.result.values in
    let origin_is : origin ≡ origin1_text m = rw (o.ensures.centre, o.ensures.time) in
    let grid_is : grid ≡ grid1_text m = rw (g.ensures.grid_type, g.ensures.points) in
    let packing_is : packing ≡ packing1_text m = rw (k.ensures.bits, k.ensures.values) in
    IfOk-weaker c.format.result _ _ (λ text is. is ∙ list_text1-pieces m c.args.number origin grid product packing origin_is grid_is c.read-product.ensures packing_is) c.format.ensures.ok
