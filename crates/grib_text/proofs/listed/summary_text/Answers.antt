use Rattle.std.proofs.Common.{◌≡◌, option_map, ◌∙◌}
use Rattle.std.proofs.lemmas.Result.{IfOk-weaker}
use Rattle.grib_text.specs.Lines.{time_of, time_text, surface_of, parameter_of, origin_of, grid_of, instant_of, product_of, known_bits, packing_of}
use Rattle.grib_text.proofs.Pieces.{summary_text-pieces}
use Rattle.grib_text.proofs.listed.summary_text.Goals as goal

pub returns : goal.returns
returns c =
    let s = c.args.summary.now in
    let o = c.of-origin in
    let g = c.of-grid in
    let p = c.of-product in
    let k = c.of-packing in
    let t = o.result.time in
    let q = p.result.parameter in
    let origin = origin_of o.result.centre (time_of t.year t.month t.day t.hour t.minute t.second) in
    let grid = grid_of g.result.template g.result.points in
    let parameter = parameter_of q.discipline q.category q.number in
    let product = product_of p.result.template parameter (option_map (λ i. instant_of i.unit i.ahead (surface_of i.surface.kind.0 i.surface.scale.0 i.surface.value.0)) p.result.instant) in
    let packing = packing_of k.result.template k.result.bits k.result.values in
    let origin_is : origin ≡ origin_of s.identification.centre (time_text s.identification) = rw (o.ensures.centre, o.ensures.time) in
    let grid_is : grid ≡ grid_of s.grid s.points = rw (g.ensures.template, g.ensures.points) in
    let packing_is : packing ≡ packing_of s.packing (known_bits s) s.values = rw (k.ensures.template, k.ensures.bits, k.ensures.values) in
    IfOk-weaker c.format.result _ _ (λ text is. is ∙ summary_text-pieces c.args.number c.args.field s origin grid product packing origin_is grid_is p.ensures packing_is) c.format.ensures.ok
