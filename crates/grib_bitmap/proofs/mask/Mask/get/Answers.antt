use Rattle.std.proofs.Common.{◌/◌, ◌<◌, length, sym, ap, ◌∙◌, arith, slice_get}
use Rattle.std.proofs.lemmas.List.{get_or_read}
use Rattle.grib_bitmap.proofs.WordBits.{bit-mask, length-mask}
use Rattle.grib_bitmap.proofs.mask.Mask.get.Goals as goal

pub index-word-requires : goal.index-word-requires
index-word-requires c =
    let held = c.self.invariant in
    let long = length-mask c.self.inside.words.items c.self.inside.points held in
    omega (arith, long, ap length c.self.view_is, held.long, c.self.inside.words.ok.0)

pub returns : goal.returns
returns c =
    let words = c.self.inside.words.items in
    let held = c.self.invariant in
    let within : c.args.place < c.self.inside.points = omega (arith, length-mask words c.self.inside.points held, ap length c.self.view_is) in
    let inside : c.args.place / 64 < length words = omega (arith, held.long) in
    ap (λ xs. slice_get xs c.args.place) (sym c.self.view_is)
    ∙ bit-mask words c.self.inside.points c.args.place c.index-word.result.now held within (get_or_read words (c.args.place / 64) c.index-word.result.now inside c.index-word.ensures 0)
