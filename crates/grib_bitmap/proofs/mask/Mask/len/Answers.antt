use Rattle.std.proofs.Common.{length, sym, ap, ◌∙◌}
use Rattle.grib_bitmap.proofs.WordBits.{length-mask}
use Rattle.grib_bitmap.proofs.mask.Mask.len.Goals as goal

pub returns : goal.returns
returns c = sym (length-mask c.self.inside.words.items c.self.inside.points c.self.invariant) ∙ ap length c.self.view_is
