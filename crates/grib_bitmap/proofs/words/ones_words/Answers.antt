use Rattle.std.proofs.Common.{arith}
use Rattle.grib_bitmap.specs.Words.{bits_of_words}
use Rattle.grib_bitmap.proofs.Made.{ones_more, ones_all}
use Rattle.grib_bitmap.proofs.words.ones_words.Goals as goal

pub loop-whole-preserved : goal.loop-whole-preserved
loop-whole-preserved c = ones_more c.loop-whole.words.items c.push.new.self.items c.loop-whole._whole c.in_ok-push.ensures.items c.loop-whole.invariant

pub returns : goal.returns
returns c =
    ones_all (bits_of_words c.loop-whole.words.items) (bits_of_words c.push_last.new.words.items) c.args.count c.loop-whole._whole (omega arith) c.loop-whole.invariant c.in_ok-push_last.ensures
