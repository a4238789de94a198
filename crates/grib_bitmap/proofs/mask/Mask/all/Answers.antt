use Rattle.std.proofs.Common.{replicate, true, arith}
use Rattle.std.proofs.lemmas.List.{length-replicate}
use Rattle.grib_bitmap.proofs.WordBits.{HoldBits-made}
use Rattle.grib_bitmap.proofs.mask.Mask.all.Goals as goal

pub invariant_of-result : goal.invariant_of-result
invariant_of-result c =
    HoldBits-made c.in_ok-words.words.items (replicate c.args.points true) c.args.points c.in_ok-words.ensures (length-replicate c.args.points true) (omega arith)
