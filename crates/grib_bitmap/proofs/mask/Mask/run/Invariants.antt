use Rattle.std.proofs.Common.{◌≡◌, ◌-◌, ◌≤◌, ◌++◌, drop, replicate}
use Rattle.grib_bitmap.specs.Words.{bits_of_words}
use Rattle.grib_bitmap.proofs.mask.Mask.run.Given as goal

abbrev pub invariant-loop-end : goal.invariant-loop-end
invariant-loop-end l =
    let bits = bits_of_words l.self-inside.words.items in
    record {
      begun : l.from ≤ l.end;
      same : drop l.from bits ≡ replicate (l.end - l.from) l.present ++ drop l.end bits;
    }

abbrev pub decreases-loop-end : goal.decreases-loop-end
decreases-loop-end l = l.self-inside.points - l.end
