use Rattle.grib_bits.proofs.Listed.{one_more}
use Rattle.grib_places.specs.Degrees.{degrees_word}
use Rattle.grib_places.specs.Places.{stepped}
use Rattle.grib_places.proofs.line.Line.words.Goals as goal

pub loop-k-preserved : goal.loop-k-preserved
loop-k-preserved c =
    let line = c.args.self in
    one_more (λ k. degrees_word (stepped line.first line.way line.count k)) c.loop-k.k c.word.result c.loop-k.words.items c.push.new.self.items
    c.loop-k.invariant c.word.ensures c.in_ok-push.ensures.items
