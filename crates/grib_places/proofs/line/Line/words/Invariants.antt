use Rattle.std.proofs.Common.{◌≡◌, map}
use Rattle.std.specs.List.{range_with_len}
use Rattle.grib_places.specs.Degrees.{degrees_word}
use Rattle.grib_places.specs.Places.{stepped}
use Rattle.grib_places.proofs.line.Line.words.Given as goal

abbrev pub invariant-loop-k : goal.invariant-loop-k
invariant-loop-k l = l.words.items ≡ map (λ k. degrees_word (stepped l.fn.self.first l.fn.self.way l.fn.self.count k)) (range_with_len 0 l.k)
