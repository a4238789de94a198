use Rattle.std.proofs.Common.{◌≡◌, map}
use Rattle.std.specs.List.{range_with_len}
use Rattle.grib_places.specs.Degrees.{micro_degrees}
use Rattle.grib_places.specs.Places.{stepped}
use Rattle.grib_places.proofs.line.Line.micros.Given as goal

abbrev pub invariant-loop-k : goal.invariant-loop-k
invariant-loop-k l = l.micros.items ≡ map (λ k. micro_degrees (stepped l.fn.self.first l.fn.self.way l.fn.self.count k)) (range_with_len 0 l.k)
