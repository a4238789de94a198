use Rattle.std.proofs.Common.{◌≡◌, map, take}
use Rattle.grib.specs.Exact.{nearest_number}
use Rattle.grib.specs.Points.{value_at}
use Rattle.grib.proofs.points.Points.numbers_of.Given as goal

-- the numbers of the points so far
abbrev pub invariant-loop-point : goal.invariant-loop-point
invariant-loop-point l = l.numbers.items ≡ map (λ point. nearest_number (value_at l.self.reference l.self.column point)) (take l.point-index l.points)
