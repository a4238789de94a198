use Rattle.std.proofs.Common.{◌≡◌, map}
use Rattle.std.specs.List.{range_with_len}
use Rattle.grib_synthetic.specs.Points.{made_point}
use Rattle.grib_synthetic.specs.Maker.{HasMade}
use Rattle.grib_synthetic.proofs.points.make_points.Given as goal

abbrev pub invariant-loop-made : goal.invariant-loop-made
invariant-loop-made l = record {
  points : l.points.items ≡ map (made_point l.seed l.ni) (range_with_len 1 l._made);
  made : HasMade l.maker l.seed l._made;
  columns : l.maker.ni ≡ l.ni;
}
