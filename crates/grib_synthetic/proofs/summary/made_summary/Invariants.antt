use Rattle.std.proofs.Common.{◌≡◌, ◌*◌, ◌≤◌, map}
use Rattle.std.specs.List.{range_with_len}
use Rattle.grib_synthetic.specs.Points.{made_point}
use Rattle.grib_synthetic.specs.Maker.{HasMade}
use Rattle.grib_synthetic.specs.Summary.{SumsUp}
use Rattle.grib_synthetic.proofs.summary.made_summary.Given as goal

abbrev pub invariant-loop-made : goal.invariant-loop-made
invariant-loop-made l = record {
  sums : SumsUp l.summary (map (made_point l.seed l.ni) (range_with_len 1 l._made));
  made : HasMade l.maker l.seed l._made;
  columns : l.maker.ni ≡ l.ni;
  few : l.summary.present ≤ l._made;
  small : l.summary.sum ≤ 16383 * l._made;
}
