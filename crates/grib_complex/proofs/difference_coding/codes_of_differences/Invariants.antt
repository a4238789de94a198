use Rattle.std.proofs.Common.{◌≡◌, ◌++◌, nat_lt, drop}
use Rattle.std.specs.List.{list_any}
use Rattle.grib_codes.specs.Words.{codes_of}
use Rattle.grib_packing.specs.Differences.{difference_codes}
use Rattle.grib_packing.specs.Misfits.{scaled_numbers}
use Rattle.grib_packing.specs.Packed.{placed_codes}
use Rattle.grib_spatial.specs.Trail.{IsNear, IsTrail}
use Rattle.grib_complex.proofs.PointByPoint.{Seen}
use Rattle.grib_complex.proofs.difference_coding.codes_of_differences.Given as goal

abbrev pub invariant-loop-point : goal.invariant-loop-point
invariant-loop-point l = record {
  seen : Seen l.points l.point-index l.trail.count;
  near : IsNear l.trail;
  trail : IsTrail l.trail (scaled_numbers l.points);
  codes : codes_of l.management l.words.items ++ placed_codes (drop l.point-index l.points) (drop l.trail.count (difference_codes l.order (scaled_numbers l.points)))
      ≡ placed_codes l.points (difference_codes l.order (scaled_numbers l.points));
  outside : list_any (λ code. nat_lt l.greatest code) (drop l.trail.count (difference_codes l.order (scaled_numbers l.points)))
      ≡ list_any (λ code. nat_lt l.greatest code) (difference_codes l.order (scaled_numbers l.points));
}
