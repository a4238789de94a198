use Rattle.std.proofs.Common.{◌≤◌, length, take, vec_capacity}
use Rattle.grib_codes.specs.KeptWords.{AreWords}
use Rattle.grib_codes.proofs.point_words.PointWords.of.Given as goal

abbrev pub invariant-loop-point : goal.invariant-loop-point
invariant-loop-point l = record {
  are : AreWords (take l.point-index l.points) l.kept;
  room : length l.points ≤ vec_capacity l.kept.words;
}
