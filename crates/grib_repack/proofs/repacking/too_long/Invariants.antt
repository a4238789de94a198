use Rattle.std.proofs.Common.{◌≡◌, ◌≤◌, ◌<◌, ◌+◌, ◌*◌, None}
use Rattle.grib_repack.specs.Repacked.{field_misfit}
use Rattle.grib_base.specs.Rules.{first_among}
use Rattle.grib_packing.specs.Targets.{target_of}
use Rattle.grib_repack.specs.Lengths.{length_with}
use Rattle.grib_repack.proofs.repacking.too_long.Given as goal

abbrev pub invariant-loop-before : goal.invariant-loop-before
invariant-loop-before l = record {
  none : first_among (field_misfit (target_of l.target) l.message) l.before 1 ≡ None;
  whole : l.whole ≡ length_with (target_of l.target) l.message l.before;
  long : 268435456 < l.whole;
  few : l.whole ≤ 17179869184 * (l.before + 1);
}
