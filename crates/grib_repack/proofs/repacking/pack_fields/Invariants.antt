use Rattle.std.proofs.Common.{◌≡◌, ◌≤◌, None, All, map}
use Rattle.std.specs.List.{range_with_len}
use Rattle.grib_base.specs.Rules.{first_among}
use Rattle.grib2_message.specs.Assembled.{IsShort}
use Rattle.grib_packing.specs.Targets.{target_of}
use Rattle.grib_repack.specs.Lengths.{length_with}
use Rattle.grib_repack.specs.Repacked.{packed_field, field_misfit}
use Rattle.grib_repack.proofs.repacking.pack_fields.Given as goal

abbrev pub invariant-loop-before : goal.invariant-loop-before
invariant-loop-before l = record {
  none : first_among (field_misfit (target_of l.target) l.message) l.before 1 ≡ None;
  packed : l.packed.items ≡ map (packed_field (target_of l.target) l.message) (range_with_len 1 l.before);
  short : All IsShort l.packed.items;
  total : l.total ≡ length_with (target_of l.target) l.message l.before;
  few : l.total ≤ 268435456;
}
