use Rattle.std.proofs.Common.{length, ap, ◌∙◌}
use Rattle.std.proofs.lemmas.List.FromFn.{length-map-range_with_len}
use Rattle.grib2_message.specs.Fields.{field_count}
use Rattle.grib_packing.specs.Targets.{target_of}
use Rattle.grib_repack.specs.Repacked.{packed_field}
use Rattle.grib_repack.proofs.repacking.repack.Goals as goal

pub assemble-requires-clause-one_each : goal.assemble-requires-clause-one_each
assemble-requires-clause-one_each c =
    let target = target_of c.args.target in
    let m = c.args.message.now in
    ap length (c.deref.ensures.value ∙ c.in_ok-packed.ensures.1) ∙ length-map-range_with_len (packed_field target m) 1 (field_count m)
