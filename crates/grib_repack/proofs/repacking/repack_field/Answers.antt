use Rattle.std.proofs.Common.{refl}
use Rattle.grib2_message.specs.Fields.{column_of}
use Rattle.grib_packing.specs.Targets.{target_of}
use Rattle.grib_repack.specs.Repacked.{kind_of}
use Rattle.grib_repack.proofs.Packing.{field_packed, field_fault}
use Rattle.grib_repack.proofs.repacking.repack_field.Goals as goal

pub returns-in-Ok-Some : goal.returns-in-Ok-Some
returns-in-Ok-Some c =
    let m = c.args.message.now in
    let i = c.args.field in
    let h = rw c.in-Ok-Some.field-0-is at c.in-Ok-Some.ensures in
    field_packed (target_of c.args.target) m i (column_of m i) refl c.one_packing_is_written.ensures (kind_of m i) c.in-Ok-Some.packed refl h

pub returns-in-Err : goal.returns-in-Err
returns-in-Err c =
    let m = c.args.message.now in
    let i = c.args.field in
    field_fault (target_of c.args.target) m i (column_of m i) refl c.in-Err.fault c.in_field.result c.in-Err.ensures c.in_field.ensures

pub unreachable-requires : goal.unreachable-requires
unreachable-requires c = let h = rw c.in-Ok-None.field-0-is at c.in-Ok-None.ensures in h.1
