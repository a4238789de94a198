use Rattle.grib_repack.proofs.Back.{may_be_unpacked, same_column}
use Rattle.grib_repack.proofs.Kept.{unpacks}
use Rattle.grib_repack.proofs.laws.what_is_packed_unpacks.Goals as goal

pub returns : goal.returns
returns g c column kind start earlier packed may is =
    let target = g.P.Packing.target c.args.packing.now in
    let unpack = unpacks c.what_is_packed_simply_reads_back.ensures c.what_is_packed_in_groups_reads_back.ensures c.what_is_packed_by_differences_reads_back.ensures c.what_is_packed_in_blocks_reads_back.ensures in
    let back = unpack target (g.met.P.Packing.is_target c.args.packing.now) column kind packed.section5 packed.section6 packed.section7 may is.0 is.1 in (
      may_be_unpacked target column kind packed.section5 packed.section6 packed.section7 may is.1 back earlier _ (g.met.P.Packing.is_template c.args.packing.now),
      same_column target column kind packed.section5 packed.section6 packed.section7 may is.1 back earlier start,
    )
