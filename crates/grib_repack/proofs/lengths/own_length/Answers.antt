use Rattle.std.proofs.Common.{length, ap, arith}
use Rattle.grib_base.specs.declared.profile.Profile.TheVariants.{Open}
use Rattle.grib_repack.proofs.Whole.{own_short}
use Rattle.grib_repack.proofs.lengths.own_length.Goals as goal

pub overflow_add-result-2 : goal.overflow_add-result-2
overflow_add-result-2 c =
    omega (
      arith,
      own_short Open c.args.message.now c.requires.message c.args.field c.requires.first c.requires.last,
      ap length c.in-Some-Some-Some.ensures.part.1,
      ap length c.in-Some-Some-Some.ensures'.part.1,
      ap length c.in-Some-Some-Some.ensures''.part.1,
    )
