use Rattle.std.proofs.Common.{◌*◌, arith}
use Rattle.grib_base.specs.declared.code.Code.TheVariants.{Primary}
use Rattle.grib_packing.specs.Packed.{packed_number}
use Rattle.grib_groups.proofs.Joined.{two_joined, joined_fit}
use Rattle.grib_groups.proofs.encoding.two_numbers.Goals as goal

pub returns-clause-are : goal.returns-clause-are
returns-clause-are c =
    two_joined c.args.width (packed_number c.args.width c.args.reference) c.args.run.now c.args.at Primary c.number_at-first.result c.number_at.result c.args.scale c.requires.within c.requires.scale
    c.number_at-first.ensures.is c.number_at.ensures.is c.number_at.ensures.fits

pub returns-clause-fits : goal.returns-clause-fits
returns-clause-fits c =
    joined_fit c.args.width (2 * c.args.width) c.number_at-first.result c.number_at.result c.args.scale c.requires.scale (omega arith) c.number_at-first.ensures.fits c.number_at.ensures.fits
