use Rattle.std.proofs.Common.{◌*◌, arith}
use Rattle.grib_packing.specs.Packed.{packed_number}
use Rattle.grib_groups.proofs.Joined.{four_joined, square, joined_fit, joined_word}
use Rattle.grib_groups.proofs.encoding.four_numbers.Goals as goal

pub overflow_add-result : goal.overflow_add-result
overflow_add-result c = record {
  fits =
      joined_word (2 * c.args.width) (4 * c.args.width) c.two_numbers-first.result c.two_numbers.result (c.args.scale * c.args.scale) (square c.args.width c.args.scale c.requires.scale) (omega arith) (omega arith)
      c.two_numbers-first.ensures.fits c.two_numbers.ensures.fits;
}

pub returns-clause-are : goal.returns-clause-are
returns-clause-are c =
    four_joined c.args.width (packed_number c.args.width c.args.reference) c.args.run.now c.args.at c.two_numbers-first.result c.two_numbers.result c.args.scale c.requires.scale
    c.two_numbers.ensures.fits c.two_numbers-first.ensures.are c.two_numbers.ensures.are

pub returns-clause-fits : goal.returns-clause-fits
returns-clause-fits c =
    joined_fit (2 * c.args.width) (4 * c.args.width) c.two_numbers-first.result c.two_numbers.result (c.args.scale * c.args.scale) (square c.args.width c.args.scale c.requires.scale) (omega arith)
    c.two_numbers-first.ensures.fits c.two_numbers.ensures.fits
