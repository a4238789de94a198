use Rattle.std.proofs.Common.{subst, sym}
use Rattle.grib_block_feeding.specs.declared.half.Shape.{Shape}
use Rattle.grib_block_feeding.specs.declared.half.Part.TheVariants.{High, Codes}
use Rattle.grib_block_feeding.specs.declared.pending.Pending.TheVariants.{Bits, Sequence}
use Rattle.grib_block_feeding.specs.Half.{capped, front_shape, ShapeFits, GoesOn}
use Rattle.grib_block_feeding.proofs.Halves.{half_of, high_begun, codes_begun, some_count}
use Rattle.grib_block_feeding.proofs.half.Half.begin_shape.Goals as goal

pub returns-in-SplitSamples-clause-on : goal.returns-in-SplitSamples-clause-on
returns-in-SplitSamples-clause-on c =
    let coding = c.args.coding in
    let half = c.args.self.now in
    subst (λ (shape : Shape). GoesOn coding (λ rest. capped (front_shape coding half.with_reference shape c.args.reference rest)) (half_of (High c.in-SplitSamples.k) (Sequence 0) half.with_reference c.args.reference 0 half.numbers))
    (sym c.in-SplitSamples.is)
    (high_begun coding half.with_reference c.in-SplitSamples.k c.args.reference half.numbers c.requires.reference (some_count coding half.with_reference c.requires.fits) (subst ShapeFits c.in-SplitSamples.is c.requires.shape))

pub returns-in-NoCompression-clause-on : goal.returns-in-NoCompression-clause-on
returns-in-NoCompression-clause-on c =
    let coding = c.args.coding in
    let half = c.args.self.now in
    subst (λ (shape : Shape). GoesOn coding (λ rest. capped (front_shape coding half.with_reference shape c.args.reference rest)) (half_of Codes (Bits 0 c.from.result) half.with_reference c.args.reference 0 half.numbers))
    (sym c.in-NoCompression.is)
    (codes_begun coding half.with_reference c.from.result c.args.reference half.numbers c.from.ensures c.requires.reference (some_count coding half.with_reference c.requires.fits) c.requires.fits.some_bits)
