use Rattle.std.proofs.lemmas.Nat.{leading_length}
use Rattle.grib_dyadic.proofs.Lengths.{IsLength-leading}
use Rattle.grib_nearest.proofs.leading.bit_length.Goals as goal

pub returns-clause-length : goal.returns-clause-length
returns-clause-length c = IsLength-leading 128 c.args.number _ (leading_length 128 c.args.number c.ranges.number.fits)
