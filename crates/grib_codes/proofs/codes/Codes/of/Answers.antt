use Rattle.grib_codes.proofs.Below.{codes_below}
use Rattle.grib_codes.proofs.codes.Codes.of.Goals as goal

pub returns-clause-below : goal.returns-clause-below
returns-clause-below c = codes_below c.args.reserved c.args.words.now
