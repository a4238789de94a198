use Rattle.grib_migrate.proofs.References.{converted}
use Rattle.grib_migrate.proofs.reference.binary32_of.Goals as goal

pub returns : goal.returns
returns c =
    let e = c.to_ieee.ensures in
    converted c.args.word c.from_ibm.result c.ranges.word.fits c.from_ibm.ensures.number c.to_ieee.result e.word e.finite e.number e.no_word e.zero
