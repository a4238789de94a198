use Rattle.std.proofs.Common.{refl}
use Rattle.grib_demote.proofs.Words.{converted}
use Rattle.grib_demote.proofs.word.ibm_of.Goals as goal

pub returns : goal.returns
returns c =
    let d = c.in-Ok.ensures in
    let e = c.to_ibm.ensures in
    converted c.args.word c.in-Ok.number c.ranges.word.fits (d.finite.0 refl) d.number c.to_ibm.result e.word e.number e.least e.no_word e.zero
