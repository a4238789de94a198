use Rattle.std.proofs.Common.{ap}
use Rattle.grib_base.proofs.Passing.{carried}
use Rattle.grib_base.specs.Rules.{located}
use Rattle.grib_packings.proofs.representation.Representation.check_data.Goals as goal

pub returns : goal.returns
returns c = λ s5 read.
    let taken = c.in_ok-_nothing.ensures s5 read in
    ap (located c.args.section7.now.start) taken.0

pub returns-in_err-_nothing : goal.returns-in_err-_nothing
returns-in_err-_nothing c = λ s5 read. carried _ _ _ _ c.from_residual.ensures.1 (c.in_err-_nothing.ensures s5 read)
