use Rattle.grib_base.proofs.Passing.{refused}
use Rattle.grib_packings.proofs.representation.Representation.take_values.Goals as goal

pub returns : goal.returns
returns g c = λ s5 read.
    let s7 = c.args.section7.now.octets.now in
    c.in_ok-end.ensures s5 c.args.keeper c.args.section7.now.start s7 (c.in_ok-whole.ensures.read s5 read)

pub returns-in_err-end : goal.returns-in_err-end
returns-in_err-end g c = λ s5 read.
    let s7 = c.args.section7.now.octets.now in
    refused _ _ _ _ c.from_residual-in_err-end.ensures.1 (c.in_err-end.ensures s5 c.args.keeper c.args.section7.now.start s7 (c.in_ok-whole.ensures.read s5 read))
