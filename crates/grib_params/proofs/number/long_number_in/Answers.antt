use Rattle.std.proofs.Common.{◌∙◌, arith, sym}
use Rattle.grib_params.proofs.Numbers.{refused, spelled_out}
use Rattle.grib_params.proofs.number.long_number_in.Goals as goal

pub returns-in_err-checked_mul : goal.returns-in_err-checked_mul
returns-in_err-checked_mul c =
    let past = c.in_err-checked_mul.ensures in
    let none = refused c.args.field.now c.loop-octet.octet-index c.loop-octet.number c.loop-octet-test.true c.loop-octet.invariant.so_far (omega (arith, past)) in
    c.from_residual.ensures ∙ sym none

pub returns-in_err-number : goal.returns-in_err-number
returns-in_err-number c =
    let past = c.in_err-number.ensures in
    let tens = c.in_ok-checked_mul.ensures.1 in
    let none = refused c.args.field.now c.loop-octet.octet-index c.loop-octet.number c.loop-octet-test.true c.loop-octet.invariant.so_far (omega (arith, past, tens)) in
    c.from_residual-in_err-number.ensures ∙ sym none

pub returns : goal.returns
returns c =
    spelled_out c.args.field.now c.loop-octet.octet-index c.loop-octet.number c.loop-octet-test.false (omega arith) c.loop-octet.invariant.spelled c.loop-octet.invariant.so_far
