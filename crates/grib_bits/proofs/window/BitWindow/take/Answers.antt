use Rattle.std.proofs.Common.{◌-◌, ◌≤◌, length, take, drop, ap, sym, ◌∙◌, arith, Bool, List}
use Rattle.grib_bits.specs.Bits.{num}
use Rattle.grib_bits.proofs.Numbers.{length-bits_of, num-take_bits_of, drop-bits_of, bits_of-and_ones}
use Rattle.grib_bits.proofs.window.BitWindow.take.Goals as goal

pub overflow_sub-rest : goal.overflow_sub-rest
overflow_sub-rest c =
    let w = c.self.inside in
    omega (arith, length-bits_of w.count w.word, ap length c.self.view_is)

pub returns-clause-number : goal.returns-clause-number
returns-clause-number c =
    let w = c.self.inside in
    let within : c.args.width ≤ w.count = omega (arith, length-bits_of w.count w.word, ap length c.self.view_is) in
    sym (num-take_bits_of c.args.width w.count w.word within c.self.invariant.1)
    ∙ ap (λ (xs : List Bool). num (take c.args.width xs)) c.self.view_is

pub returns-clause-rest : goal.returns-clause-rest
returns-clause-rest c =
    let w = c.self.inside in
    let within : c.args.width ≤ w.count = omega (arith, length-bits_of w.count w.word, ap length c.self.view_is) in
    bits_of-and_ones w.word (w.count - c.args.width) (omega arith)
    ∙ sym (drop-bits_of c.args.width w.count w.word within)
    ∙ ap (drop c.args.width) c.self.view_is
