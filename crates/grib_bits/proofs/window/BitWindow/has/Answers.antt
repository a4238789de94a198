use Rattle.std.proofs.Common.{length, ap, arith}
use Rattle.grib_bits.proofs.Numbers.{length-bits_of}
use Rattle.grib_bits.proofs.window.BitWindow.has.Goals as goal

pub returns-clause-pending : goal.returns-clause-pending
returns-clause-pending c =
    let w = c.self.inside in
    let pending = length-bits_of w.count w.word in
    let seen = ap length c.self.view_is in
    grind arith

pub returns-clause-within : goal.returns-clause-within
returns-clause-within c =
    let w = c.self.inside in
    omega (arith, length-bits_of w.count w.word, ap length c.self.view_is)
