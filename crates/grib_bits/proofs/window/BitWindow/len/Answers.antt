use Rattle.std.proofs.Common.{length, ap, arith}
use Rattle.grib_bits.proofs.Numbers.{length-bits_of}
use Rattle.grib_bits.proofs.window.BitWindow.len.Goals as goal

pub returns-clause-bits : goal.returns-clause-bits
returns-clause-bits c =
    let w = c.self.inside in
    omega (arith, length-bits_of w.count w.word, ap length c.self.view_is)
