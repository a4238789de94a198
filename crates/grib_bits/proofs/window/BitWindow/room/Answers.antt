use Rattle.std.proofs.Common.{length, ap, arith}
use Rattle.grib_bits.proofs.Numbers.{length-bits_of}
use Rattle.grib_bits.proofs.window.BitWindow.room.Goals as goal

pub returns-clause-octets : goal.returns-clause-octets
returns-clause-octets c =
    let w = c.self.inside in
    omega (arith, length-bits_of w.count w.word, ap length c.self.view_is)

pub returns-clause-within : goal.returns-clause-within
returns-clause-within c =
    let w = c.self.inside in
    omega (arith, length-bits_of w.count w.word, ap length c.self.view_is)
