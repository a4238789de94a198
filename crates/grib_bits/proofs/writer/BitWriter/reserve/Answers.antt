use Rattle.std.proofs.Common.{◌-◌, length, take, ap, arith}
use Rattle.std.proofs.lemmas.List.{length-take-le}
use Rattle.grib_bits.specs.Written.{Written}
use Rattle.grib_bits.proofs.Writing.{length-written}
use Rattle.grib_bits.proofs.writer.BitWriter.reserve.Goals as goal

pub returns-in_ok-resize-clause-whole : goal.returns-in_ok-resize-clause-whole
returns-in_ok-resize-clause-whole c =
    let w = c.self.inside in
    omega (arith, length-written (take w.len c.resize.new.self.items) (64 - w.free) w.word, length-take-le w.len c.resize.new.self.items (grind (arith, c.in_ok-resize.ensures.items, c.in_ok-resize.ensures.len)), c.in_ok-resize.ensures.len)

pub returns-else-end-len-clause-whole : goal.returns-else-end-len-clause-whole
returns-else-end-len-clause-whole c =
    let w = c.self.inside in
    let seen = ap (λ (v : Written). length v.bits) c.self.view_is in
    let left = ap (λ (v : Written). v.spare) c.self.view_is in
    omega (arith, length-written (take w.len w.octets.items) (64 - w.free) w.word, length-take-le w.len w.octets.items (omega arith))
