use Rattle.std.proofs.Common.{◌≡◌, ◌-◌, ◌%◌, ◌++◌, length, take, replicate, false, Bool, List, ℕ, ap, ◌∙◌, arith}
use Rattle.grib_bits.specs.Written.{Written, padding}
use Rattle.grib_bits.proofs.Numbers.{bits_of-zero}
use Rattle.grib_bits.proofs.Writing.{length-written}
use Rattle.grib_bits.proofs.writer.BitWriter.align.Goals as goal

pub returns-clause-bits : goal.returns-clause-bits
returns-clause-bits c =
    let w = c.put.inside in
    let seen = ap (λ (v : Written). length v.bits) c.put.view_is in
    let ended : w.free % 8 ≡ padding c.args.self.now.bits = omega (arith, length-written (take w.len w.octets.items) (64 - w.free) w.word) in
    c.put-2.ensures.bits
    ∙ ap (λ (xs : List Bool). c.args.self.now.bits ++ xs) (bits_of-zero _ ∙ ap (λ (n : ℕ). replicate n false) ended)

pub returns-clause-spare : goal.returns-clause-spare
returns-clause-spare c =
    let w = c.put.inside in
    let seen = ap (λ (v : Written). length v.bits) c.put.view_is in
    let ended : w.free % 8 ≡ padding c.args.self.now.bits = omega (arith, length-written (take w.len w.octets.items) (64 - w.free) w.word) in
    rw (← ended) c.put-2.ensures.spare
