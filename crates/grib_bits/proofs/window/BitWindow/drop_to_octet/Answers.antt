use Rattle.std.proofs.Common.{◌≡◌, ◌%◌, length, drop, ap, ◌∙◌, arith, ℕ}
use Rattle.grib_bits.proofs.Numbers.{length-bits_of}
use Rattle.grib_bits.proofs.window.BitWindow.drop_to_octet.Goals as goal

pub take-dropped-requires : goal.take-dropped-requires
take-dropped-requires c =
    let w = c.take.inside in
    omega (arith, length-bits_of w.count w.word, ap length c.take.view_is)

pub returns : goal.returns
returns c =
    let w = c.take.inside in
    let pending : w.count ≡ length c.args.self.now = omega (arith, length-bits_of w.count w.word, ap length c.take.view_is) in
    c.take-dropped.ensures.rest ∙ ap (λ (n : ℕ). drop (n % 8) c.args.self.now) pending
