use Rattle.std.proofs.Common.{◌+◌, ◌≤◌, ◌++◌, length, ap, ◌∙◌, arith, Bool, List, ℕ}
use Rattle.grib_bits.specs.Bits.{bits_of}
use Rattle.grib_bits.proofs.Numbers.{length-bits_of, bits_of-shl_or, shl_or-lt}
use Rattle.grib_bits.proofs.window.BitWindow.push.Goals as goal

pub invariant_of-self : goal.invariant_of-self
invariant_of-self c =
    let w = c.self.inside in
    let within : w.count + 8 ≤ 64 = omega (arith, length-bits_of w.count w.word, ap length c.self.view_is) in
    (within, shl_or-lt w.count 8 w.word c.from.result within c.self.invariant.1 (omega arith))

pub returns : goal.returns
returns c =
    let w = c.self.inside in
    let within : w.count + 8 ≤ 64 = omega (arith, length-bits_of w.count w.word, ap length c.self.view_is) in
    bits_of-shl_or w.count 8 w.word c.from.result within (omega arith)
    ∙ ap (λ (n : ℕ). bits_of w.count w.word ++ bits_of 8 n) c.from.ensures
    ∙ ap (λ (xs : List Bool). xs ++ bits_of 8 c.args.octet) c.self.view_is
