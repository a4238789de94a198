use Rattle.std.proofs.Common.{◌≡◌, ℕ, ◌+◌, ◌-◌, take, drop, sym, subst, arith}
use Rattle.grib_bits.specs.Octets.{StatesItself}
use Rattle.grib2_sections.proofs.Frames.{states_itself}
use Rattle.grib2_sections.proofs.frame.Frame.section.Goals as goal

pub invariant_of-result-clause-itself : goal.invariant_of-result-clause-itself
invariant_of-result-clause-itself c =
    let m = c.args.octets.now in
    let q = c.self.inside.place in
    let l = c.u32_at-length.result in
    let number = c.u8_at-number.result in
    let long : l ≡ q - 1 + l - (q - 1) = omega arith in
    subst (λ (k : ℕ). StatesItself number (take k (drop (q - 1) m))) long
    (states_itself m q l number (omega arith) (sym c.u32_at-length.ensures) (sym c.u8_at-number.ensures) (omega (arith, c.in_ok-opens.ensures.1)) (omega arith))
