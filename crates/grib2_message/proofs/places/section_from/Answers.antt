use Rattle.std.proofs.Common.{◌≡◌, ℕ, ◌-◌, ◌+◌, take, drop, sym, subst, arith}
use Rattle.grib_bits.specs.Octets.{StatesItself}
use Rattle.grib2_sections.proofs.Frames.{states_itself}
use Rattle.grib2_message.proofs.places.section_from.Goals as goal

pub invariant_of-result-clause-itself : goal.invariant_of-result-clause-itself
invariant_of-result-clause-itself c =
    let m = c.args.octets.now in
    let start = c.args.start in
    let l = c.u32_at-length.result in
    let long : l ≡ start - 1 + l - (start - 1) = omega arith in
    subst (λ (k : ℕ). StatesItself c.args.number (take k (drop (start - 1) m))) long
    (states_itself m start l c.args.number c.requires.low (sym c.u32_at-length.ensures) c.requires.numbered
    (omega (arith, c.u32_at-length.ensures, c.requires.least)) (omega (arith, c.u32_at-length.ensures, c.requires.whole)))
