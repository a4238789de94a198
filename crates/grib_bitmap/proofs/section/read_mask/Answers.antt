use Rattle.std.proofs.Common.{◌≡◌, ℕ, List, take, drop, ap, ◌∙◌, arith}
use Rattle.std.proofs.lemmas.Grind.{common_steps}
use Rattle.std.proofs.lemmas.List.{take_rest}
use Rattle.grib_bits.specs.Bits.{bits}
use Rattle.grib_bitmap.proofs.section.read_mask.Goals as goal

pub returns-in_ok-of_octets-in-0-2 : goal.returns-in_ok-of_octets-in-0-2
returns-in_ok-of_octets-in-0-2 c =
    let octets = c.args.section.now.octets.now in
    let own : c.in_ok-of_octets-in-0-2.field-0 ≡ take c.args.points (bits (drop 6 octets)) =
    c.in_ok-of_octets-in-0-2.ensures ∙ ap (λ (xs : List ℕ). take c.args.points (bits xs)) (take_rest octets 6) in
    grind (arith, common_steps, own)
