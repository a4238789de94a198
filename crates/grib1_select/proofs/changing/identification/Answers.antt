use Rattle.std.proofs.Common.{◌≡◌, ◌+◌, ◌≤◌, ℕ, List, length, subst}
use Rattle.grib1_sections.specs.Acceptance.{identification}
use Rattle.grib1_select.proofs.Set.{opens}
use Rattle.grib1_select.proofs.changing.identification.Goals as goal

pub returns-clause-there : goal.returns-clause-there
returns-clause-there c =
    let m = c.args.message.now in
    let section : identification m ≡ c.in-Some.section.now = (let both = c.in-Some.ensures.section in cc) in
    subst (λ (s : List ℕ). 8 + length s ≤ length m) section (opens m c.octets-accepted.ensures.message).there
