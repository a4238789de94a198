use Rattle.std.proofs.Common.{◌≡◌, ℕ, ◌≤◌, length, take, length-take-le, sym, ap, ◌∙◌, subst, arith}
use Rattle.grib2_sections.specs.Verdict.{Accepted}
use Rattle.grib2_message.specs.Message.{IsMessageUnder}
use Rattle.grib2_message.proofs.Fronts.{accepted_there}
use Rattle.grib2_message.proofs.reading.read_message.Goals as goal

pub of-requires : goal.of-requires
of-requires c = (c.args.profile, c.in_ok-fields.ensures.1)

pub returns : goal.returns
returns c =
    let m = c.args.octets.now in
    let total = c.in_ok-head.head.total in
    let kept = c.in_ok-fields.ensures in
    let is : c.of.result ≡ take total m = c.of.ensures in
    let there : total ≤ length m = accepted_there c.args.profile m total (λ first. absurd (omega (arith, c.requires.edition))) kept.0 in
    let long : length c.of.result ≡ total = ap length is ∙ length-take-le total m there in
    (kept.0 ∙ ap Accepted (sym long), is ∙ ap (λ (n : ℕ). take n m) (sym long), subst (IsMessageUnder c.args.profile) (sym is) kept.1.accepted)
