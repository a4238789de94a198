use Rattle.std.proofs.Common.{◌≢◌, ◌∙◌, IsTrue, length, ap, subst}
use Rattle.std.proofs.lemmas.Bool.{false≢true}
use Rattle.grib2_sections.specs.Verdict.{Accepted}
use Rattle.grib2_message.specs.Acceptance.{verdict_under}
use Rattle.grib_stream.specs.Outcomes.{is_truncated}
use Rattle.grib_command.specs.Judging.{judged}
use Rattle.grib_dispatch.proofs.hearing.SecondHearerHearer.cut.Goals as goal

pub returns : goal.returns
returns c =
    λ judge octets heard four.
    let profile = heard.0 in
    let other : verdict_under profile octets ≢ Accepted (length octets) =
    λ e. false≢true (subst IsTrue c.if-whole.false ((c.whole.ensures profile octets heard.2).1 e)) in
    let cut = c.cut.ensures profile octets heard.2 other in
    (ap (λ j. j octets) heard.1 ∙ ap judged cut.0, ap (λ f. is_truncated f.reason) cut.1)
