use Rattle.std.proofs.Common.{◌≡◌, ℕ, ◌+◌, sym, ap, ◌∙◌}
use Rattle.grib_base.specs.declared.fault.Reason.TheVariants.{Truncated}
use Rattle.grib_base.specs.Rules.{refusal}
use Rattle.grib2_sections.specs.Verdict.{Refused}
use Rattle.grib2_arrival.specs.Heard.{cut_off}
use Rattle.grib2_arrival.proofs.Verdicts.{cut_is}
use Rattle.grib2_arrival.proofs.arrival.Arrival.cut.Goals as goal

pub returns : goal.returns
returns c = λ profile u h unfinished.
    let is : c.at.result ≡ cut_off u = c.at.ensures ∙ ap (λ (n : ℕ). refusal (n + 1) Truncated n) (c.octets-octets.ensures.count profile u h) in
    (cut_is profile c.args.self.now.state u h unfinished ∙ ap Refused (sym is), is)
