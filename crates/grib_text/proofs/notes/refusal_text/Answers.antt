use Rattle.std.proofs.Common.{ap, ◌∙◌}
use Rattle.grib_text.proofs.Pieces.{refusal_text-pieces}
use Rattle.grib_text.proofs.notes.refusal_text.Goals as goal

pub returns : goal.returns
returns c = ap (λ v. v.items) c.into_bytes.ensures.value ∙ c.in_ok-text.ensures.ok ∙ refusal_text-pieces c.args.head.now c.args.fault.now
