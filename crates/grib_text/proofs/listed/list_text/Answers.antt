use Rattle.std.proofs.Common.{◌≡◌, IfOk, string_bytes, subst}
use Rattle.grib2_message.specs.declared.summary.FieldSummary.{FieldSummary}
use Rattle.grib_text.specs.Lines.{summary_text}
use Rattle.grib_text.proofs.listed.list_text.Goals as goal

pub returns : goal.returns
returns c =
    subst (λ (s : FieldSummary). IfOk c.summary_text.result (λ text. string_bytes text ≡ summary_text s c.args.number c.args.field)) c.field_summary.ensures c.summary_text.ensures
