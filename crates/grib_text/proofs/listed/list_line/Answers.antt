use Rattle.std.proofs.Common.{◌≡◌, IfOk, subst}
use Rattle.grib2_message.specs.declared.summary.FieldSummary.{FieldSummary}
use Rattle.grib_text.specs.Lines.{summary_line}
use Rattle.grib_text.proofs.listed.list_line.Goals as goal

pub returns : goal.returns
returns c =
    subst (λ (s : FieldSummary). IfOk c.summary_line.result (λ line. line.items ≡ summary_line s c.args.number c.args.field)) c.field_summary.ensures c.summary_line.ensures
