use Rattle.std.proofs.Common.{◌≡◌, None, sym, ap, ◌∙◌}
use Rattle.grib2_message.specs.Fields.{field_count}
use Rattle.grib_command.specs.Command.{texts_from}
use Rattle.grib_report.specs.Valuing.{cause_2, value_text, text_unless}
use Rattle.grib_command.proofs.Answers.{by_printing}
use Rattle.grib_report.proofs.Causes.{by_no_memory}
use Rattle.grib_report.proofs.valuing.write_second.Goals as goal

pub returns-in-Ok-None : goal.returns-in-Ok-None
returns-in-Ok-None g c =
    let places = c.args.places in
    let message = c.args.message.now in
    let m = c.args.place.now.message in
    let none : cause_2 places message ≡ None = sym c.in-Ok-None.ensures ∙ c.in-Ok-None.field-0-is in
    by_printing g.T.Sink.contents g.T.Sink.faults g.T.Sink.settled c.write_fields.result c.printed.result m _ (texts_from (value_text places message m) (field_count message) 1) _ _
    c.printed.ensures (ap (λ o. text_unless o m (texts_from (value_text places message m) (field_count message) 1)) none) c.write_fields.ensures
