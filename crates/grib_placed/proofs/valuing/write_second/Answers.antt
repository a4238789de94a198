use Rattle.std.proofs.Common.{◌≡◌, None, sym, ap, ◌∙◌}
use Rattle.grib2_message.specs.Fields.{field_count}
use Rattle.grib_command.specs.Command.{texts_from}
use Rattle.grib_command.proofs.Answers.{by_printing}
use Rattle.grib_report.specs.Valuing.{text_unless}
use Rattle.grib_placed.specs.Valuing.{value_placed_cause, value_placed_text}
use Rattle.grib_placed.proofs.valuing.write_second.Goals as goal

pub returns-in-Ok-None : goal.returns-in-Ok-None
returns-in-Ok-None g c =
    let places = c.args.places in
    let message = c.args.message.now in
    let m = c.args.place.now.message in
    let texts = texts_from (value_placed_text places message m) (field_count message) 1 in
    let none : value_placed_cause places message ≡ None = sym c.in-Ok-None.ensures ∙ c.in-Ok-None.field-0-is in
    by_printing g.T.Sink.contents g.T.Sink.faults g.T.Sink.settled c.write_fields.result c.printed.result m _ texts _ _
    c.printed.ensures (ap (λ o. text_unless o m texts) none) c.write_fields.ensures
