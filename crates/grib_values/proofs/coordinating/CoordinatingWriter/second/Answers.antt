use Rattle.std.proofs.Common.{◌≡◌, None, sym, ap, ◌∙◌}
use Rattle.grib2_message.specs.Fields.{field_count}
use Rattle.grib_command.specs.Command.{texts_from}
use Rattle.grib_command.proofs.Answers.{by_printing}
use Rattle.grib_report.specs.Valuing.{text_unless}
use Rattle.grib_placed.specs.Causes.{message_place_cause}
use Rattle.grib_values.specs.Coordinates.{field_arrays}
use Rattle.grib_values.proofs.coordinating.CoordinatingWriter.second.Goals as goal

pub returns-in-None : goal.returns-in-None
returns-in-None g c =
    let message = c.args.message.now in
    let m = c.args._place.now.message in
    let texts = texts_from (field_arrays message) (field_count message) 1 in
    let none : message_place_cause message ≡ None = sym c.in-None.ensures in
    by_printing g.T.Sink.contents g.T.Sink.faults g.T.Sink.settled c.write_fields.result c.printed.result m _ texts _ _
    c.printed.ensures (ap (λ o. text_unless o m texts) none) c.write_fields.ensures
