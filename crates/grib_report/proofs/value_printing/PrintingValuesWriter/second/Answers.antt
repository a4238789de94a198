use Rattle.std.proofs.Common.{refl}
use Rattle.grib2_message.specs.Fields.{field_count}
use Rattle.grib_command.specs.Command.{given_text, texts_from}
use Rattle.grib_command.proofs.Answers.{by_printing}
use Rattle.grib_command.proofs.Readable.{by_read, by_opaque}
use Rattle.grib_report.proofs.value_printing.PrintingValuesWriter.second.Goals as goal

pub returns-in-Ok : goal.returns-in-Ok
returns-in-Ok g c =
    by_read g.T.Sink.contents g.T.Sink.faults g.T.Sink.settled c.printed.result
    (λ place message. given_text (texts_from (g.P.ValuePrinter.field_text c.args.self.now.0 message place.message) (field_count message) 1))
    c.args.place.now c.args.message.now c.in-Ok.message _ _ c.in-Ok.ensures.0 c.in-Ok.ensures.2
    (by_printing g.T.Sink.contents g.T.Sink.faults g.T.Sink.settled c.write_fields.result c.printed.result _ _ _ _ _ c.printed.ensures refl c.write_fields.ensures)

pub returns-in-Err : goal.returns-in-Err
returns-in-Err g c =
    by_opaque g.T.Sink.contents g.T.Sink.faults g.T.Sink.settled c.unreadable.result
    (λ place message. given_text (texts_from (g.P.ValuePrinter.field_text c.args.self.now.0 message place.message) (field_count message) 1))
    c.args.place.now c.args.message.now c.in-Err.opaque _ c.unreadable.ensures c.in-Err.ensures
