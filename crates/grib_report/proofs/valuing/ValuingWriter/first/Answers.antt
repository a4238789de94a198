use Rattle.std.proofs.Common.{◌≡◌, None, sym, ap, ◌∙◌}
use Rattle.grib_report.specs.Valuing.{cause_1, value_text_1, text_unless}
use Rattle.grib_command.proofs.Answers.{by_printing}
use Rattle.grib_report.proofs.Causes.{by_no_memory}
use Rattle.grib_report.proofs.valuing.ValuingWriter.first.Goals as goal

pub returns-in-Ok-None : goal.returns-in-Ok-None
returns-in-Ok-None g c =
    let places = c.args.self.now.places in
    let message = c.args.message.now in
    let m = c.args.place.now.message in
    let none : cause_1 places message ≡ None = sym c.in-Ok-None.ensures ∙ c.in-Ok-None.field-0-is in
    by_printing g.T.Sink.contents g.T.Sink.faults g.T.Sink.settled c.write_first.result c.printed.result m _ (value_text_1 places message m) _ _ c.printed.ensures
    (ap (λ o. text_unless o m (value_text_1 places message m)) none) c.write_first.ensures

pub returns-in-Err : goal.returns-in-Err
returns-in-Err g c = by_no_memory g.T.Sink.contents g.T.Sink.faults g.T.Sink.settled c.args.place.now.message _ c.args.output.now
