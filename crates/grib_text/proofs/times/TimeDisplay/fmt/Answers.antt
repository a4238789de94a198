use Rattle.std.proofs.Common.{ap, ◌∙◌}
use Rattle.std.proofs.Output.{has_written_of_eq}
use Rattle.std.specs.Fmt.{styled_decimal}
use Rattle.grib_text.proofs.Pieces.{padded-filled_decimal, time_of-pieces}
use Rattle.grib_text.proofs.times.TimeDisplay.fmt.Goals as goal

pub returns-clause-writes : goal.returns-clause-writes
returns-clause-writes g c = λ plain ok.
    let t = c.args.self.now in
    has_written_of_eq _ _ _ _ _ (time_of-pieces t.year t.month t.day t.hour t.minute t.second _ _ _ _ _ _ (record {
      year = ap (λ s. styled_decimal s t.year) c.laid_out.ensures ∙ padded-filled_decimal 4 t.year;
      month = ap (λ s. styled_decimal s t.month) c.laid_out-2.ensures ∙ padded-filled_decimal 2 t.month;
      day = ap (λ s. styled_decimal s t.day) c.laid_out-3.ensures ∙ padded-filled_decimal 2 t.day;
      hour = ap (λ s. styled_decimal s t.hour) c.laid_out-4.ensures ∙ padded-filled_decimal 2 t.hour;
      minute = ap (λ s. styled_decimal s t.minute) c.laid_out-5.ensures ∙ padded-filled_decimal 2 t.minute;
      second = ap (λ s. styled_decimal s t.second) c.laid_out-6.ensures ∙ padded-filled_decimal 2 t.second;
    })) (c.write.ensures.writes plain ok)
