use Rattle.std.proofs.Common.{◌≡◌, ap, ◌∙◌, arith, w64, to_z, of_z}
use Rattle.std.proofs.lemmas.Int.{ints}
use Rattle.std.proofs.Output.{has_written_of_eq}
use Rattle.std.specs.Fmt.{styled_decimal, styled_signed_decimal}
use Rattle.grib_text.proofs.Pieces.{padded-filled_decimal}
use Rattle.grib_text.proofs.Pieces1.{padded-filled_signed_decimal, time1_of-pieces}
use Rattle.grib_text.specs.Words.{filled_signed_decimal}
use Rattle.grib_text.proofs.edition1.TimeDisplay.fmt.Goals as goal

pub returns-clause-writes : goal.returns-clause-writes
returns-clause-writes g c = λ plain ok.
    let t = c.args.self.now in
    let same : to_z w64 (of_z w64 t.year) ≡ t.year = omega (arith, ints) in
    has_written_of_eq _ _ _ _ _ (time1_of-pieces t.year t.month t.day t.hour t.minute _ _ _ _ _ (record {
      year = ap (λ s. styled_signed_decimal s (to_z w64 (of_z w64 t.year))) c.laid_out.ensures ∙ padded-filled_signed_decimal 4 (to_z w64 (of_z w64 t.year)) ∙ ap (filled_signed_decimal 4) same;
      month = ap (λ s. styled_decimal s t.month) c.laid_out-2.ensures ∙ padded-filled_decimal 2 t.month;
      day = ap (λ s. styled_decimal s t.day) c.laid_out-3.ensures ∙ padded-filled_decimal 2 t.day;
      hour = ap (λ s. styled_decimal s t.hour) c.laid_out-4.ensures ∙ padded-filled_decimal 2 t.hour;
      minute = ap (λ s. styled_decimal s t.minute) c.laid_out-5.ensures ∙ padded-filled_decimal 2 t.minute;
    })) (c.write.ensures.writes plain ok)
