-- The lines that are noted of what a run goes past.
use Rattle.std.specs.Prelude.{cond}
use Rattle.grib_stream.specs.Texts.{Texts}
use Rattle.grib_text.specs.Notes.{refused_line}
use Rattle.grib_command.specs.Notes.{copied_line, kept_line}

abbrev pub texts : Texts
texts = record {
  refused = λ copied place fault. cond copied (copied_line place.message place.before fault) (refused_line place.message place.before fault);
  kept = λ place kept. kept_line kept.message place.before kept.cause;
}
