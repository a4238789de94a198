-- The lines that are noted of what was changed, could not be changed, or was made, each with its
-- newline (10).
use Rattle.std.specs.Prelude.{ℕ, List, [], ◌∷◌, ◌++◌, codes}
use Rattle.std.specs.Fmt.{decimal}
use Rattle.grib_base.specs.declared.fault.Fault.{Fault}
use Rattle.grib_text.specs.Notes.{refusal_text}
use Rattle.grib_stream.specs.declared.outcome.FileRefusal.{FileRefusal}
use Rattle.grib_stream.specs.declared.outcome.FileRefusal.TheVariants as files
use Rattle.grib_stream.specs.declared.place.Totals.{Totals}
use Rattle.grib_reasons.specs.declared.cause.Cause.{Cause}
use Rattle.grib_reasons.specs.Causes.{cause_text}
use Rattle.grib_reasons.specs.declared.table.TableRefusal.{TableRefusal}
use Rattle.grib_reasons.specs.declared.table.TableRefusal.TheVariants.{Absent, TooLarge, Row, Duplicate}
use Rattle.grib_reasons.specs.Tables.{table_text}

-- message m cannot be changed, and the run ends with it
abbrev pub kept_note : ℕ → Cause → List ℕ
kept_note m cause = codes "kept message " ++ decimal m ++ codes " " ++ cause_text cause ++ 10 ∷ []

-- message m cannot be changed, and the run goes on behind it: how many octets of the input stand
-- before it
abbrev pub kept_line : ℕ → ℕ → Cause → List ℕ
kept_line m before cause = codes "kept message " ++ decimal m ++ codes " at " ++ decimal before ++ codes " " ++ cause_text cause ++ 10 ∷ []

-- octets are refused, and copied, and the run goes on behind them: the number that a message there would have, and how
-- many octets of the input stand before them
abbrev pub copied_line : ℕ → ℕ → Fault → List ℕ
copied_line m before fault = refusal_text (codes "copied message " ++ decimal m ++ codes " at " ++ decimal before) fault

-- an input was read to its end, with this many refusals passed and this many messages not changed
abbrev pub passed_note : ℕ → ℕ → List ℕ
passed_note refused kept = codes "refused " ++ decimal refused ++ codes " kept " ++ decimal kept ++ 10 ∷ []

-- the parameter table is refused, and by what
abbrev pub table_note : TableRefusal → List ℕ
table_note refusal = table_text refusal ++ 10 ∷ []

-- the table of surfaces is refused, and by what
abbrev pub surfaces_note : TableRefusal → List ℕ
surfaces_note Absent = codes "surfaces absent\n"
surfaces_note TooLarge = codes "surfaces too large\n"
surfaces_note (Row number) = codes "surfaces row " ++ decimal number ++ 10 ∷ []
surfaces_note (Duplicate number) = codes "surfaces duplicate " ++ decimal number ++ 10 ∷ []

-- the file to compare with, which is absent, or of which a message is refused
abbrev pub refused_file_text : ℕ → Fault → List ℕ
refused_file_text message fault = refusal_text (codes "file refused message " ++ decimal message) fault

abbrev pub file_note : FileRefusal → List ℕ
file_note files.Absent = codes "file absent\n"
file_note (files.Refused refusal) = refused_file_text refusal.message refusal.fault

-- the messages and fields of an input that was read to its end, and the octets of their results
abbrev pub written_note : Totals → List ℕ
written_note totals =
    codes "messages " ++ decimal totals.messages ++ codes " fields " ++ decimal totals.fields
    ++ codes " written " ++ decimal totals.written ++ 10 ∷ []

-- with how many refusals were passed and messages not changed behind it
abbrev pub written_passed_note : Totals → ℕ → ℕ → List ℕ
written_passed_note totals refused kept =
    codes "messages " ++ decimal totals.messages ++ codes " fields " ++ decimal totals.fields
    ++ codes " written " ++ decimal totals.written ++ codes " refused " ++ decimal refused ++ codes " kept " ++ decimal kept ++ 10 ∷ []

-- the octets of the message that was made, those that were written, the present points and the sum of their
-- scaled integers
abbrev pub made_note : ℕ → ℕ → ℕ → ℕ → List ℕ
made_note made written present sum =
    codes "made " ++ decimal made ++ codes " written " ++ decimal written ++ codes " present " ++ decimal present
    ++ codes " sum " ++ decimal sum ++ 10 ∷ []
