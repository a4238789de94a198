-- What is printed and noted at the end of an input that was read to its end.
use Rattle.std.specs.Prelude.{ℕ, ◌-◌, ◌==◌, ◌&&◌, Bool, cond, min, List, [], ◌∷◌, ◌++◌, codes}
use Rattle.std.specs.Fmt.{decimal}
use Rattle.grib_stream.specs.declared.outcome.Outcome.{Outcome}
use Rattle.grib_stream.specs.declared.outcome.Outcome.TheVariants.{Done, Differs}
use Rattle.grib_stream.specs.declared.place.Totals.{Totals}
use Rattle.grib_text.specs.Lines.{total_line}
use Rattle.grib_command.specs.declared.ending.Ending.{Ending}
use Rattle.grib_command.specs.declared.ending.Ending.TheVariants.{Silent, Total, Written, Compared}
use Rattle.grib_command.specs.Notes.{written_note, written_passed_note, passed_note}

-- counts of fields: of the input, of these the same, that differ, and that stand on one side alone
abbrev pub counts_line : ℕ → ℕ → ℕ → ℕ → ℕ → List ℕ
counts_line fields same differing only_here only_there =
    codes "fields " ++ decimal fields ++ codes " same " ++ decimal same ++ codes " differ " ++ decimal differing
    ++ codes " only-input " ++ decimal only_here ++ codes " only-file " ++ decimal only_there ++ 10 ∷ []

-- the last line of a comparison: of the fields of the input, those that differ from their counterparts, and those of the
-- file; the first field of the one is compared with the first of the other, and so on
abbrev pub comparison_line : ℕ → ℕ → ℕ → List ℕ
comparison_line fields differing in_file =
    let both = min fields in_file in counts_line fields (both - differing) differing (fields - both) (in_file - both)

abbrev pub ending_text : Ending → Totals → List ℕ
ending_text Silent totals = []
ending_text Total totals = total_line totals.messages totals.fields totals.skipped
ending_text Written totals = []
ending_text (Compared in_file) totals = comparison_line totals.fields totals.written in_file

abbrev pub ending_note : Ending → Totals → List ℕ
ending_note Silent totals = []
ending_note Total totals = []
ending_note Written totals = written_note totals
ending_note (Compared in_file) totals = []

-- where this many refusals were passed and this many messages not changed
abbrev pub passed_ending_note : Ending → Totals → ℕ → ℕ → List ℕ
passed_ending_note Silent totals refused kept = passed_note refused kept
passed_ending_note Total totals refused kept = passed_note refused kept
passed_ending_note Written totals refused kept = written_passed_note totals refused kept
passed_ending_note (Compared in_file) totals refused kept = passed_note refused kept

-- how the run ends then: an input differs from a file unless each has as many fields as the other, and none differs
abbrev pub ending_outcome : Ending → Totals → Outcome
ending_outcome (Compared in_file) totals = cond ((totals.written == 0) && (totals.fields == in_file)) Done Differs
ending_outcome _ totals = Done
