-- What is noted of the outcomes of a run.
use Rattle.std.specs.Prelude.{ℕ, ◌⊎◌, List, [], ◌∷◌, ◌++◌, codes}
use Rattle.std.specs.Fmt.{decimal}
use Rattle.std.specs.declared.option.Option.{Option}
use Rattle.grib_io.specs.Outside.{AppendsFront}
use Rattle.grib_text.specs.Notes.{refusal_note}
use Rattle.grib_stream.specs.declared.outcome.Outcome.{Outcome}
use Rattle.grib_stream.specs.declared.outcome.Outcome.TheVariants.{Done, Passed, Differs, Usage, Refused, Kept, TableRefused, SurfacesRefused, FileRefused, ReadFault, WriteFault, ShelfFault, Memory, InputTooLong}
use Rattle.grib_command.specs.Notes.{kept_note, table_note, surfaces_note, file_note, passed_note}

-- the line that is noted, with its newline; what is noted of an input that was read to its end is another's to say
abbrev pub note_of : Outcome → List ℕ
note_of Done = []
note_of (Passed refused kept) = passed_note refused kept
note_of Differs = []
note_of (Usage word) = codes "usage word " ++ decimal word ++ 10 ∷ []
note_of (Refused refusal) = refusal_note refusal.message refusal.fault
note_of (Kept kept) = kept_note kept.message kept.cause
note_of (TableRefused refusal) = table_note refusal
note_of (SurfacesRefused refusal) = surfaces_note refusal
note_of (FileRefused refusal) = file_note refusal
note_of ReadFault = codes "read fault\n"
note_of WriteFault = []
note_of ShelfFault = codes "shelf fault\n"
note_of Memory = codes "memory\n"
note_of InputTooLong = codes "input too long\n"

-- the line that is noted, where this is noted of an input that was read to its end
abbrev pub note_with : List ℕ → Outcome → List ℕ
note_with done Done = done
note_with done outcome = note_of outcome

-- A front of the note of this outcome was appended, or of the note on memory, which ran out at the end.
abbrev pub NotesFront : Option (List ℕ) → Option (List ℕ) → List ℕ → Outcome → Type 0
NotesFront before now done outcome = AppendsFront before now (note_with done outcome) ⊎ AppendsFront before now (note_of Memory)
