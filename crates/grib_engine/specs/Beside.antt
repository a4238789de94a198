-- What is seen where only the output and the notes are used: the input and the shelf are as they are in `rest`.
use Rattle.std.specs.Prelude.{ℕ, Bool, List}
use Rattle.std.specs.declared.option.Option.{Option}
use Rattle.grib_run_spec.specs.Seen.{Seen}

abbrev pub beside : {Output Notes : Type 0} → Seen → (Output → Option (List ℕ)) → (Output → ℕ) → (Output → Bool) → (Notes → Option (List ℕ)) → (Notes → ℕ) → (Notes → Bool) → Output → Notes → Seen
beside rest contents write_faults settled notes_contents note_faults notes_settled output notes = record rest {
  output = contents output;
  write_faults = write_faults output;
  output_settled = settled output;
  notes = notes_contents notes;
  note_faults = note_faults notes;
  notes_settled = notes_settled notes;
}
