-- The end of a run: what it leaves of the output and of the notes. A sink is seen by what it tells of its octets, by
-- the count of its faults, and by what is settled: whether nothing of it waits for `finish`.
use Rattle.std.specs.Prelude.{◌≡◌, ◌≢◌, ◌<◌, ◌⊎◌, ℕ, Bool, true, false, ◌&&◌, ◌==◌, List, length}
use Rattle.std.specs.declared.option.Option.{Option}
use Rattle.std.specs.Io.KnownBytes.{Appends, Keeps}
use Rattle.grib_io.specs.Outside.{AppendsFront, Unfinished}
use Rattle.grib_stream.specs.Faults.{OneCounted}
use Rattle.grib_stream.specs.Outcomes.{is_cut_short}
use Rattle.grib_stream.specs.declared.outcome.Outcome.{Outcome}
use Rattle.grib_stream.specs.declared.outcome.Outcome.TheVariants.{WriteFault, Memory}
use Rattle.grib_command.specs.Counts.{NoneCounted}
use Rattle.grib_command.specs.Outcomes.{note_of, note_with, NotesFront}

-- after these octets were written, and the sink was not finished after them: where there are any, they wait
abbrev pub settled_after : Bool → List ℕ → Bool
settled_after before octets = before && (length octets == 0)

-- the whole note was appended, and nothing waits for `finish`
abbrev pub StandsWhole : {Output Notes : Type 0} → (Output → Bool) → (Notes → Option (List ℕ)) → (Notes → Bool) → List ℕ → Output → Notes → Notes → Type 0
StandsWhole settled notes_contents notes_settled note output_now notes notes_now =
    Appends (notes_contents notes) (notes_contents notes_now) note × ((settled output_now ≡ true) × (notes_settled notes_now ≡ true))

-- How far the end of a run came: to the note, with the output as it was and nothing finished; to the output, which was
-- not finished, with the note appended and not finished; or past the output, which is settled.
abbrev pub EndsInTurn : {Output Notes : Type 0} → (Output → ℕ) → (Output → Bool) → (Notes → Option (List ℕ)) → (Notes → ℕ) → (Notes → Bool) → List ℕ → Output → Output → Notes → Notes → Type 0
EndsInTurn faults settled notes_contents notes_faults notes_settled note output output_now notes notes_now =
    ((output_now ≡ output) × Unfinished (notes_settled notes) (notes_settled notes_now))
    ⊎ ((Appends (notes_contents notes) (notes_contents notes_now) note
    × (notes_faults notes_now ≡ notes_faults notes)
    × (notes_settled notes_now ≡ settled_after (notes_settled notes) note)
    × (settled output_now ≡ settled output))
    ⊎ (Appends (notes_contents notes) (notes_contents notes_now) note
    × (faults output_now ≡ faults output)
    × (settled output_now ≡ true)))

-- A run ends with this outcome and this note. A fault that comes then is counted, and no other.
pub record ClosesRun {Output Notes : Type 0} (contents : Output → Option (List ℕ)) (faults : Output → ℕ) (settled : Output → Bool) (notes_contents : Notes → Option (List ℕ)) (notes_faults : Notes → ℕ) (notes_settled : Notes → Bool) (outcome : Outcome) (note : List ℕ) (result : Outcome) (output output_now : Output) (notes notes_now : Notes) : Type 0 where
  pub one_of : (result ≡ outcome) ⊎ ((result ≡ WriteFault) ⊎ (result ≡ Memory))
  pub fault : outcome ≢ WriteFault → result ≡ WriteFault → OneCounted (faults output) (faults output_now) (notes_faults notes) (notes_faults notes_now)
  pub none_counted : result ≢ WriteFault → NoneCounted (faults output) (faults output_now) (notes_faults notes) (notes_faults notes_now)
  pub noted : is_cut_short result ≡ false → Appends (notes_contents notes) (notes_contents notes_now) note
  pub noted_front : AppendsFront (notes_contents notes) (notes_contents notes_now) note
  pub settles : is_cut_short result ≡ false → (settled output_now ≡ true) × (notes_settled notes_now ≡ true)
  pub output_kept : Keeps (contents output) (contents output_now)
  pub order : EndsInTurn faults settled notes_contents notes_faults notes_settled note output output_now notes notes_now

-- A run ends with this outcome, and `done` is noted where it is Done. A fault that comes then is counted, and no other;
-- after a fault of the output neither the notes nor the output are finished.
pub record EndsRun {Output Notes : Type 0} (contents : Output → Option (List ℕ)) (faults : Output → ℕ) (settled : Output → Bool) (notes_contents : Notes → Option (List ℕ)) (notes_faults : Notes → ℕ) (notes_settled : Notes → Bool) (outcome : Outcome) (done : List ℕ) (result : Outcome) (output output_now : Output) (notes notes_now : Notes) : Type 0 where
  pub one_of : (result ≡ outcome) ⊎ ((result ≡ WriteFault) ⊎ (result ≡ Memory))
  pub fault : outcome ≢ WriteFault → result ≡ WriteFault → OneCounted (faults output) (faults output_now) (notes_faults notes) (notes_faults notes_now)
  pub none_counted : result ≢ WriteFault → NoneCounted (faults output) (faults output_now) (notes_faults notes) (notes_faults notes_now)
  pub noted : is_cut_short result ≡ false → Appends (notes_contents notes) (notes_contents notes_now) (note_with done result)
  pub noted_front : NotesFront (notes_contents notes) (notes_contents notes_now) done outcome
  pub settles : is_cut_short result ≡ false → (settled output_now ≡ true) × (notes_settled notes_now ≡ true)
  pub unfinished : faults output < faults output_now → Unfinished (notes_settled notes) (notes_settled notes_now)
  pub output_unfinished : faults output < faults output_now → Unfinished (settled output) (settled output_now)

-- A run ends with this outcome and this note, or with a fault of writing, or for memory and with the note on it. A fault
-- that comes then is counted, and no other; after a fault of the output neither the notes nor the output are finished.
pub record EndsNoted {Output Notes : Type 0} (contents : Output → Option (List ℕ)) (faults : Output → ℕ) (settled : Output → Bool) (notes_contents : Notes → Option (List ℕ)) (notes_faults : Notes → ℕ) (notes_settled : Notes → Bool) (outcome : Outcome) (note : List ℕ) (result : Outcome) (output output_now : Output) (notes notes_now : Notes) : Type 0 where
  pub one_of : (result ≡ outcome) ⊎ ((result ≡ WriteFault) ⊎ (result ≡ Memory))
  pub fault : outcome ≢ WriteFault → result ≡ WriteFault → OneCounted (faults output) (faults output_now) (notes_faults notes) (notes_faults notes_now)
  pub none_counted : result ≢ WriteFault → NoneCounted (faults output) (faults output_now) (notes_faults notes) (notes_faults notes_now)
  pub noted : is_cut_short result ≡ false → Appends (notes_contents notes) (notes_contents notes_now) note
  pub noted_front : AppendsFront (notes_contents notes) (notes_contents notes_now) note ⊎ AppendsFront (notes_contents notes) (notes_contents notes_now) (note_of Memory)
  pub settles : is_cut_short result ≡ false → (settled output_now ≡ true) × (notes_settled notes_now ≡ true)
  pub unfinished : faults output < faults output_now → Unfinished (notes_settled notes) (notes_settled notes_now)
  pub output_unfinished : faults output < faults output_now → Unfinished (settled output) (settled output_now)
