-- The counts of faults of the four objects of a run, before and after.
use Rattle.std.specs.Prelude.{◌≡◌, ℕ, ◌<◌, ◌≤◌, ◌⊎◌}
use Rattle.grib_io.specs.Outside.{Rose, Counted}
use Rattle.grib_stream.specs.declared.outcome.Outcome.{Outcome}
use Rattle.grib_stream.specs.declared.outcome.Outcome.TheVariants.{ReadFault, WriteFault, ShelfFault}
use Rattle.grib_stream.specs.Outcomes.{KeepsOrCuts}

pub record Faults : Type 0 where
  pub input : ℕ
  pub output : ℕ
  pub notes : ℕ
  pub shelf : ℕ

abbrev pub faults : ℕ → ℕ → ℕ → ℕ → Faults
faults input output notes shelf = record { input = input; output = output; notes = notes; shelf = shelf }

-- one of two objects counted a fault, and the count of the other did not change
abbrev pub OneCounted : ℕ → ℕ → ℕ → ℕ → Type 0
OneCounted first first_now second second_now =
    (Counted first first_now × (second_now ≡ second)) ⊎ ((first_now ≡ first) × Counted second second_now)

-- After a whole run: a fault is answered where the count of that object rose, and where a count is greater
-- than before, the outcome says so, or a fault of writing, or that there is no memory that came after it. None falls.
pub record CountsRun (outcome : Outcome) (before now : Faults) : Type 0 where
  pub read_fault : outcome ≡ ReadFault → Rose before.input now.input
  pub write_fault : outcome ≡ WriteFault → OneCounted before.output now.output before.notes now.notes
  pub shelf_fault : outcome ≡ ShelfFault → Rose before.shelf now.shelf
  pub input_counted : before.input < now.input → KeepsOrCuts ReadFault outcome
  pub output_counted : before.output < now.output → outcome ≡ WriteFault
  pub notes_counted : before.notes < now.notes → outcome ≡ WriteFault
  pub shelf_counted : before.shelf < now.shelf → KeepsOrCuts ShelfFault outcome
  pub input_stays : before.input ≤ now.input
  pub output_stays : before.output ≤ now.output
  pub notes_stay : before.notes ≤ now.notes
  pub shelf_stays : before.shelf ≤ now.shelf
