-- What is seen of the devices of a run before it and after it.
use Rattle.std.specs.Prelude.{◌≡◌, ℕ, ◌<◌, true, false, Bool, List}
use Rattle.std.specs.declared.option.Option.{Option}
use Rattle.grib_io.specs.Outside.{Unfinished}
use Rattle.grib_io.specs.Shelves.{Held}
use Rattle.grib_stream.specs.declared.outcome.Outcome.{Outcome}
use Rattle.grib_stream.specs.Acts.{World, world}
use Rattle.grib_stream.specs.Faults.{Faults, faults}
use Rattle.grib_stream.specs.Outcomes.{is_cut_short}
use Rattle.grib_items.specs.Deeds.{Outside, outside}

pub record Seen : Type 0 where
  -- what is left of the input, where it tells it
  pub left : Option (List ℕ)
  -- how often the input failed
  pub read_faults : ℕ
  -- what was written to the output, where it tells it
  pub output : Option (List ℕ)
  -- how often the output failed
  pub write_faults : ℕ
  -- whether nothing of the output waits for its end
  pub output_settled : Bool
  -- the same of the notes
  pub notes : Option (List ℕ)
  pub note_faults : ℕ
  pub notes_settled : Bool
  -- what stands under each name of the shelf, where it tells it
  pub names : Option Held
  -- how often the shelf failed
  pub shelf_faults : ℕ

-- what is seen of these four, each by what it tells
abbrev pub seen : {Source Output Notes Shelf : Type 0} → (Source → Option (List ℕ)) → (Source → ℕ) → (Output → Option (List ℕ)) → (Output → ℕ) → (Output → Bool) → (Notes → Option (List ℕ)) → (Notes → ℕ) → (Notes → Bool) → (Shelf → Option Held) → (Shelf → ℕ) → Source → Output → Notes → Shelf → Seen
seen left read_faults contents write_faults settled notes_contents note_faults notes_settled names shelf_faults input output notes shelf = record {
  left = left input;
  read_faults = read_faults input;
  output = contents output;
  write_faults = write_faults output;
  output_settled = settled output;
  notes = notes_contents notes;
  note_faults = note_faults notes;
  notes_settled = notes_settled notes;
  names = names shelf;
  shelf_faults = shelf_faults shelf;
}

abbrev pub world_of : Seen → World
world_of here = world here.output here.names

abbrev pub outside_of : Seen → Outside
outside_of here = outside (world_of here) here.notes

abbrev pub faults_of : Seen → Faults
faults_of here = faults here.read_faults here.write_faults here.note_faults here.shelf_faults

-- Output and notes are brought to their end, unless writing failed or there was no memory. After a fault of the output
-- neither is.
pub record Settles (outcome : Outcome) (before now : Seen) : Type 0 where
  pub settles : is_cut_short outcome ≡ false → (now.output_settled ≡ true) × (now.notes_settled ≡ true)
  pub unfinished : before.write_faults < now.write_faults → Unfinished before.notes_settled now.notes_settled
  pub output_unfinished : before.write_faults < now.write_faults → Unfinished before.output_settled now.output_settled
