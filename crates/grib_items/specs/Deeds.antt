-- What is done: acts for the output and the names of a shelf, and lines for the notes.
use Rattle.std.specs.Prelude.{ℕ, List, ◌++◌, []}
use Rattle.std.specs.declared.option.Option.{Option}
use Rattle.std.specs.Io.KnownBytes.{Appends}
use Rattle.std.specs.List.{concat}
use Rattle.grib_io.specs.Outside.{AppendsFront}
use Rattle.grib_stream.specs.Acts.{Act, World, Did, DidFront}

pub record Deeds : Type 0 where
  pub acts : List Act
  pub lines : List (List ℕ)

abbrev pub deeds : List Act → List (List ℕ) → Deeds
deeds acts lines = record { acts = acts; lines = lines }

abbrev pub no_deeds : Deeds
no_deeds = deeds [] []

-- the first, and then the second
abbrev pub then : Deeds → Deeds → Deeds
then first second = deeds (first.acts ++ second.acts) (first.lines ++ second.lines)

-- what the output and the names hold, and what the notes hold, where they tell it
pub record Outside : Type 0 where
  pub world : World
  pub notes : Option (List ℕ)

abbrev pub outside : World → Option (List ℕ) → Outside
outside world notes = record { world = world; notes = notes }

-- this was done, and nothing else
pub record Done (before now : Outside) (deeds : Deeds) : Type 0 where
  pub did : Did before.world now.world deeds.acts
  pub noted : Appends before.notes now.notes (concat deeds.lines)

-- some front of the acts was done, and some front of the lines was noted
pub record DoneFront (before now : Outside) (deeds : Deeds) : Type 0 where
  pub did : DidFront before.world now.world deeds.acts
  pub noted : AppendsFront before.notes now.notes (concat deeds.lines)
