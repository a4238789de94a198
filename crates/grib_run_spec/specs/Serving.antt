-- What a run leaves of its devices, by the stated answer.
use Rattle.std.specs.Prelude.{◌≡◌, ◌≢◌, ◌⊎◌, ℕ, ◌+◌, ◌^◌, ◌≤◌, Bool, true, false, List, [], ◌∷◌, ◌++◌, length, IfSome}
use Rattle.std.specs.declared.option.Option.{Option}
use Rattle.std.specs.Io.KnownBytes.{Appends, IsAtEnd}
use Rattle.std.specs.List.{concat}
use Rattle.grib_io.specs.Outside.{AppendsFront, Rose}
use Rattle.grib_io.specs.Shelves.{Held, Stays}
use Rattle.grib_stream.specs.declared.outcome.Outcome.{Outcome}
use Rattle.grib_stream.specs.declared.outcome.Outcome.TheVariants.{ReadFault, ShelfFault, Memory, InputTooLong}
use Rattle.grib_stream.specs.Acts.{DidFront}
use Rattle.grib_stream.specs.Faults.{Faults, CountsRun}
use Rattle.grib_stream.specs.Outcomes.{is_broken, is_cut_short, KeepsOrCuts, is_whole}
use Rattle.grib_stream.specs.Reading.{Takes}
use Rattle.grib_items.specs.declared.policy.Policy.{Policy}
use Rattle.grib_items.specs.Deeds.{Done, deeds, then}
use Rattle.grib_items.specs.Run.{answer_of}
use Rattle.grib_command.specs.Command.{Command}
use Rattle.grib_command.specs.Outcomes.{note_of}
use Rattle.grib_run_spec.specs.Seen.{Seen, world_of, outside_of, faults_of, Settles}
use Rattle.grib_run_spec.specs.Stated.{IfAsked, IfStated, deeds_of, plan_by, stated_to}
use Rattle.grib_run_spec.specs.Tasks.{Stated, Work, has_shelf, has_table}

-- ---- what is noted

-- this was noted behind some front of the lines
abbrev pub NotedBehind : Stated → List ℕ → Option (List ℕ) → Option (List ℕ) → Type 0
NotedBehind stated note before now = (front rest : List ℕ) × (concat stated.lines ≡ front ++ rest) × Appends before now (front ++ note)

-- some front of this was noted behind some front of the lines
abbrev pub NotedFrontBehind : Stated → List ℕ → Option (List ℕ) → Option (List ℕ) → Type 0
NotedFrontBehind stated note before now = (front rest : List ℕ) × (concat stated.lines ≡ front ++ rest) × AppendsFront before now (front ++ note)

-- A device or a lack of memory broke the run, which this tells, and some front of its note came behind some front of the
-- lines.
abbrev pub NotesBreak : (Outcome → Type 0) → Stated → Option (List ℕ) → Option (List ℕ) → Type 0
NotesBreak Tells stated before now =
    (broke : Outcome) × (is_broken broke ≡ true) × Tells broke × NotedFrontBehind stated (note_of broke) before now

-- some front of the lines and the note was noted, or the note on what broke the run behind some front of the lines
abbrev pub NotesSome : (Outcome → Type 0) → Stated → Option (List ℕ) → Option (List ℕ) → Type 0
NotesSome Tells stated before now = AppendsFront before now (concat (deeds_of stated).lines) ⊎ NotesBreak Tells stated before now

-- what tells that a device broke: its count of faults rose
abbrev pub IsCounted : Faults → Faults → Outcome → Type 0
IsCounted before now ReadFault = Rose before.input now.input
IsCounted before now ShelfFault = Rose before.shelf now.shelf
IsCounted before now outcome = Unit {0}

-- ---- the answer

-- The outcome is that of the answer, and all was done and noted, unless a device or a lack of memory ended the run. Then
-- some front of it was, and the note says what broke.
pub record Gives (stated : Stated) (outcome : Outcome) (before now : Seen) : Type 0 where
  pub ends : is_broken outcome ≡ false → outcome ≡ stated.outcome
  pub whole : is_broken outcome ≡ false → Done (outside_of before) (outside_of now) (deeds_of stated)
  pub front : DidFront (world_of before) (world_of now) stated.acts
  pub noted_front : NotesSome (λ broke. KeepsOrCuts broke outcome) stated before.notes now.notes
  pub noted : is_broken outcome ≡ true → is_cut_short outcome ≡ false → NotedBehind stated (note_of outcome) before.notes now.notes

-- These octets were taken: no more than are answered, and one where that shows that the input is too long. What was done
-- and noted is the answer to them, whatever the input tells of itself. After a fault of the input it is what they give
-- while more may follow, and the note on the fault.
pub record Taken (command : Command) (policy : Policy) (taken : List ℕ) (outcome : Outcome) (before now : Seen) : Type 0 where
  pub most : length taken ≤ 2 ^ 40 + 1
  pub short : is_broken outcome ≡ false → outcome ≢ InputTooLong → length taken ≤ 2 ^ 40
  pub long : outcome ≡ InputTooLong → length taken ≡ 2 ^ 40 + 1
  pub answered : Gives (stated_to command policy taken) outcome before now
  pub read_fault : outcome ≡ ReadFault → Done (outside_of before) (outside_of now) (then (answer_of (plan_by command policy) true taken).deeds (deeds [] (note_of ReadFault ∷ [])))

-- a command answers the input: by what was left of it, where that is told, and by what was taken
pub record Reading (policy : Policy) (outcome : Outcome) (before now : Seen) (command : Command) : Type 0 where
  pub gives : IfSome before.left (λ input. Gives (stated_to command policy input) outcome before now)
  pub taken : (taken : List ℕ) × Takes before.left now.left taken × Taken command policy taken outcome before now
  pub end : is_whole outcome ≡ true → IsAtEnd now.left

-- what is stated at once, whatever the input holds
pub record AtOnce (outcome : Outcome) (before now : Seen) (stated : Stated) : Type 0 where
  pub gives : Gives stated outcome before now
  pub unread : outcome ≢ ReadFault

-- what is asked was answered
abbrev pub AnswersWork : Work → Policy → Outcome → Seen → Seen → Type 0
AnswersWork work policy outcome before now = IfAsked work before.names (Reading policy outcome before now) (AtOnce outcome before now)

-- ---- a whole run

-- a note on what broke is noted only where the count of a device tells it
abbrev pub NotesTold : Work → Policy → Seen → Seen → Type 0
NotesTold work policy before now =
    IfStated work policy before.names before.left (λ stated. NotesSome (IsCounted (faults_of before) (faults_of now)) stated before.notes now.notes)

-- output and notes are brought to their end, with the note on memory behind some front of the lines
abbrev pub Stands : Work → Policy → Seen → Seen → Type 0
Stands work policy before now =
    (now.output_settled ≡ true) × ((now.notes_settled ≡ true)
    × IfStated work policy before.names before.left (λ stated. NotedBehind stated (note_of Memory) before.notes now.notes))

-- what holds of the input where it is not read: nothing is to be read, or the table is refused
abbrev pub IfUnread : Work → Option Held → Type 0 → Type 0
IfUnread work names P = IfAsked work names (λ command. Unit {0}) (λ stated. P)

-- A whole run of what is asked: whether one of its sinks may stop for memory.
pub record Serves (takes_memory : Bool) (work : Work) (policy : Policy) (outcome : Outcome) (before now : Seen) : Type 0 where
  -- what was done and noted, how the run ended, and how much of the input was taken
  pub answer : AnswersWork work policy outcome before now
  -- a note on what broke is noted only where the count of a device tells it
  pub told : NotesTold work policy before now
  -- output and notes are brought to their end
  pub settled : Settles outcome before now
  -- where neither sink takes memory, after a lack of memory too
  pub stands : takes_memory ≡ false → outcome ≡ Memory → Stands work policy before now
  -- the faults of the devices
  pub counts : CountsRun outcome (faults_of before) (faults_of now)
  -- a run that does not use the shelf does not end with a fault of it, and a table stays as it is
  pub unshelved : has_shelf work ≡ false → outcome ≢ ShelfFault
  pub table_stays : has_table work ≡ true → Stays before.names now.names
