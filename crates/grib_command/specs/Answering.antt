-- What answering a message does.
use Rattle.std.specs.Prelude.{◌≡◌, ◌≢◌, ℕ, Bool, true, false, List, [], Ok, Err}
use Rattle.std.specs.declared.option.Option.{Option}
use Rattle.std.specs.declared.result.Result.{Result}
use Rattle.grib_io.specs.Outside.{Counted, Unfinished}
use Rattle.grib_io.specs.Shelves.{Held}
use Rattle.grib_io.specs.declared.outside.Stop.{Stop}
use Rattle.grib_io.specs.declared.outside.Stop.TheVariants as stops
use Rattle.grib_stream.specs.Acts.{Act, World, world, Did, DidFront}
use Rattle.grib_stream.specs.Task.{Given, Gives, Ends}
use Rattle.grib_command.specs.declared.answered.Answered.{Answered}
use Rattle.grib_command.specs.declared.answered.Answered.TheVariants.{Whole, Kept, WriteFault, ShelfFault, Memory}
use Rattle.grib_command.specs.Command.{kept_at}

-- what is done for a message; nothing, where it cannot be changed
abbrev pub acts_given : Given → List Act
acts_given (Gives acts written) = acts
acts_given (Ends outcome) = []

-- What message m gives was done whole, or is its cause, and nothing was done, or else a front of it was done.
abbrev pub Answers : Answered → ℕ → Given → World → World → Type 0
Answers (Whole written) m given before now = (acts : List Act) × (given ≡ Gives acts written) × Did before now acts
Answers (Kept cause) m given before now = (given ≡ Ends (kept_at m cause)) × Did before now []
Answers WriteFault m given before now = DidFront before now (acts_given given)
Answers ShelfFault m given before now = DidFront before now (acts_given given)
Answers Memory m given before now = DidFront before now (acts_given given)

-- what comes of a message within whose result the output stopped
abbrev pub answered_stopped : Stop → Answered
answered_stopped stops.Failed = WriteFault
answered_stopped stops.Memory = Memory

-- what comes of a message of which a text was to be printed
abbrev pub answered_printed : {T : Type 0} → Result T Stop → Answered
answered_printed (Ok done) = Whole 0
answered_printed (Err stop) = answered_stopped stop

-- what comes of a message of which octets were to be written and counted
abbrev pub answered_written : Result ℕ Stop → Answered
answered_written (Ok count) = Whole count
answered_written (Err stop) = answered_stopped stop

-- What answering message m does to the output and to the shelf, of which a job uses one. The fault by which it ends
-- is counted, and no other. Nothing of the output is finished.
pub record AnswersMessage {Sink Shelf : Type 0} (contents : Sink → Option (List ℕ)) (faults : Sink → ℕ) (settled : Sink → Bool) (names : Shelf → Option Held) (shelf_faults : Shelf → ℕ) (result : Answered) (m : ℕ) (given : Given) (shelved : Bool) (output output_now : Sink) (shelf shelf_now : Shelf) : Type 0 where
  pub answers : Answers result m given (world (contents output) (names shelf)) (world (contents output_now) (names shelf_now))
  pub write_fault : result ≡ WriteFault → Counted (faults output) (faults output_now)
  pub write_stays : result ≢ WriteFault → faults output_now ≡ faults output
  pub unfinished : Unfinished (settled output) (settled output_now)
  pub shelf_fault : result ≡ ShelfFault → Counted (shelf_faults shelf) (shelf_faults shelf_now)
  pub shelf_stays : result ≢ ShelfFault → shelf_faults shelf_now ≡ shelf_faults shelf
  pub shelf_kept : shelved ≡ false → shelf_now ≡ shelf
  pub unshelved : shelved ≡ false → result ≢ ShelfFault
  pub output_kept : shelved ≡ true → output_now ≡ output

-- message m is answered by the output alone
pub record AnswersByOutput {Sink : Type 0} (contents : Sink → Option (List ℕ)) (faults : Sink → ℕ) (settled : Sink → Bool) (result : Answered) (m : ℕ) (given : Given) (before now : Sink) : Type 0 where
  pub answers : (names : Option Held) → Answers result m given (world (contents before) names) (world (contents now) names)
  pub write_fault : result ≡ WriteFault → Counted (faults before) (faults now)
  pub write_stays : result ≢ WriteFault → faults now ≡ faults before
  pub unfinished : Unfinished (settled before) (settled now)
  pub unshelved : result ≢ ShelfFault

-- or by the shelf alone
pub record AnswersByShelf {Shelf : Type 0} (contents : Shelf → Option Held) (faults : Shelf → ℕ) (result : Answered) (m : ℕ) (given : Given) (before now : Shelf) : Type 0 where
  pub answers : (output : Option (List ℕ)) → Answers result m given (world output (contents before)) (world output (contents now))
  pub shelf_fault : result ≡ ShelfFault → Counted (faults before) (faults now)
  pub shelf_stays : result ≢ ShelfFault → faults now ≡ faults before
  pub unwritten : result ≢ WriteFault
