-- What is to be done with the messages of an input, as far as a run over them has to know it.
use Rattle.std.specs.Prelude.{◌≡◌, ℕ, ◌*◌, ◌≤◌, true, false, List, [], ◌++◌, length, take}
use Rattle.grib_base.specs.declared.fault.Fault.{Fault}
use Rattle.grib_base.specs.declared.limits.TheConstants.{MOST_OCTETS}
use Rattle.grib_stream.specs.declared.outcome.Outcome.{Outcome}
use Rattle.grib_stream.specs.declared.place.Place.{Place}
use Rattle.grib_stream.specs.declared.place.Totals.{Totals}
use Rattle.grib_stream.specs.Stream.{Judgement, Message, Faulty, begins}
use Rattle.grib_stream.specs.Acts.{Act}
use Rattle.grib_stream.specs.Outcomes.{is_truncated, is_of_message}

-- the result of a message: what is done for it, and how many octets of that are counted as written, or the
-- outcome with which the run ends before it
pub data Given : Type 0 where
  Gives : List Act → ℕ → Given
  Ends : Outcome → Given

-- what is done at the end of the input, and what is noted of it
pub record Ending : Type 0 where
  pub acts : List Act
  pub note : List ℕ

pub record Task : Type 0 where
  -- what the octets from a `GRIB` on are
  pub judge : List ℕ → Judgement
  -- how many fields a message has
  pub fields : List ℕ → ℕ
  -- the result of a message
  pub result : Place → List ℕ → Given
  -- the end of the input
  pub ending : Totals → Ending
  -- what is noted of another outcome
  pub note : Outcome → List ℕ

-- What is said of octets stays said whatever follows them, but for the refusal of octets that end too
-- early. An accepted length is at least 4, its octets are there, and the acceptance rests on them alone. An
-- outcome with which a run ends at a message is one of a message. For each 20 octets of a message that begins
-- with `GRIB`, the fewest that a field has, at most 268435456 octets are counted as written, the most that a
-- message has: so the sum over an input of 2 ^ 40 octets fits 64 bits.
pub record IsLawful (task : Task) : Type 0 where
  pub message_stays : (octets more : List ℕ) (total : ℕ) → task.judge octets ≡ Message total → task.judge (octets ++ more) ≡ Message total
  pub refusal_stays : (octets more : List ℕ) (fault : Fault) → task.judge octets ≡ Faulty fault → is_truncated fault.reason ≡ false
      → task.judge (octets ++ more) ≡ Faulty fault
  pub least : (octets : List ℕ) (total : ℕ) → task.judge octets ≡ Message total → 4 ≤ total
  pub there : (octets : List ℕ) (total : ℕ) → task.judge octets ≡ Message total → total ≤ length octets
  pub alone : (octets : List ℕ) (total : ℕ) → task.judge octets ≡ Message total → task.judge (take total octets) ≡ Message total
  pub few_fields : (octets : List ℕ) (total : ℕ) → task.judge octets ≡ Message total → task.fields (take total octets) ≤ total
  pub few_written : (place : Place) (octets : List ℕ) (total : ℕ) (acts : List Act) (written : ℕ) → begins octets ≡ true → task.judge octets ≡ Message total
      → task.result place (take total octets) ≡ Gives acts written → 20 * written ≤ MOST_OCTETS * total
  pub ends_at_message : (place : Place) (message : List ℕ) (outcome : Outcome) → task.result place message ≡ Ends outcome → is_of_message outcome ≡ true

-- what comes next of the octets from a `GRIB` on: a message of this length with this many fields, for which
-- this many octets are counted as written and this is done; a refusal; or an end with this outcome
pub data Next : Type 0 where
  Whole : ℕ → ℕ → ℕ → List Act → Next
  Refuses : Fault → Next
  Stops : Outcome → Next

abbrev pub next_given : Given → ℕ → ℕ → Next
next_given (Gives acts written) total fields = Whole total fields written acts
next_given (Ends outcome) total fields = Stops outcome

abbrev pub next_judged : Judgement → (ℕ → Next) → Next
next_judged (Message total) next = next total
next_judged (Faulty fault) next = Refuses fault

abbrev pub next_of : Task → Place → List ℕ → Next
next_of task place octets =
    next_judged (task.judge octets)
    (λ total. next_given (task.result place (take total octets)) total (task.fields (take total octets)))

-- what is done for it
abbrev pub acts_of : Next → List Act
acts_of (Whole total fields written acts) = acts
acts_of (Refuses fault) = []
acts_of (Stops outcome) = []
