-- How soon a message is refused.
use Rattle.std.specs.Prelude.{◌≡◌, ◌≢◌, ℕ, ◌+◌, ◌≤◌, ◌⊎◌, Bool, true, false, List, ◌++◌, length, take}
use Rattle.std.specs.declared.option.Option.{Option}
use Rattle.grib_stream.specs.Reading.{Takes}
use Rattle.grib_base.specs.declared.fault.Refusal.{Refusal}
use Rattle.grib_stream.specs.declared.outcome.Outcome.{Outcome}
use Rattle.grib_stream.specs.declared.outcome.Outcome.TheVariants.{Refused}
use Rattle.grib_stream.specs.declared.place.Place.{Place}
use Rattle.grib_stream.specs.Stream.{Judgement, begins}
use Rattle.grib_stream.specs.Searching.{Markless}
use Rattle.grib_stream.specs.Cutting.{EndsAtMessage, message_count}
use Rattle.grib_stream.specs.Outcomes.{is_truncated}
use Rattle.grib_stream.specs.Task.{Task, Ends}
use Rattle.grib_stream.specs.Hearing.{is_closed}

-- Where message n of an input stands: behind the messages before it, and octets in which none begins. `rest` is the
-- input from its first octet on.
pub record StandsAt (judge : List ℕ → Judgement) (input : List ℕ) (n before : ℕ) (rest : List ℕ) : Type 0 where
  pub messages : List ℕ
  pub between : List ℕ
  pub is : input ≡ messages ++ (between ++ rest)
  pub ends : EndsAtMessage judge messages
  pub counted : message_count judge messages + 1 ≡ n
  pub none : Markless (length between) (between ++ rest)
  pub before_is : before ≡ length messages + length between
  pub begun : begins rest ≡ true

-- a message that is heard, or is refused by its first eight octets
abbrev pub IsPrompt : (List ℕ → Bool) → (List ℕ → Judgement) → List ℕ → Type 0
IsPrompt hears judge rest = (hears (take 8 rest) ≡ true) ⊎ (is_closed (judge (take 8 rest)) ≡ true)

-- Of these octets message n is refused, and where it is heard, they go on for no more than one read behind the first
-- of them by which it is.
pub record IsSoon (hears : List ℕ → Bool) (judge : List ℕ → Judgement) (taken : List ℕ) (n : ℕ) : Type 0 where
  pub before : ℕ
  pub rest : List ℕ
  pub place : StandsAt judge taken n before rest
  pub bound : IsPrompt hears judge rest → (k : ℕ) → is_closed (judge (take k rest)) ≡ true → length taken ≤ before + k + 65536

-- A run that ends with a refusal for another reason than the end of the input, where the task itself refuses no
-- message, took no more than that.
abbrev pub RefusesSoon : (List ℕ → Bool) → Task → Outcome → Option (List ℕ) → Option (List ℕ) → Type 0
RefusesSoon hears task outcome left left_now =
    (refusal : Refusal) → outcome ≡ Refused refusal → is_truncated refusal.fault.reason ≡ false
    → ((place : Place) (message : List ℕ) → task.result place message ≢ Ends outcome)
    → (taken : List ℕ) × Takes left left_now taken × IsSoon hears task.judge taken refusal.message
