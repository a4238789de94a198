-- A message that is heard, and answered where it is whole.
use Rattle.std.specs.Prelude.{◌≡◌, ℕ, ◌⊎◌, List, [], length, Ok, Err}
use Rattle.std.specs.declared.option.Option.{Option}
use Rattle.std.specs.declared.result.Result.{Result}
use Rattle.std.specs.Io.KnownBytes.{IsAtEnd}
use Rattle.grib_base.specs.declared.fault.Fault.{Fault}
use Rattle.grib_base.specs.declared.fault.Refusal.{Refusal}
use Rattle.grib_stream.specs.declared.outcome.Outcome.{Outcome}
use Rattle.grib_stream.specs.declared.outcome.Outcome.TheVariants.{Refused, ReadFault, Memory, InputTooLong}
use Rattle.grib_stream.specs.declared.place.Place.{Place}
use Rattle.grib_stream.specs.declared.performer.Whole.{Whole}
use Rattle.grib_stream.specs.declared.performer.Performed.TheVariants.{Whole as Answered}
use Rattle.grib_stream.specs.Stream.{Message}
use Rattle.grib_stream.specs.Acts.{World, Did}
use Rattle.grib_stream.specs.Task.{Task, next_of}
use Rattle.grib_stream.specs.Performed.{Performs, EndsWith}
use Rattle.grib_stream.specs.Reading.{Takes}
use Rattle.grib_stream.specs.Hearing.{Heeds, IsRefused, IsCutOff, IsNoMessage}

-- a refusal of the message at a place
abbrev pub refusal_at : Place → Fault → Refusal
refusal_at place fault = record { message = place.message; fault = fault }

-- octets that were heard are refused, whatever follows
abbrev pub RefusesHeard : Task → Place → Outcome → List ℕ → Type 0
RefusesHeard task place outcome octets = (fault : Fault) × IsRefused task.judge fault octets × (outcome ≡ Refused (refusal_at place fault))

-- or for their end
abbrev pub CutsHeard : Task → Place → Outcome → List ℕ → Type 0
CutsHeard task place outcome octets = (fault : Fault) × IsCutOff task.judge fault octets × (outcome ≡ Refused (refusal_at place fault))

-- a message that was heard whole ends the run
abbrev pub StopsHeard : Task → Place → Outcome → World → World → List ℕ → Type 0
StopsHeard task place outcome before now octets = (task.judge octets ≡ Message (length octets)) × EndsWith (next_of task place octets) outcome before now

-- as many octets were taken as are answered, and the input goes on
pub record GoesOn (task : Task) (a c : Option (List ℕ)) (first : List ℕ) (left left_now : ℕ) : Type 0 where
  pub middle : Option (List ℕ)
  pub heard : Heeds a middle first [] left left_now (λ octets. (fault : Fault) × IsCutOff task.judge fault octets)
  pub full : left_now ≡ 0
  pub piece : List ℕ
  pub one : length piece ≡ 1
  pub taken : Takes middle c piece

-- how a run ends within a message that is heard: what was heard is refused, or is a message that ends it, or the
-- input ends or fails or is too long, or there is no memory
abbrev pub EndsHeard : Task → Place → Outcome → Option (List ℕ) → Option (List ℕ) → List ℕ → List ℕ → ℕ → ℕ → World → World → Type 0
EndsHeard task place outcome a c first pending left left_now before now =
    (Heeds a c first [] left left_now (RefusesHeard task place outcome) × Did before now [])
    ⊎ (Heeds a c first pending left left_now (StopsHeard task place outcome before now)
    ⊎ ((Heeds a c first [] left left_now (CutsHeard task place outcome) × (IsAtEnd c × Did before now []))
    ⊎ (((outcome ≡ InputTooLong) × (GoesOn task a c first left left_now × Did before now []))
    ⊎ (((outcome ≡ ReadFault) × (Heeds a c first [] left left_now (IsNoMessage task.judge) × Did before now []))
    ⊎ ((outcome ≡ Memory) × (Heeds a c first [] left left_now (λ octets. Unit {0}) × Did before now []))))))

abbrev pub AnswersHeard : Task → Place → Result Whole Outcome → Option (List ℕ) → Option (List ℕ) → List ℕ → List ℕ → ℕ → ℕ → World → World → Type 0
AnswersHeard task place (Ok message) a c first pending left left_now before now =
    Heeds a c first pending left left_now (λ octets. (task.judge octets ≡ Message (length octets)) × Performs (next_of task place octets) (Answered message) before now)
AnswersHeard task place (Err outcome) a c first pending left left_now before now =
    EndsHeard task place outcome a c first pending left left_now before now
