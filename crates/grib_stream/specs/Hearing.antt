-- A message that is judged as its octets come.
use Rattle.std.specs.Prelude.{◌≡◌, ◌≢◌, ℕ, ◌+◌, ◌<◌, ◌≤◌, Bool, true, false, not, List, [], ◌++◌, length, take, Some, None, Ok, Err}
use Rattle.std.specs.declared.option.Option.{Option}
use Rattle.std.specs.declared.result.Result.{Result}
use Rattle.std.specs.Io.KnownBytes.{IsAtEnd}
use Rattle.grib_base.specs.declared.fault.Fault.{Fault}
use Rattle.grib_io.specs.declared.outside.Stop.{Stop}
use Rattle.grib_io.specs.declared.outside.Stop.TheVariants as stops
use Rattle.grib_stream.specs.declared.hearing.HearStop.{HearStop}
use Rattle.grib_stream.specs.declared.hearing.HearStop.TheVariants.{Refused, Memory}
use Rattle.grib_stream.specs.declared.listening.Heard.{Heard}
use Rattle.grib_stream.specs.declared.listening.Heard.TheVariants as heard
use Rattle.grib_stream.specs.Stream.{Judgement, Message, Faulty}
use Rattle.grib_stream.specs.Outcomes.{is_truncated}
use Rattle.grib_stream.specs.Reading.{Gathers}

-- whether octets are refused, whatever follows
abbrev pub is_closed : Judgement → Bool
is_closed (Message total) = false
is_closed (Faulty fault) = not (is_truncated fault.reason)

-- a piece may be heard: what was heard before is no whole message, and it begins as it has to
abbrev pub CanHear : (List ℕ → Judgement) → (List ℕ → Bool) → (List ℕ → Type 0) → List ℕ → Type 0
CanHear judge hears Heard piece =
    (octets : List ℕ) × Heard octets × (judge octets ≢ Message (length octets)) × (hears (take 8 (octets ++ piece)) ≡ true)

-- this many octets of a piece were heard behind others: all of them, unless a message is whole before its end
pub record HearsFront (judge : List ℕ → Judgement) (Heard : List ℕ → Type 0) (octets piece : List ℕ) (count : ℕ) : Type 0 where
  pub within : count ≤ length piece
  pub heard : Heard (octets ++ take count piece)
  pub unrefused : is_closed (judge (octets ++ piece)) ≡ false
  pub whole : count < length piece → judge (octets ++ take count piece) ≡ Message (length (octets ++ take count piece))

-- a piece was heard, or the octets are refused with it, whatever follows, or there is no memory
abbrev pub Hears : (List ℕ → Judgement) → (List ℕ → Type 0) → (List ℕ → Type 0) → List ℕ → Result ℕ HearStop → Type 0
Hears judge Before Now piece (Ok count) = (octets : List ℕ) → Before octets → HearsFront judge Now octets piece count
Hears judge Before Now piece (Err (Refused fault)) =
    (octets : List ℕ) → Before octets → (judge (octets ++ piece) ≡ Faulty fault) × (is_truncated fault.reason ≡ false)
Hears judge Before Now piece (Err Memory) = Unit {0}

-- octets are a message, or this is why they are refused where the input ends in them
abbrev pub Cuts : Judgement → ℕ → Option Fault → Type 0
Cuts judged size None = judged ≡ Message size
Cuts judged size (Some fault) = (judged ≡ Faulty fault) × (is_truncated fault.reason ≡ true)

-- What was heard of the octets that begin with `first` and were read behind it, with those that are still to be
-- answered.
pub record Heeds (a b : Option (List ℕ)) (first pending : List ℕ) (left left_now : ℕ) (Judged : List ℕ → Type 0) : Type 0 where
  pub octets : List ℕ
  pub gathers : Gathers a b first (octets ++ pending) left left_now
  pub judged : Judged octets

abbrev pub IsWhole : (List ℕ → Judgement) → (List ℕ → Type 0) → List ℕ → Type 0
IsWhole judge Heard octets = Heard octets × (judge octets ≡ Message (length octets))

-- octets are refused whatever follows, and no more than one read behind the first of which this is known
pub record IsRefused (judge : List ℕ → Judgement) (fault : Fault) (octets : List ℕ) : Type 0 where
  pub refused : judge octets ≡ Faulty fault
  pub closed : is_truncated fault.reason ≡ false
  pub soon : (k : ℕ) → is_closed (judge (take k octets)) ≡ true → length octets ≤ k + 65536

abbrev pub IsCutOff : (List ℕ → Judgement) → Fault → List ℕ → Type 0
IsCutOff judge fault octets = (judge octets ≡ Faulty fault) × (is_truncated fault.reason ≡ true)

abbrev pub IsNoMessage : (List ℕ → Judgement) → List ℕ → Type 0
IsNoMessage judge octets = (total : ℕ) → judge octets ≢ Message total

-- A message was heard whole, the octets are refused, the input ended in them, or as many were taken as are answered.
-- Nothing is left to be answered but where a message is whole.
abbrev pub Listens : {A : Type 0} → (A → List ℕ → Type 0) → (List ℕ → Judgement) → Result (Heard A) Stop → Option (List ℕ) → Option (List ℕ) → List ℕ → List ℕ → ℕ → ℕ → Type 0
Listens Is judge (Ok (heard.Whole hearer)) a b first pending left left_now = Heeds a b first pending left left_now (IsWhole judge (Is hearer))
Listens Is judge (Ok (heard.Refused fault)) a b first pending left left_now = Heeds a b first [] left left_now (IsRefused judge fault)
Listens Is judge (Ok (heard.Ended fault)) a b first pending left left_now = Heeds a b first [] left left_now (IsCutOff judge fault) × IsAtEnd b
Listens Is judge (Ok (heard.Full fault)) a b first pending left left_now = Heeds a b first [] left left_now (IsCutOff judge fault) × (left_now ≡ 0)
Listens Is judge (Err stops.Failed) a b first pending left left_now = Heeds a b first [] left left_now (IsNoMessage judge)
Listens Is judge (Err stops.Memory) a b first pending left left_now = Heeds a b first [] left left_now (λ octets. Unit {0})
