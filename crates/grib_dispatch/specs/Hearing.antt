-- Messages of edition 2 that are judged as their octets come.
use Rattle.std.specs.Prelude.{◌≡◌, ◌≢◌, ℕ, ◌+◌, ◌≤◌, Bool, true, false, ◌&&◌, ◌==◌, List, ◌++◌, length, take, Ok, Err}
use Rattle.std.specs.Str.{bytes_eq}
use Rattle.std.specs.declared.option.Option.{Option}
use Rattle.std.specs.declared.result.Result.{Result}
use Rattle.grib_stream.specs.Reading.{Takes}
use Rattle.grib_base.specs.declared.fault.Refusal.{Refusal}
use Rattle.grib_base.specs.declared.profile.Profile.{Profile}
use Rattle.grib2_sections.specs.Head.{indicator, edition}
use Rattle.grib2_message.specs.Acceptance.{verdict_under}
use Rattle.grib_stream.specs.declared.outcome.Outcome.{Outcome}
use Rattle.grib_stream.specs.declared.outcome.Outcome.TheVariants as outcomes
use Rattle.grib_stream.specs.declared.place.Place.{Place}
use Rattle.grib_stream.specs.declared.performer.Whole.{Whole as AnsweredMessage}
use Rattle.grib_stream.specs.Stream.{Judgement}
use Rattle.grib_stream.specs.Outcomes.{is_truncated}
use Rattle.grib_stream.specs.Hearing.{is_closed}
use Rattle.grib_stream.specs.Soon.{StandsAt}
use Rattle.grib_command.specs.declared.answered.Answered.{Answered}
use Rattle.grib_command.specs.declared.answered.Answered.TheVariants.{Whole, Kept, WriteFault, ShelfFault, Memory}
use Rattle.grib_command.specs.Command.{Command, kept_at}
use Rattle.grib_command.specs.Judging.{judge_under, judged}

-- what octets are as a message of edition 2, by a profile
abbrev pub judge_2_under : Profile → List ℕ → Judgement
judge_2_under profile octets = judged (verdict_under profile octets)

-- whether a message that begins with these eight octets is one of edition 2
abbrev pub is_second : List ℕ → Bool
is_second first = bytes_eq (take 4 first) indicator && (edition first == 2)

-- what came of a message that was heard, with this many octets and fields
abbrev pub heard_of : Answered → Place → ℕ → ℕ → Result AnsweredMessage Outcome
heard_of (Whole written) place octets fields = Ok (record { octets = octets; fields = fields; written = written })
heard_of (Kept cause) place octets fields = Err (kept_at place.message cause)
heard_of WriteFault place octets fields = Err outcomes.WriteFault
heard_of ShelfFault place octets fields = Err outcomes.ShelfFault
heard_of Memory place octets fields = Err outcomes.Memory

-- whether a message that begins with these eight octets is heard, by whether those of edition 2 are
abbrev pub hears_by : Bool → List ℕ → Bool
hears_by hears first = hears && is_second first

-- what holds of a command that hears messages of edition 2
abbrev pub IfHears : Command → Type 0 → Type 0
IfHears command P = command.hears ≡ true → P

-- Of these octets message n is refused by a profile. Where it is not of edition 1, they go on for no more than one read, 65536
-- octets, behind the first of them by which it is.
pub record IsRefusedSoon (profile : Profile) (taken : List ℕ) (n : ℕ) : Type 0 where
  pub before : ℕ
  pub rest : List ℕ
  pub place : StandsAt (judge_under profile) taken n before rest
  pub bound : edition rest ≢ 1 → (k : ℕ) → is_closed (judge_under profile (take k rest)) ≡ true → length taken ≤ before + k + 65536

-- a run by a profile that ends with a refusal for another reason than the end of the input took no more than that
abbrev pub RefusesInTime : Profile → Outcome → Option (List ℕ) → Option (List ℕ) → Type 0
RefusesInTime profile outcome left left_now =
    (refusal : Refusal) → outcome ≡ outcomes.Refused refusal → is_truncated refusal.fault.reason ≡ false
    → (taken : List ℕ) × Takes left left_now taken × IsRefusedSoon profile taken refusal.message
