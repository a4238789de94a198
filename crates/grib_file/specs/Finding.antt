-- What was found in the octets of a file, for private functions.
use Rattle.std.specs.Prelude.{◌≡◌, ℕ, ◌+◌, ◌-◌, ◌≤◌, true, List, ◌++◌, flat_map, length, take, drop, Some, All}
use Rattle.grib_base.specs.declared.profile.Profile.{Profile}
use Rattle.grib_stream.specs.declared.outcome.FileRefusal.TheVariants as refusals
use Rattle.grib_stream.specs.Answer.{refusal_after}
use Rattle.grib_stream.specs.Searching.{Markless}
use Rattle.grib_stream.specs.Stream.{Message, Faulty, Found, End, Over, Refusing, Stream, begins, stream_from}
use Rattle.grib_command.specs.Judging.{judge_under, fields_of}
use Rattle.grib_file.specs.Filed.{FieldOf, Filed, Good, Refused, fields_in, filed}
use Rattle.grib_file.specs.Entries.{IsEntryOf, fields_at}
use Rattle.grib_file.specs.declared.entries.Entry.{Entry}
use Rattle.grib_file.specs.declared.entries.Span.{Span}
use Rattle.grib_file.specs.declared.stop.FileStop.{FileStop}
use Rattle.grib_file.specs.declared.stop.FileStop.TheVariants as stops

-- the next message begins at `start`: none does from `place` to there
pub record IsNext (octets : List ℕ) (place start : ℕ) : Type 0 where
  pub behind : place ≤ start
  pub within : start ≤ length octets
  pub begun : begins (drop start octets) ≡ true
  pub markless : Markless (start - place) (drop place octets)

-- octets begin with a message of this many octets and fields
pub record IsSpan (profile : Profile) (octets : List ℕ) (span : Span) : Type 0 where
  pub judged : judge_under profile octets ≡ Message span.length
  pub some : 1 ≤ span.length
  pub within : span.length ≤ length octets
  pub begun : begins (take span.length octets) ≡ true
  pub accepted : judge_under profile (take span.length octets) ≡ Message span.length
  pub fields : fields_of (take span.length octets) ≡ span.fields

-- why the message that octets begin with is none, behind this many others
abbrev pub IsStopAt : Profile → List ℕ → ℕ → FileStop → Type 0
IsStopAt profile octets messages (stops.Refused refusals.Absent) = ⊥
IsStopAt profile octets messages (stops.Refused (refusals.Refused refusal)) =
    (refusal ≡ refusal_after messages refusal.fault) × (judge_under profile octets ≡ Faulty refusal.fault)
IsStopAt profile octets messages stops.ShelfFault = ⊥
IsStopAt profile octets messages stops.Memory = Unit {0}

-- a file of these fields, and of the messages behind them, which are this many
abbrev pub filed_behind_by : ℕ → List FieldOf → List Found → End → Filed
filed_behind_by messages fields later (Over skipped) = Good (fields ++ flat_map fields_in later)
filed_behind_by messages fields later (Refusing fault) = Refused (refusals.Refused (refusal_after (messages + length later) fault))

abbrev pub filed_behind : ℕ → List FieldOf → Stream → Filed
filed_behind messages fields later = filed_behind_by messages fields later.messages later.end

-- the messages before this place are these fields
pub record FoundSoFar (profile : Profile) (octets : List ℕ) (place messages : ℕ) (entries : List Entry) : Type 0 where
  pub within : place ≤ length octets
  pub few : messages ≤ place
  pub accepted : All (IsEntryOf profile octets) entries
  pub skipped : ℕ
  pub filed_is : filed profile (Some octets) ≡ filed_behind messages (fields_at octets entries) (stream_from (judge_under profile) 0 place skipped (drop place octets))

-- why octets are no file
abbrev pub IsNoFile : Profile → List ℕ → FileStop → Type 0
IsNoFile profile octets (stops.Refused refusal) = filed profile (Some octets) ≡ Refused refusal
IsNoFile profile octets stops.ShelfFault = ⊥
IsNoFile profile octets stops.Memory = Unit {0}
