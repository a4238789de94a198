-- What is given of a message that was read, by its edition.
use Rattle.std.proofs.Common.{◌≡◌, ℕ, ◌==◌, true, List, [], length, take, refl, sym, ap, ◌∙◌, subst}
use Rattle.std.proofs.Common.{Ok, Err, MatchResult}
use Rattle.std.specs.Result.{IsErrAnd}
use Rattle.std.specs.declared.result.Result.{Result}
use Rattle.grib_base.specs.declared.fault.ReadFault.{ReadFault}
use Rattle.grib_base.specs.declared.fault.ReadFault.TheVariants.{Refused, Memory}
use Rattle.grib2_sections.specs.Refused.{IsVerdict}
use Rattle.grib1_sections.specs.Acceptance.{verdict_1}
use Rattle.grib2_message.specs.Acceptance.{verdict_under}
use Rattle.grib_base.specs.declared.profile.Profile.{Profile}
use Rattle.std.proofs.lemmas.Bool.{false≢true}
use Rattle.grib_base.specs.Rules.{choose}
use Rattle.grib2_sections.specs.Head.{edition}
use Rattle.grib2_message.specs.Fields.{field_count}
use Rattle.grib_stream.specs.declared.place.Place.{Place}
use Rattle.grib_stream.specs.declared.outcome.Outcome.{Outcome}
use Rattle.grib_stream.specs.Acts.{World, DidFront}
use Rattle.grib_stream.proofs.Worlds.{did_none}
use Rattle.grib_stream.specs.Outcomes.{is_cut_within}
use Rattle.grib_stream.specs.Performed.{EndsWith}
use Rattle.grib_stream.specs.Task.{Given, Gives, Ends, Next, next_given, next_judged, next_of, acts_of}
use Rattle.grib_dispatch.specs.declared.reading.Held.{Held}
use Rattle.grib_dispatch.specs.declared.reading.Held.TheVariants.{One, Two}
use Rattle.grib_command.specs.Answering.{acts_given}
use Rattle.grib_command.specs.Command.{Command, given, task}
use Rattle.grib_command.specs.Judging.{judged, fields_of}
use Rattle.grib_dispatch.specs.Reading.{held_octets, Holds, IsUnread}

pub given_of_first : (command : Command) (place : Place) (held : Held) (message : List ℕ) → held ≡ One message → edition message ≡ 1
    → given command place (held_octets held) ≡ command.first place message
given_of_first command place held message is first =
    ap (λ h. given command place (held_octets h)) is
    ∙ ap (λ e. choose (e == 1) (λ _. command.first place message) (λ _. command.second place message)) first

pub given_of_second : (command : Command) (place : Place) (held : Held) (message : List ℕ) → held ≡ Two message → edition message ≡ 2
    → given command place (held_octets held) ≡ command.second place message
given_of_second command place held message is second =
    ap (λ h. given command place (held_octets h)) is
    ∙ ap (λ e. choose (e == 1) (λ _. command.first place message) (λ _. command.second place message)) second

pub fields_first : (held : Held) (message : List ℕ) → held ≡ One message → edition message ≡ 1 → fields_of (held_octets held) ≡ 1
fields_first held message is first =
    ap (λ h. fields_of (held_octets h)) is ∙ ap (λ e. choose (e == 1) (λ _. 1) (λ _. field_count message)) first

pub fields_second : (held : Held) (message : List ℕ) → held ≡ Two message → edition message ≡ 2 → fields_of (held_octets held) ≡ field_count message
fields_second held message is second =
    ap (λ h. fields_of (held_octets h)) is ∙ ap (λ e. choose (e == 1) (λ _. 1) (λ _. field_count message)) second

-- ---- what was not read

first_unread : (profile : Profile) (octets : List ℕ) (fault : ReadFault) → edition octets ≡ 1 → IsVerdict (verdict_1 octets) fault → IsUnread profile octets fault
first_unread profile octets (Refused fault) first known =
    ap (λ e. choose (e == 1) (λ _. judged (verdict_1 octets)) (λ _. judged (verdict_under profile octets))) first ∙ ap judged known
first_unread profile octets Memory first known = tt

second_unread : (profile : Profile) (octets : List ℕ) (fault : ReadFault) → edition octets ≡ 2 → IsVerdict (verdict_under profile octets) fault → IsUnread profile octets fault
second_unread profile octets (Refused fault) second known =
    ap (λ e. choose (e == 1) (λ _. judged (verdict_1 octets)) (λ _. judged (verdict_under profile octets))) second ∙ ap judged known
second_unread profile octets Memory second known = tt

-- a fault that `?` passes on
module _ {A : Type 0} (profile : Profile) (P : A → Type 0) (octets : List ℕ) where
  passed : (result : Result A ReadFault) (fault : ReadFault) → IsErrAnd result (λ read. read ≡ fault) → IsUnread profile octets fault
      → MatchResult result P (IsUnread profile octets)
  passed (Ok value) fault is unread = absurd is
  passed (Err read) fault is unread = subst (IsUnread profile octets) (sym is) unread

  pub passed_first : (result : Result A ReadFault) (fault : ReadFault) → edition octets ≡ 1 → IsErrAnd result (λ read. read ≡ fault) → IsVerdict (verdict_1 octets) fault
      → MatchResult result P (IsUnread profile octets)
  passed_first result fault first is known = passed result fault is (first_unread profile octets fault first known)

  pub passed_second : (result : Result A ReadFault) (fault : ReadFault) → edition octets ≡ 2 → IsErrAnd result (λ read. read ≡ fault) → IsVerdict (verdict_under profile octets) fault
      → MatchResult result P (IsUnread profile octets)
  passed_second result fault second is known = passed result fault is (second_unread profile octets fault second known)

-- ---- what comes next

acts_same : (given : Given) (total fields : ℕ) → acts_of (next_given given total fields) ≡ acts_given given
acts_same (Gives acts written) total fields = refl
acts_same (Ends outcome) total fields = refl

acts_next : (command : Command) (place : Place) (octets : List ℕ) (held : Held) → Holds command.profile octets held
    → acts_of (next_of (task command) place octets) ≡ acts_given (given command place (held_octets held))
acts_next command place octets held holds =
    let n = length (held_octets held) in
    ap (λ j. acts_of (next_judged j (λ total. next_given (given command place (take total octets)) total (fields_of (take total octets))))) holds.judged
    ∙ (acts_same (given command place (take n octets)) n (fields_of (take n octets)) ∙ ap (λ m. acts_given (given command place m)) (sym holds.message))

-- nothing was done, and the run ended
pub ends_unread : (next : Next) (outcome : Outcome) (a : World) → is_cut_within outcome ≡ true → EndsWith next outcome a a
ends_unread next outcome a cut = record {
  stopped = λ whole. absurd (false≢true (sym whole ∙ cut));
  cut = λ _. ([], acts_of next, refl, did_none a);
}

-- a front of what a message gives was done, and then the run ended
pub ends_within : (command : Command) (place : Place) (octets : List ℕ) (held : Held) (outcome : Outcome) (a b : World) → is_cut_within outcome ≡ true → Holds command.profile octets held
    → DidFront a b (acts_given (given command place (held_octets held))) → EndsWith (next_of (task command) place octets) outcome a b
ends_within command place octets held outcome a b cut holds front = record {
  stopped = λ whole. absurd (false≢true (sym whole ∙ cut));
  cut = λ _. subst (DidFront a b) (sym (acts_next command place octets held holds)) front;
}
