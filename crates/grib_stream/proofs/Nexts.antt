-- What comes next.
use Rattle.std.proofs.Common.{◌≡◌, ◌≢◌, ℕ, Bool, true, false, not, List, ◌++◌, take, refl, sym, ap, ◌∙◌, subst}
use Rattle.std.proofs.lemmas.List.{take-append-le}
use Rattle.grib_base.specs.declared.fault.Fault.{Fault}
use Rattle.grib_stream.specs.declared.outcome.Outcome.{Outcome}
use Rattle.grib_stream.specs.declared.place.Place.{Place}
use Rattle.grib_stream.specs.Stream.{Judgement, Message, Faulty}
use Rattle.grib_stream.specs.Acts.{Act}
use Rattle.grib_stream.specs.Outcomes.{is_of_message}
use Rattle.grib_stream.specs.Task.{Task, IsLawful, Given, Gives, Ends, Next, Whole, Refuses, Stops, next_given, next_judged, next_of}
use Rattle.grib_stream.specs.Answer.{done}

-- what comes next where a message is accepted
abbrev pub next_whole : Task → Place → List ℕ → ℕ → Next
next_whole task place octets total = next_given (task.result place (take total octets)) total (task.fields (take total octets))

pub judged : (task : Task) (place : Place) (octets : List ℕ) (j : Judgement) → task.judge octets ≡ j → next_of task place octets ≡ next_judged j (next_whole task place octets)
judged task place octets j is = ap (λ k. next_judged k (next_whole task place octets)) is

pub not_true : (b : Bool) → not b ≡ true → b ≡ false
not_true true e = sym e
not_true false e = refl

-- ---- a message that comes next

pub record IsMessage (task : Task) (place : Place) (octets : List ℕ) (total fields written : ℕ) (acts : List Act) : Type 0 where
  pub accepted : task.judge octets ≡ Message total
  pub counted : task.fields (take total octets) ≡ fields
  pub given : task.result place (take total octets) ≡ Gives acts written

message_given : (task : Task) (place : Place) (octets : List ℕ) (g : Given) (t total fields written : ℕ) (acts : List Act) → task.judge octets ≡ Message t
    → task.result place (take t octets) ≡ g → next_given g t (task.fields (take t octets)) ≡ Whole total fields written acts
    → IsMessage task place octets total fields written acts
message_given task place octets (Gives done count) t total fields written acts so gives is =
    let same : t ≡ total = cc in
    let counts : task.fields (take t octets) ≡ fields = cc in
    let result : Gives done count ≡ Gives acts written = cc in
    record {
      accepted = so ∙ ap Message same;
      counted = ap (λ n. task.fields (take n octets)) (sym same) ∙ counts;
      given = ap (λ n. task.result place (take n octets)) (sym same) ∙ (gives ∙ result);
    }
message_given task place octets (Ends outcome) t total fields written acts so gives is = let no : ⊥ = cc in absurd no

message_by : (task : Task) (place : Place) (octets : List ℕ) (total fields written : ℕ) (acts : List Act) (j : Judgement) → task.judge octets ≡ j
    → next_of task place octets ≡ Whole total fields written acts → IsMessage task place octets total fields written acts
message_by task place octets total fields written acts (Message t) so is =
    message_given task place octets (task.result place (take t octets)) t total fields written acts so refl (sym (judged task place octets (Message t) so) ∙ is)
message_by task place octets total fields written acts (Faulty fault) so is =
    let e : Refuses fault ≡ Whole total fields written acts = sym (judged task place octets (Faulty fault) so) ∙ is in let no : ⊥ = cc in absurd no

pub message_next : (task : Task) (place : Place) (octets : List ℕ) (total fields written : ℕ) (acts : List Act)
    → next_of task place octets ≡ Whole total fields written acts → IsMessage task place octets total fields written acts
message_next task place octets total fields written acts is = message_by task place octets total fields written acts (task.judge octets) refl is

pub refuses_not_given : (g : Given) (total fields : ℕ) (fault : Fault) → next_given g total fields ≡ Refuses fault → ⊥
refuses_not_given (Gives acts written) total fields fault is = cc
refuses_not_given (Ends outcome) total fields fault is = cc

-- what is refused is judged so
refuses_by : (task : Task) (place : Place) (octets : List ℕ) (fault : Fault) (j : Judgement) → task.judge octets ≡ j → next_of task place octets ≡ Refuses fault
    → task.judge octets ≡ Faulty fault
refuses_by task place octets fault (Message total) so is =
    absurd (refuses_not_given (task.result place (take total octets)) total (task.fields (take total octets)) fault (sym (judged task place octets (Message total) so) ∙ is))
refuses_by task place octets fault (Faulty other) so is =
    let same : Refuses other ≡ Refuses fault = sym (judged task place octets (Faulty other) so) ∙ is in
    let one : other ≡ fault = cc in so ∙ ap Faulty one

pub refuses_judged : (task : Task) (place : Place) (octets : List ℕ) (fault : Fault) → next_of task place octets ≡ Refuses fault → task.judge octets ≡ Faulty fault
refuses_judged task place octets fault is = refuses_by task place octets fault (task.judge octets) refl is

-- what comes of a message stays, whatever follows
pub message_stays_next : (task : Task) → IsLawful task → (place : Place) (octets more : List ℕ) (total : ℕ) → task.judge octets ≡ Message total
    → next_of task place (octets ++ more) ≡ next_of task place octets
message_stays_next task lawful place octets more total is =
    judged task place (octets ++ more) (Message total) (lawful.message_stays octets more total is)
    ∙ (ap (λ message. next_given (task.result place message) total (task.fields message)) (take-append-le total octets more (lawful.there octets total is))
    ∙ sym (judged task place octets (Message total) is))

-- ---- an outcome that comes next

given_stops : (task : Task) → IsLawful task → (place : Place) (message : List ℕ) (g : Given) (total fields : ℕ) (outcome : Outcome) → task.result place message ≡ g
    → next_given g total fields ≡ Stops outcome → is_of_message outcome ≡ true
given_stops task lawful place message (Gives acts written) total fields outcome is stops = let no : ⊥ = cc in absurd no
given_stops task lawful place message (Ends other) total fields outcome is stops =
    let same : other ≡ outcome = cc in
    subst (λ o. is_of_message o ≡ true) same (lawful.ends_at_message place message other is)

pub stops_by : (task : Task) → IsLawful task → (place : Place) (octets : List ℕ) (outcome : Outcome) (j : Judgement) → task.judge octets ≡ j
    → next_of task place octets ≡ Stops outcome → is_of_message outcome ≡ true
stops_by task lawful place octets outcome (Message total) so stops =
    given_stops task lawful place (take total octets) (task.result place (take total octets)) total (task.fields (take total octets)) outcome refl
    (sym (judged task place octets (Message total) so) ∙ stops)
stops_by task lawful place octets outcome (Faulty fault) so stops =
    let e : Refuses fault ≡ Stops outcome = sym (judged task place octets (Faulty fault) so) ∙ stops in let no : ⊥ = cc in absurd no

-- an outcome that the task gives for no message does not come next
stops_given : (task : Task) (place : Place) (message : List ℕ) (g : Given) (total fields : ℕ) (outcome : Outcome) → task.result place message ≡ g
    → next_given g total fields ≡ Stops outcome → task.result place message ≡ Ends outcome
stops_given task place message (Gives acts written) total fields outcome is stops = let no : ⊥ = cc in absurd no
stops_given task place message (Ends other) total fields outcome is stops = let same : other ≡ outcome = cc in is ∙ ap Ends same

never_by : (task : Task) (place : Place) (octets : List ℕ) (outcome : Outcome) (j : Judgement) → task.judge octets ≡ j → next_of task place octets ≡ Stops outcome
    → ((message : List ℕ) → task.result place message ≢ Ends outcome) → ⊥
never_by task place octets outcome (Message total) so stops never =
    never (take total octets)
    (stops_given task place (take total octets) (task.result place (take total octets)) total (task.fields (take total octets)) outcome refl
    (sym (judged task place octets (Message total) so) ∙ stops))
never_by task place octets outcome (Faulty fault) so stops never =
    let e : Refuses fault ≡ Stops outcome = sym (judged task place octets (Faulty fault) so) ∙ stops in cc

pub stops_never : (task : Task) (place : Place) (octets : List ℕ) (outcome : Outcome) → next_of task place octets ≡ Stops outcome
    → ((at : Place) (message : List ℕ) → task.result at message ≢ Ends outcome) → ⊥
stops_never task place octets outcome stops never = never_by task place octets outcome (task.judge octets) refl stops (never place)
