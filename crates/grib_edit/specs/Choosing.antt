-- The messages and fields that are chosen.
use Rattle.std.proofs.Common.{◌≡◌, ℕ, ◌*◌, ◌≤◌, Bool, true, List, [], length, ap, arith, ⊎_elim}
use Rattle.std.specs.List.{list_all, range_with_len}
use Rattle.std.proofs.lemmas.Bool.{cases_Bool}
use Rattle.grib_base.specs.Rules.{choose}
use Rattle.grib_base.specs.declared.limits.TheConstants.{MOST_OCTETS}
use Rattle.grib2_message.specs.Fields.{field_count}
use Rattle.grib2_message.specs.Message.{IsAnyMessage}
use Rattle.grib_select.specs.Single.{single_of}
use Rattle.grib_stream.specs.declared.outcome.Outcome.{Outcome}
use Rattle.grib_stream.specs.Acts.{Act}
use Rattle.grib_stream.specs.Outcomes.{is_of_message}
use Rattle.grib_stream.specs.Task.{Gives, Ends}
use Rattle.grib_command.specs.Command.{Command, IsLawfulCommand, texts_from, given_whole, changing}
use Rattle.grib_edit.specs.FieldOctets.{twenty_each, single_most, texts_most}
use Rattle.grib_command.specs.LawfulCommands.{changing_lawful}

-- whether each field of a message is chosen
abbrev pub all_chosen : (ℕ → Bool) → List ℕ → Bool
all_chosen chosen message = list_all chosen (range_with_len 1 (field_count message))

-- field i as a message of its own, where it is chosen
abbrev pub single_chosen : (ℕ → Bool) → List ℕ → ℕ → List ℕ
single_chosen chosen message i = choose (chosen i) (λ _. single_of message i) (λ _. [])

-- the message itself, where each of its fields is chosen, else those that are, one after another
abbrev pub chosen_of : (ℕ → Bool) → List ℕ → List ℕ
chosen_of chosen message =
    choose (all_chosen chosen message) (λ _. message)
    (λ _. texts_from (single_chosen chosen message) (field_count message) 1)

-- what is chosen is written
abbrev pub choosing : (List ℕ → ℕ → Bool) → Command
choosing chosen = changing (λ place message. given_whole (chosen_of (chosen message) message))

-- ---- it is lawful

few_if : (chosen : ℕ → Bool) (message : List ℕ) (i : ℕ) → IsAnyMessage message → 1 ≤ i → i ≤ field_count message
    → length (single_chosen chosen message i) ≤ MOST_OCTETS
few_if chosen message i h low high =
    ⊎_elim
    (λ yes. (let is : length (single_chosen chosen message i) ≡ length (single_of message i) =
    ap (λ b. length (choose b (λ _. single_of message i) (λ _. []))) yes in omega (arith, single_most message i h low high)))
    (λ not. (let is : length (single_chosen chosen message i) ≡ 0 = ap (λ b. length (choose b (λ _. single_of message i) (λ _. []))) not in omega arith))
    (cases_Bool (chosen i))

few_chosen : (chosen : ℕ → Bool) (message : List ℕ) → IsAnyMessage message → 20 * length (chosen_of chosen message) ≤ MOST_OCTETS * length message
few_chosen chosen message h =
    let some : List ℕ = texts_from (single_chosen chosen message) (field_count message) 1 in
    ⊎_elim
    (λ yes. (let is : length (chosen_of chosen message) ≡ length message = ap (λ b. length (choose b (λ _. message) (λ _. some))) yes in omega arith))
    (λ not. (let is : length (chosen_of chosen message) ≡ length some = ap (λ b. length (choose b (λ _. message) (λ _. some))) not in
    let few = texts_most (single_chosen chosen message) (field_count message) 1 (λ i low high. few_if chosen message i h low (omega arith)) in
    omega (arith, twenty_each message h)))
    (cases_Bool (all_chosen chosen message))

few_written : (chosen : ℕ → Bool) (message : List ℕ) (acts : List Act) (written : ℕ) → IsAnyMessage message
    → given_whole (chosen_of chosen message) ≡ Gives acts written → 20 * written ≤ MOST_OCTETS * length message
few_written chosen message acts written h is =
    let few = few_chosen chosen message h in
    let same : length (chosen_of chosen message) ≡ written = cc in
    omega arith

goes_on : (octets : List ℕ) (outcome : Outcome) → given_whole octets ≡ Ends outcome → is_of_message outcome ≡ true
goes_on octets outcome is = let no : ⊥ = cc in absurd no

pub choosing_lawful : (chosen : List ℕ → ℕ → Bool) → IsLawfulCommand (choosing chosen)
choosing_lawful chosen =
    changing_lawful _ (λ place message acts written h is. few_written (chosen message) message acts written h is)
    (λ place message outcome is. goes_on (chosen_of (chosen message) message) outcome is)
