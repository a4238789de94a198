-- `filter` by keys of edition 1: the messages of edition 1 that have the values that are asked for.
use Rattle.std.proofs.Common.{◌≡◌, ℕ, ◌*◌, ◌≤◌, Bool, true, false, cond, List, [], length, arith}
use Rattle.grib_base.specs.declared.limits.TheConstants.{MOST_OCTETS}
use Rattle.grib1_select.specs.declared.condition.Wanted1.{Wanted1}
use Rattle.grib1_select.specs.Values.{fulfils_all1}
use Rattle.grib_stream.specs.declared.outcome.Outcome.{Outcome}
use Rattle.grib_stream.specs.Acts.{Act}
use Rattle.grib_stream.specs.Outcomes.{is_of_message}
use Rattle.grib_stream.specs.Task.{Gives, Ends}
use Rattle.grib_command.specs.Command.{Command, IsLawfulCommand, given_whole, changing}

-- the message, where it has every number with its value, else nothing
abbrev pub filtered1 : List Wanted1 → List ℕ → List ℕ
filtered1 conditions message = cond (fulfils_all1 message conditions) message []

-- nothing is written of a message of edition 2
abbrev pub filter1_command : List Wanted1 → Command
filter1_command conditions =
    record (changing (λ place message. given_whole [])) { first = λ place message. given_whole (filtered1 conditions message) }

-- ---- it is lawful

few : (chosen : Bool) (message : List ℕ) (acts : List Act) (written : ℕ) → given_whole (cond chosen message []) ≡ Gives acts written
    → 20 * written ≤ MOST_OCTETS * length message
few true message acts written is = let same : length message ≡ written = cc in omega arith
few false message acts written is = let none : 0 ≡ written = cc in omega arith

goes_on : (octets : List ℕ) (outcome : Outcome) → given_whole octets ≡ Ends outcome → is_of_message outcome ≡ true
goes_on octets outcome is = let no : ⊥ = cc in absurd no

pub filter1_lawful : (conditions : List Wanted1) → IsLawfulCommand (filter1_command conditions)
filter1_lawful conditions = record {
  few_first = λ place message acts written h is. few (fulfils_all1 message conditions) message acts written is;
  few_second = λ place message acts written h is. few false message acts written is;
  ends_first = λ place message outcome is. goes_on (filtered1 conditions message) outcome is;
  ends_second = λ place message outcome is. goes_on [] outcome is;
}
