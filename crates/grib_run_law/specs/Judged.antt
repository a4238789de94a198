-- What the items of an input are, and what a refusal is, by the grammars themselves.
use Rattle.std.specs.Prelude.{◌≡◌, ◌≢◌, ℕ, ◌+◌, ◌^◌, Bool, true, List, [], ◌∷◌, Some, length, take, drop, All}
use Rattle.grib_base.specs.declared.fault.Fault.{Fault}
use Rattle.grib_base.specs.declared.fault.Refusal.{Refusal}
use Rattle.grib_base.specs.declared.profile.Profile.{Profile}
use Rattle.grib2_sections.specs.Head.{edition}
use Rattle.grib2_sections.specs.Verdict as verdicts
use Rattle.grib2_message.specs.Acceptance.{verdict_under}
use Rattle.grib1_sections.specs.Acceptance.{verdict_1}
use Rattle.grib_stream.specs.declared.outcome.Outcome.{Outcome}
use Rattle.grib_stream.specs.declared.outcome.Outcome.TheVariants as outcomes
use Rattle.grib_stream.specs.Stream.{Found, begins}
use Rattle.grib_items.specs.declared.policy.Policy.{Policy}
use Rattle.grib_items.specs.Items.{Item, Accepted, Refused, Refusing}
use Rattle.grib_items.specs.Laws.{AreInOrder}
use Rattle.grib_items.specs.Next.{passed}
use Rattle.grib_run_law.specs.Answered.{is_longer, items_answered}
use Rattle.grib_run_law.specs.Complete.{IsInGrammar}

-- octets begin with `GRIB` and are refused with the fault of the first rule of their edition that fails, by a profile
pub record IsRefused (profile : Profile) (fault : Fault) (octets : List ℕ) : Type 0 where
  pub begun : begins octets ≡ true
  pub first : edition octets ≡ 1 → verdict_1 octets ≡ verdicts.Refused fault
  pub second : edition octets ≢ 1 → verdict_under profile octets ≡ verdicts.Refused fault

-- What stands in an input at the place of an item. A message is in the grammar of its edition. Octets that are refused
-- are passed by as many as they state.
abbrev pub IsJudged : Profile → Bool → List ℕ → Item → Type 0
IsJudged profile more input (Accepted found) = (take (length found.octets) (drop found.before input) ≡ found.octets) × IsInGrammar profile found.octets
IsJudged profile more input (Refused refused) =
    let rest = drop refused.before input in
    (take (length refused.octets) rest ≡ refused.octets) × (IsRefused profile refused.fault rest × (passed more rest ≡ Some (length refused.octets)))

-- the messages among items
abbrev pub messages_of : List Item → List Found
messages_of [] = []
messages_of (Accepted found ∷ later) = found ∷ messages_of later
messages_of (Refused refused ∷ later) = messages_of later

-- Octets behind the items are refused with the fault that a refusal names, and its number is the one after that of the last
-- message.
pub record NamesRule (profile : Profile) (policy : Policy) (input : List ℕ) (refusal : Refusal) : Type 0 where
  pub ends : (items_answered profile policy input).end ≡ Refusing refusal.fault
  pub there : (before : ℕ) × AreInOrder 0 (items_answered profile policy input).items before × IsRefused profile refusal.fault (drop before (take (2 ^ 40) input))
  pub number : refusal.message ≡ length (messages_of (items_answered profile policy input).items) + 1

-- Each item of an input, as far as it is answered, is judged by the grammars, and so is a refusal with which the run ends.
pub record Judges (profile : Profile) (policy : Policy) (outcome : Outcome) (input : List ℕ) : Type 0 where
  pub items : All (IsJudged profile (is_longer input) (take (2 ^ 40) input)) (items_answered profile policy input).items
  pub refusal : (refusal : Refusal) → outcome ≡ outcomes.Refused refusal → NamesRule profile policy input refusal
