-- The items of an input, by the grammars and by what is an octet.
use Rattle.std.proofs.Common.{◌≡◌, ℕ, ◌<◌, ◌==◌, Bool, true, false, List, length, take, drop, All, inl, inr, sym, ap, ◌∙◌, subst, ⊎_elim, arith}
use Rattle.std.proofs.lemmas.Bool.{cases_Bool, false≢true}
use Rattle.std.proofs.lemmas.List.Elements.{All-take, All-drop, All-weaker}
use Rattle.grib_base.specs.declared.fault.Fault.{Fault}
use Rattle.grib_base.specs.declared.profile.Profile.{Profile}
use Rattle.grib1_sections.specs.Message.{IsMessage1}
use Rattle.grib2_sections.specs.Head.{edition}
use Rattle.grib2_sections.specs.Verdict as verdicts
use Rattle.grib2_message.specs.Message.{IsMessageUnder}
use Rattle.grib_stream.specs.Stream.{begins, Message, Faulty, Found}
use Rattle.grib_items.specs.declared.policy.Policy.{Policy}
use Rattle.grib_stream.specs.Task.{Task, IsLawful}
use Rattle.grib_items.specs.Answer.{passes}
use Rattle.grib_items.specs.Items.{Item, Accepted, Refused, items}
use Rattle.grib_items.specs.Laws.{StandsIn}
use Rattle.grib_command.specs.Command.{task, under}
use Rattle.grib_command.specs.Judging.{judge_under}
use Rattle.grib_command.specs.LawfulCommands.{under_lawful}
use Rattle.grib_report.specs.Checking.{check_command, check_lawful}
use Rattle.grib_dispatch.specs.Lawful.{lawful, IsFirst, IsOther, message_judged, refusal_judged, not_first, least_message, there_message, edition_alone, message_alone, first_alone_message}
use Rattle.grib_run_law.specs.Answered.{items_of}
use Rattle.grib_run_law.specs.Complete.{IsInGrammar}
use Rattle.grib_run_law.specs.Judged.{IsRefused, IsJudged}
use Rattle.grib_run_law.specs.Same.{AreOctets}

-- of the message of an item, where it is one
abbrev pub OfMessage : (Found → Type 0) → Item → Type 0
OfMessage P (Accepted found) = P found
OfMessage P (Refused refused) = Unit {0}

abbrev pub IsOfOctets : Found → Type 0
IsOfOctets found = AreOctets found.octets

-- ---- by a profile

module _ (profile : Profile) where
  -- each item of octets stands in them
  abbrev pub ItemsStand : Type 0
  ItemsStand = (policy : Policy) (more : Bool) (octets : List ℕ) → All (StandsIn (judge_under profile) more octets) (items_of profile policy more octets).items

  -- as the law on items says of any task
  pub stands : ((task : Task) (passes more : Bool) (octets : List ℕ) → IsLawful task → All (StandsIn task.judge more octets) (items task.judge passes more octets).items) → ItemsStand
  stands law policy more octets =
      law (task (under profile check_command)) (passes policy) more octets (lawful (under profile check_command) (under_lawful profile check_command check_lawful))

  -- ---- what is accepted stands alone

  alone_other : (rest : List ℕ) (total : ℕ) → begins rest ≡ true → judge_under profile rest ≡ Message total → (edition (take total rest) == 1) ≡ false → IsMessageUnder profile (take total rest)
  alone_other rest total begun is not_one =
      let least = least_message profile rest total is in
      let same = ap (λ n. n == 1) (edition_alone rest total (omega arith) (there_message profile rest total is)) in
      ⊎_elim
      (λ (m : IsFirst rest (verdicts.Accepted total)). absurd (false≢true (sym not_one ∙ (same ∙ m.first_edition))))
      (λ (m : IsOther profile rest (verdicts.Accepted total)). message_alone profile rest total begun m)
      (message_judged profile rest total is)

  alone_first : (rest : List ℕ) (total : ℕ) → begins rest ≡ true → judge_under profile rest ≡ Message total → (edition (take total rest) == 1) ≡ true → IsMessage1 (take total rest)
  alone_first rest total begun is one =
      let least = least_message profile rest total is in
      let same = ap (λ n. n == 1) (edition_alone rest total (omega arith) (there_message profile rest total is)) in
      ⊎_elim
      (λ (m : IsFirst rest (verdicts.Accepted total)). first_alone_message rest total begun m)
      (λ (m : IsOther profile rest (verdicts.Accepted total)). absurd (false≢true (sym m.other_edition ∙ (sym same ∙ one))))
      (message_judged profile rest total is)

  -- a message of an input is in the grammar of its edition
  pub record IsAccepted (found : Found) : Type 0 where
    pub second : (edition found.octets == 1) ≡ false → IsMessageUnder profile found.octets
    pub first : (edition found.octets == 1) ≡ true → IsMessage1 found.octets

  accepted_here : (more : Bool) (input : List ℕ) (found : Found) → StandsIn (judge_under profile) more input (Accepted found) → IsAccepted found
  accepted_here more input found (begun, (is, octets)) = record {
    second = subst (λ m. (edition m == 1) ≡ false → IsMessageUnder profile m) octets (alone_other (drop found.before input) (length found.octets) begun is);
    first = subst (λ m. (edition m == 1) ≡ true → IsMessage1 m) octets (alone_first (drop found.before input) (length found.octets) begun is);
  }

  in_grammar : (found : Found) → IsAccepted found → IsInGrammar profile found.octets
  in_grammar found own = ⊎_elim (λ one. inl (own.first one)) (λ not_one. inr (own.second not_one)) (cases_Bool (edition found.octets == 1))

  -- ---- what is refused, by its edition

  pub is_refused : (octets : List ℕ) (fault : Fault) → begins octets ≡ true → judge_under profile octets ≡ Faulty fault → IsRefused profile fault octets
  is_refused octets fault begun is =
      ⊎_elim
      (λ (m : IsFirst octets (verdicts.Refused fault)). record { begun = begun; first = λ one. m.verdict_is; second = λ other. absurd (other m.edition_is) })
      (λ (m : IsOther profile octets (verdicts.Refused fault)).
      record { begun = begun; first = λ one. absurd (not_first octets m.other_edition one); second = λ other. m.verdict_is })
      (refusal_judged profile octets fault is)

  judged_one : (more : Bool) (input : List ℕ) (item : Item) → StandsIn (judge_under profile) more input item → IsJudged profile more input item
  judged_one more input (Accepted found) (begun, (is, octets)) = (octets, in_grammar found (accepted_here more input found (begun, (is, octets))))
  judged_one more input (Refused refused) (begun, (is, by, octets)) = (octets, (is_refused (drop refused.before input) refused.fault begun is, by))

  pub judged_all : (more : Bool) (input : List ℕ) (items : List Item) → All (StandsIn (judge_under profile) more input) items → All (IsJudged profile more input) items
  judged_all more input items stand = All-weaker (StandsIn (judge_under profile) more input) (IsJudged profile more input) (judged_one more input) items stand

  -- ---- what holds of each message

  accepted_one : (more : Bool) (input : List ℕ) (item : Item) → StandsIn (judge_under profile) more input item → OfMessage IsAccepted item
  accepted_one more input (Accepted found) stands = accepted_here more input found stands
  accepted_one more input (Refused refused) stands = tt

  pub accepted_all : (more : Bool) (input : List ℕ) (items : List Item) → All (StandsIn (judge_under profile) more input) items → All (OfMessage IsAccepted) items
  accepted_all more input items stand = All-weaker (StandsIn (judge_under profile) more input) (OfMessage IsAccepted) (accepted_one more input) items stand

  octets_one : (more : Bool) (input : List ℕ) → AreOctets input → (item : Item) → StandsIn (judge_under profile) more input item → OfMessage IsOfOctets item
  octets_one more input small (Accepted found) (begun, (is, octets)) =
      subst AreOctets octets (All-take (λ octet. octet < 256) (length found.octets) (drop found.before input) (All-drop (λ octet. octet < 256) found.before input small))
  octets_one more input small (Refused refused) stands = tt

  pub octets_all : (more : Bool) (input : List ℕ) → AreOctets input → (items : List Item) → All (StandsIn (judge_under profile) more input) items → All (OfMessage IsOfOctets) items
  octets_all more input small items stand = All-weaker (StandsIn (judge_under profile) more input) (OfMessage IsOfOctets) (octets_one more input small) items stand
