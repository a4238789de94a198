-- A run does not end with what it passes.
use Rattle.std.proofs.Common.{◌≡◌, ◌≢◌, ℕ, zero, suc, ◌+◌, ◌-◌, Bool, true, false, cond, ◌&&◌, List, [], ◌∷◌, length, take, nat_lt, Option, None, Some, is_some, refl, sym, subst}
use Rattle.grib_base.specs.Rules.{choose}
use Rattle.grib_base.specs.declared.fault.Fault.{Fault}
use Rattle.grib_reasons.specs.declared.cause.Kept.{Kept}
use Rattle.grib_stream.specs.declared.outcome.Outcome.{Outcome}
use Rattle.grib_stream.specs.declared.outcome.Outcome.TheVariants as outcomes
use Rattle.grib_stream.specs.declared.place.Place.{Place}
use Rattle.grib_stream.specs.Stream.{begins, Judgement, Message, Faulty}
use Rattle.grib_stream.specs.Outcomes.{is_truncated}
use Rattle.grib_stream.specs.Task.{Task, Given, Gives, Ends}
use Rattle.grib_stream.specs.Texts.{Texts}
use Rattle.grib_items.specs.declared.policy.Instead.{Instead}
use Rattle.grib_items.specs.declared.policy.Policy.{Policy}
use Rattle.grib_items.specs.Next.{Unknown, next_passed, next_judged, passed}
use Rattle.grib_items.specs.Items.{Items, Item, Accepted, Refused, End, Over, Refusing, Open, on_next, items_from}
use Rattle.grib_items.specs.Deeds.{Deeds}
use Rattle.grib_items.specs.Answer.{passes, Counts, Answered, after, answers, answer_of, answer_within, on_comes, on_outcome, on_given, on_end, kept_of, place_by, no_counts}
use Rattle.grib_items.specs.Laws.{outcome_of, is_refusal, is_kept, RefusesNone}

-- ---- refusals that are passed are no end

abbrev is_refusing : End → Bool
is_refusing (Over skipped) = false
is_refusing (Refusing fault) = true
is_refusing Open = false

next_unrefusing : (b : Bool) (fault : Fault) (size : Option ℕ) (place skipped : ℕ) (octets : List ℕ) (go : ℕ → ℕ → Items)
    → ((inside skipped : ℕ) → is_refusing (go inside skipped).end ≡ false)
    → is_refusing (on_next (cond b Unknown (next_passed fault size)) place skipped octets go).end ≡ false
next_unrefusing true fault size place skipped octets go later = refl
next_unrefusing false fault None place skipped octets go later = refl
next_unrefusing false fault (Some size) place skipped octets go later = later (size - 1) (skipped + size)

judged_unrefusing : (more : Bool) (place skipped : ℕ) (octets : List ℕ) (j : Judgement) (go : ℕ → ℕ → Items)
    → ((inside skipped : ℕ) → is_refusing (go inside skipped).end ≡ false)
    → is_refusing (on_next (next_judged true more octets j) place skipped octets go).end ≡ false
judged_unrefusing more place skipped octets (Message total) go later = later (total - 1) skipped
judged_unrefusing more place skipped octets (Faulty fault) go later =
    next_unrefusing (more && is_truncated fault.reason) fault (passed more octets) place skipped octets go later

chosen_unrefusing : (b : Bool) (x y : Items) → is_refusing x.end ≡ false → is_refusing y.end ≡ false → is_refusing (choose b (λ _. x) (λ _. y)).end ≡ false
chosen_unrefusing true x y first second = first
chosen_unrefusing false x y first second = second

left_unrefusing : (more : Bool) (skipped : ℕ) → is_refusing (cond more Open (Over skipped)) ≡ false
left_unrefusing true skipped = refl
left_unrefusing false skipped = refl

items_unrefusing : (judge : List ℕ → Judgement) (more : Bool) (inside place skipped : ℕ) (octets : List ℕ)
    → is_refusing (items_from judge true more inside place skipped octets).end ≡ false
items_unrefusing judge more zero place skipped [] = left_unrefusing more skipped
items_unrefusing judge more (suc inside) place skipped [] = left_unrefusing more skipped
items_unrefusing judge more (suc inside) place skipped (octet ∷ octets) = items_unrefusing judge more inside (place + 1) skipped octets
items_unrefusing judge more zero place skipped (octet ∷ octets) =
    chosen_unrefusing (begins (octet ∷ octets)) _ _
    (judged_unrefusing more place skipped (octet ∷ octets) (judge (octet ∷ octets)) (λ inside skipped. items_from judge true more inside (place + 1) skipped octets)
    (λ inside skipped. items_unrefusing judge more inside (place + 1) skipped octets))
    (items_unrefusing judge more zero (place + 1) (skipped + 1) octets)

-- ---- what a message may end the run with

outcome_holds : (P : Outcome → Type 0) (texts : Texts) (counts : Counts) (place : Place) (fields : ℕ) (message : List ℕ) (outcome : Outcome) (instead : Option Instead)
    (kept : Option Kept) (next : Deeds → Counts → Answered) → (instead ≡ None → P outcome) → (kept ≡ None → P outcome)
    → ((done : Deeds) (counts : Counts) → P (outcome_of (next done counts).result))
    → P (outcome_of (on_comes (on_outcome texts counts place fields message outcome instead kept) next).result)
outcome_holds P texts counts place fields message outcome None kept next none unkept later = none refl
outcome_holds P texts counts place fields message outcome (Some instead) None next none unkept later = unkept refl
outcome_holds P texts counts place fields message outcome (Some instead) (Some kept) next none unkept later = later _ _

given_holds : (P : Outcome → Type 0) (texts : Texts) (instead : Option Instead) (counts : Counts) (place : Place) (fields : ℕ) (message : List ℕ) (given : Given)
    (next : Deeds → Counts → Answered) → ((outcome : Outcome) → given ≡ Ends outcome → (instead ≡ None → P outcome) × (kept_of outcome ≡ None → P outcome))
    → ((done : Deeds) (counts : Counts) → P (outcome_of (next done counts).result))
    → P (outcome_of (on_comes (on_given texts instead counts place fields message given) next).result)
given_holds P texts instead counts place fields message (Gives acts written) next ends later = later _ _
given_holds P texts instead counts place fields message (Ends outcome) next ends later =
    outcome_holds P texts counts place fields message outcome instead (kept_of outcome) next (ends outcome refl).0 (ends outcome refl).1 later

-- What holds of how each message ends the run that is not passed, and of how the input ends, holds of how a run ends.
answers_hold : (P : Outcome → Type 0) (task : Task) (texts : Texts) (policy : Policy) (counts : Counts) (items : List Item) (end : End)
    → ((place : Place) (message : List ℕ) (outcome : Outcome) → task.result place message ≡ Ends outcome
    → (policy.kept ≡ None → P outcome) × (kept_of outcome ≡ None → P outcome))
    → ((counts : Counts) → P (outcome_of (on_end task counts end).result)) → P (outcome_of (answers task texts policy counts items end).result)
answers_hold P task texts policy counts [] end ends ended = ended counts
answers_hold P task texts policy counts (Accepted found ∷ later) end ends ended =
    given_holds P texts policy.kept counts (place_by counts found.before) (task.fields found.octets) found.octets (task.result (place_by counts found.before) found.octets)
    (λ done counts. after done (answers task texts policy counts later end)) (ends (place_by counts found.before) found.octets)
    (λ done counts. answers_hold P task texts policy counts later end ends ended)
answers_hold P task texts policy counts (Refused passed ∷ later) end ends ended = answers_hold P task texts policy _ later end ends ended

chosen_holds : (b : Bool) (P : Answered → Type 0) (x y : Answered) → P x → P y → P (choose b (λ _. x) (λ _. y))
chosen_holds true P x y first second = first
chosen_holds false P x y first second = second

-- ---- refusals

ended_unrefused : (task : Task) (end : End) (counts : Counts) → is_refusing end ≡ false → is_refusal (outcome_of (on_end task counts end).result) ≡ false
ended_unrefused task (Over skipped) counts is = refl
ended_unrefused task (Refusing fault) counts is = is
ended_unrefused task Open counts is = refl

passed_unrefused : (task : Task) (texts : Texts) (policy : Policy) (more : Bool) (input : List ℕ) → RefusesNone task → passes policy ≡ true
    → is_refusal (outcome_of (answer_of task texts policy more input).result) ≡ false
passed_unrefused task texts policy more input none passing =
    answers_hold (λ outcome. is_refusal outcome ≡ false) task texts policy no_counts (items_from task.judge (passes policy) more 0 0 0 input).items
    (items_from task.judge (passes policy) more 0 0 0 input).end
    (λ place message outcome is. (λ e. none place message outcome is, λ e. none place message outcome is))
    (λ counts. ended_unrefused task _ counts
    (subst (λ b. is_refusing (items_from task.judge b more 0 0 0 input).end ≡ false) (sym passing) (items_unrefusing task.judge more 0 0 0 input)))

some_passes : (refused : Option Instead) → refused ≢ None → is_some refused ≡ true
some_passes None some = absurd (some refl)
some_passes (Some instead) some = refl

pub no_refusal : (task : Task) (texts : Texts) (policy : Policy) (limit : ℕ) (input : List ℕ) → RefusesNone task → policy.refused ≢ None
    → is_refusal (outcome_of (answer_within limit task texts policy input).result) ≡ false
no_refusal task texts policy limit input none some =
    let passing : passes policy ≡ true = some_passes policy.refused some in
    chosen_holds (nat_lt limit (length input)) (λ answer. is_refusal (outcome_of answer.result) ≡ false) _ _
    (passed_unrefused task texts policy true (take limit input) none passing) (passed_unrefused task texts policy false input none passing)

-- ---- messages that cannot be changed

unkept : (outcome : Outcome) → kept_of outcome ≡ None → is_kept outcome ≡ false
unkept (outcomes.Kept kept) is = let no : ⊥ = cc in absurd no
unkept other is = refl

ended_unkept : (task : Task) (end : End) (counts : Counts) → is_kept (outcome_of (on_end task counts end).result) ≡ false
ended_unkept task (Over skipped) counts = refl
ended_unkept task (Refusing fault) counts = refl
ended_unkept task Open counts = refl

passed_unkept : (task : Task) (texts : Texts) (policy : Policy) (more : Bool) (input : List ℕ) → policy.kept ≢ None
    → is_kept (outcome_of (answer_of task texts policy more input).result) ≡ false
passed_unkept task texts policy more input some =
    answers_hold (λ outcome. is_kept outcome ≡ false) task texts policy no_counts (items_from task.judge (passes policy) more 0 0 0 input).items
    (items_from task.judge (passes policy) more 0 0 0 input).end
    (λ place message outcome is. (λ e. absurd (some e), λ e. unkept outcome e)) (λ counts. ended_unkept task _ counts)

pub no_kept : (task : Task) (texts : Texts) (policy : Policy) (limit : ℕ) (input : List ℕ) → policy.kept ≢ None
    → is_kept (outcome_of (answer_within limit task texts policy input).result) ≡ false
no_kept task texts policy limit input some =
    chosen_holds (nat_lt limit (length input)) (λ answer. is_kept (outcome_of answer.result) ≡ false) _ _
    (passed_unkept task texts policy true (take limit input) some) (passed_unkept task texts policy false input some)
