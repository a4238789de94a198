-- What is answered to an input that is cut at the end of one of its messages, by what is answered to its parts.
use Rattle.std.proofs.Common.{◌≡◌, ◌≢◌, ℕ, zero, suc, ◌+◌, ◌-◌, true, List, [], ◌∷◌, ◌++◌, length, take, refl, sym, ap, ◌∙◌, subst, arith, ⊎_elim}
use Rattle.std.proofs.lemmas.Bool.{cases_Bool, false≢true}
use Rattle.std.proofs.lemmas.List.{append_assoc}
use Rattle.grib_stream.specs.declared.outcome.Outcome.{Outcome}
use Rattle.grib_stream.specs.declared.outcome.Outcome.TheVariants.{Done, Refused, Kept}
use Rattle.grib_stream.specs.declared.place.Place.{Place}
use Rattle.grib_stream.specs.Stream.{begins, Judgement, Message, Faulty, Found, message_after, End, Over, Refusing, Stream, stream_of, followed_by, stream_from, stream}
use Rattle.grib_stream.specs.Acts.{Act}
use Rattle.grib_stream.specs.Outcomes.{is_of_message}
use Rattle.grib_stream.specs.Task.{Task, Given, Gives, Ends, IsLawful}
use Rattle.grib_stream.specs.Answer.{Answer, after, place_of, on_given, answers, answer_to, answer_of}
use Rattle.grib_stream.specs.Cutting.{end_after, EndsAtMessage, message_count, renumbered, StandsAlone, later_by}
use Rattle.grib_stream.proofs.Streams.{stream_skip}
use Rattle.grib_stream.proofs.Within.{begun_by}
use Rattle.grib_stream.proofs.Cutting.{Joins, joins}

-- ---- messages before others

-- messages that are all answered, and then the others
record Onward (task : Task) (messages fields written passed : ℕ) (front rest : List Found) (end : End) : Type 0 where
  fields_now : ℕ
  written_now : ℕ
  is : answers task messages fields written (front ++ rest) end
      ≡ after (answers task messages fields written front (Over passed)).acts (answers task (messages + length front) fields_now written_now rest end)

-- what follows a message that is answered by its result
abbrev next_after : Task → ℕ → ℕ → ℕ → Found → List Found → End → List Act → ℕ → Answer
next_after task messages fields written found later end acts more =
    after acts (answers task (messages + 1) (fields + task.fields found.octets) (written + more) later end)

by_result : (task : Task) (messages fields written : ℕ) (found : Found) (later : List Found) (end : End) (given : Given)
    → task.result (place_of messages found.before fields) found.octets ≡ given
    → answers task messages fields written (found ∷ later) end ≡ on_given task given (next_after task messages fields written found later end)
by_result task messages fields written found later end given is = ap (λ g. on_given task g (next_after task messages fields written found later end)) is

never_done : (task : Task) → IsLawful task → (place : Place) (message : List ℕ) (outcome : Outcome) → task.result place message ≡ Ends outcome → outcome ≡ Done → ⊥
never_done task lawful place message outcome ends is = false≢true (sym (ap is_of_message is) ∙ lawful.ends_at_message place message outcome ends)

onward_given : (task : Task) → IsLawful task → (messages fields written passed : ℕ) (found : Found) (later rest : List Found) (end : End) (given : Given)
    → task.result (place_of messages found.before fields) found.octets ≡ given
    → (answers task messages fields written (found ∷ later) (Over passed)).outcome ≡ Done
    → ((more : ℕ) → (answers task (messages + 1) (fields + task.fields found.octets) (written + more) later (Over passed)).outcome ≡ Done
    → Onward task (messages + 1) (fields + task.fields found.octets) (written + more) passed later rest end)
    → Onward task messages fields written passed (found ∷ later) rest end
onward_given task lawful messages fields written passed found later rest end (Gives acts more) is done next =
    let own = by_result task messages fields written found later (Over passed) (Gives acts more) is in
    let on : Onward task (messages + 1) (fields + task.fields found.octets) (written + more) passed later rest end = next more (sym (ap (λ x. x.outcome) own) ∙ done) in
    let count : messages + 1 + length later ≡ messages + length (found ∷ later) = omega arith in
    let first : List Act = (answers task (messages + 1) (fields + task.fields found.octets) (written + more) later (Over passed)).acts in
    let others : ℕ → Answer = λ n. answers task n on.fields_now on.written_now rest end in
    record {
      fields_now = on.fields_now;
      written_now = on.written_now;
      is = by_result task messages fields written found (later ++ rest) end (Gives acts more) is
          ∙ (ap (after acts) on.is
          ∙ (ap (λ xs. record (others (messages + 1 + length later)) { acts = xs }) (sym (append_assoc acts first (others (messages + 1 + length later)).acts))
          ∙ (ap (λ n. after (acts ++ first) (others n)) count
          ∙ sym (ap (λ x. after x.acts (others (messages + length (found ∷ later)))) own))));
    }
onward_given task lawful messages fields written passed found later rest end (Ends outcome) is done next =
    absurd
    (never_done task lawful (place_of messages found.before fields) found.octets outcome is
    (sym (ap (λ x. x.outcome) (by_result task messages fields written found later (Over passed) (Ends outcome) is)) ∙ done))

onward : (task : Task) → IsLawful task → (messages fields written passed : ℕ) (front rest : List Found) (end : End)
    → (answers task messages fields written front (Over passed)).outcome ≡ Done → Onward task messages fields written passed front rest end
onward task lawful messages fields written passed [] rest end done =
    let e : messages ≡ messages + 0 = omega arith in
    record { fields_now = fields; written_now = written; is = ap (λ n. answers task n fields written rest end) e }
onward task lawful messages fields written passed (found ∷ later) rest end done =
    onward_given task lawful messages fields written passed found later rest end (task.result (place_of messages found.before fields) found.octets) refl done
    (λ more ends. onward task lawful (messages + 1) (fields + task.fields found.octets) (written + more) passed later rest end ends)

-- a message with which the run ends, before others
stopped_given : (task : Task) (messages fields written passed : ℕ) (found : Found) (later rest : List Found) (end : End) (given : Given)
    → task.result (place_of messages found.before fields) found.octets ≡ given
    → (answers task messages fields written (found ∷ later) (Over passed)).outcome ≢ Done
    → ((more : ℕ) → (answers task (messages + 1) (fields + task.fields found.octets) (written + more) later (Over passed)).outcome ≢ Done
    → answers task (messages + 1) (fields + task.fields found.octets) (written + more) (later ++ rest) end
    ≡ answers task (messages + 1) (fields + task.fields found.octets) (written + more) later (Over passed))
    → answers task messages fields written (found ∷ (later ++ rest)) end ≡ answers task messages fields written (found ∷ later) (Over passed)
stopped_given task messages fields written passed found later rest end (Gives acts more) is other next =
    let own = by_result task messages fields written found later (Over passed) (Gives acts more) is in
    by_result task messages fields written found (later ++ rest) end (Gives acts more) is
    ∙ (ap (after acts) (next more (λ done. other (ap (λ x. x.outcome) own ∙ done))) ∙ sym own)
stopped_given task messages fields written passed found later rest end (Ends outcome) is other next =
    by_result task messages fields written found (later ++ rest) end (Ends outcome) is ∙ sym (by_result task messages fields written found later (Over passed) (Ends outcome) is)

stopped : (task : Task) (messages fields written passed : ℕ) (front rest : List Found) (end : End)
    → (answers task messages fields written front (Over passed)).outcome ≢ Done
    → answers task messages fields written (front ++ rest) end ≡ answers task messages fields written front (Over passed)
stopped task messages fields written passed [] rest end other = absurd (other refl)
stopped task messages fields written passed (found ∷ later) rest end other =
    stopped_given task messages fields written passed found later rest end (task.result (place_of messages found.before fields) found.octets) refl other
    (λ more ends. stopped task (messages + 1) (fields + task.fields found.octets) (written + more) passed later rest end ends)

-- ---- messages at another place

-- an answer to what follows some messages, and that to what is an input of itself
record Alike (before : ℕ) (whole own : Answer) : Type 0 where
  acts : whole.acts ≡ own.acts
  outcome : whole.outcome ≡ later_by before own.outcome

renumbered_twice : (number other : ℕ → ℕ) (outcome : Outcome) → renumbered number (renumbered other outcome) ≡ renumbered (λ n. number (other n)) outcome
renumbered_twice number other (Refused refusal) = refl
renumbered_twice number other (Kept kept) = refl
renumbered_twice number other outcome = refl

alike_after : (before : ℕ) (acts : List Act) (whole own : Answer) → Alike before whole own → Alike before (after acts whole) (after acts own)
alike_after before acts whole own alike = record { acts = ap (λ xs. acts ++ xs) alike.acts; outcome = alike.outcome }

-- the outcome of a message alone has its number
ends_own : (task : Task) → StandsAlone task → (before messages : ℕ) (outcome : Outcome) (place other : Place) (message : List ℕ)
    → place.message ≡ messages + 1 → other.message ≡ before + messages + 1 → task.result place message ≡ Ends outcome
    → task.result other message ≡ Ends (later_by before outcome)
ends_own task alone before messages outcome place other message is was ends =
    let same : Ends outcome ≡ Ends (renumbered (λ number. place.message) outcome) = sym ends ∙ alone.ends place place message outcome ends in
    let own : outcome ≡ renumbered (λ number. place.message) outcome = cc in
    let e : other.message ≡ before + place.message = omega arith in
    alone.ends place other message outcome ends
    ∙ ap Ends (ap (λ n. renumbered (λ number. n) outcome) e
    ∙ (sym (renumbered_twice (λ number. before + number) (λ number. place.message) outcome) ∙ sym (ap (later_by before) own)))

-- messages and their ends at two places
module _ (task : Task) (alone : StandsAlone task) (before : ℕ) where
  alike_given : (messages fields written fields_own written_own place place_own : ℕ) (octets : List ℕ) (later later_own : List Found) (end end_own : End) (given : Given)
      → task.result (place_of messages place_own fields_own) octets ≡ given
      → ((more : ℕ) → Alike before (answers task (before + messages + 1) (fields + task.fields octets) (written + more) later end)
      (answers task (messages + 1) (fields_own + task.fields octets) (written_own + more) later_own end_own))
      → Alike before (answers task (before + messages) fields written (message_after place octets ∷ later) end)
      (answers task messages fields_own written_own (message_after place_own octets ∷ later_own) end_own)
  alike_given messages fields written fields_own written_own place place_own octets later later_own end end_own (Gives acts more) is next =
      let found : Found = message_after place octets in
      let found_own : Found = message_after place_own octets in
      let whole = by_result task (before + messages) fields written found later end (Gives acts more)
      (alone.gives (place_of messages place_own fields_own) (place_of (before + messages) place fields) octets acts more is) in
      let own = by_result task messages fields_own written_own found_own later_own end_own (Gives acts more) is in
      let alike : Alike before (next_after task (before + messages) fields written found later end acts more) (next_after task messages fields_own written_own found_own later_own end_own acts more) =
      alike_after before acts (answers task (before + messages + 1) (fields + task.fields octets) (written + more) later end)
      (answers task (messages + 1) (fields_own + task.fields octets) (written_own + more) later_own end_own) (next more) in
      subst (λ x. Alike before x (answers task messages fields_own written_own (found_own ∷ later_own) end_own)) (sym whole)
      (subst (Alike before (next_after task (before + messages) fields written found later end acts more)) (sym own) alike)
  alike_given messages fields written fields_own written_own place place_own octets later later_own end end_own (Ends outcome) is next =
      let found : Found = message_after place octets in
      let found_own : Found = message_after place_own octets in
      let whole = by_result task (before + messages) fields written found later end (Ends (later_by before outcome))
      (ends_own task alone before messages outcome (place_of messages place_own fields_own) (place_of (before + messages) place fields) octets refl refl is) in
      let own = by_result task messages fields_own written_own found_own later_own end_own (Ends outcome) is in
      record {
        acts = ap (λ x. x.acts) whole ∙ sym (ap (λ x. x.acts) own);
        outcome = ap (λ x. x.outcome) whole ∙ sym (ap (λ x. later_by before x.outcome) own);
      }

  -- what is answered from a place on, after some messages more, and from another
  abbrev AlikeAt : ℕ → ℕ → ℕ → ℕ → ℕ → Stream → Stream → Type 0
  AlikeAt messages fields written fields_own written_own whole own =
      Alike before (answer_to task (before + messages) fields written whole) (answer_to task messages fields_own written_own own)

  alike_by : (messages fields written fields_own written_own : ℕ) (whole other own other_own : Stream) → whole ≡ other → own ≡ other_own
      → AlikeAt messages fields written fields_own written_own other other_own → AlikeAt messages fields written fields_own written_own whole own
  alike_by messages fields written fields_own written_own whole other own other_own is is_own alike =
      subst (λ x. AlikeAt messages fields written fields_own written_own x own) (sym is)
      (subst (AlikeAt messages fields written fields_own written_own other) (sym is_own) alike)

  alike_judged : (messages fields written fields_own written_own place place_own skipped skipped_own octet : ℕ) (octets : List ℕ) (j : Judgement)
      → begins (octet ∷ octets) ≡ true → task.judge (octet ∷ octets) ≡ j
      → ((inside n f w f_own w_own : ℕ)
      → AlikeAt n f w f_own w_own (stream_from task.judge inside (place + 1) skipped octets) (stream_from task.judge inside (place_own + 1) skipped_own octets))
      → AlikeAt messages fields written fields_own written_own (stream_from task.judge 0 place skipped (octet ∷ octets))
      (stream_from task.judge 0 place_own skipped_own (octet ∷ octets))
  alike_judged messages fields written fields_own written_own place place_own skipped skipped_own octet octets (Message total) here is next =
      let own : List ℕ = take total (octet ∷ octets) in
      let later : Stream = stream_from task.judge (total - 1) (place + 1) skipped octets in
      let later_own : Stream = stream_from task.judge (total - 1) (place_own + 1) skipped_own octets in
      let e : before + (messages + 1) ≡ before + messages + 1 = omega arith in
      alike_by messages fields written fields_own written_own (stream_from task.judge 0 place skipped (octet ∷ octets)) (followed_by (message_after place own) later)
      (stream_from task.judge 0 place_own skipped_own (octet ∷ octets)) (followed_by (message_after place_own own) later_own)
      (begun_by task.judge place skipped octet octets (Message total) here is) (begun_by task.judge place_own skipped_own octet octets (Message total) here is)
      (alike_given messages fields written fields_own written_own place place_own own later.messages later_own.messages later.end later_own.end
      (task.result (place_of messages place_own fields_own) own) refl
      (λ more.
      subst
      (λ n. Alike before (answers task n (fields + task.fields own) (written + more) later.messages later.end)
      (answers task (messages + 1) (fields_own + task.fields own) (written_own + more) later_own.messages later_own.end)) e
      (next (total - 1) (messages + 1) (fields + task.fields own) (written + more) (fields_own + task.fields own) (written_own + more))))
  alike_judged messages fields written fields_own written_own place place_own skipped skipped_own octet octets (Faulty fault) here is next =
      let e : before + messages + 1 ≡ before + (messages + 1) = omega arith in
      alike_by messages fields written fields_own written_own (stream_from task.judge 0 place skipped (octet ∷ octets)) (stream_of [] (Refusing fault))
      (stream_from task.judge 0 place_own skipped_own (octet ∷ octets)) (stream_of [] (Refusing fault))
      (begun_by task.judge place skipped octet octets (Faulty fault) here is) (begun_by task.judge place_own skipped_own octet octets (Faulty fault) here is)
      (record { acts = refl; outcome = ap (λ n. Refused (record { message = n; fault = fault })) e })

  alike_from : (inside messages fields written fields_own written_own place place_own skipped skipped_own : ℕ) (octets : List ℕ)
      → AlikeAt messages fields written fields_own written_own (stream_from task.judge inside place skipped octets)
      (stream_from task.judge inside place_own skipped_own octets)
  alike_from zero messages fields written fields_own written_own place place_own skipped skipped_own [] = record { acts = refl; outcome = refl }
  alike_from (suc inside) messages fields written fields_own written_own place place_own skipped skipped_own [] = record { acts = refl; outcome = refl }
  alike_from (suc inside) messages fields written fields_own written_own place place_own skipped skipped_own (octet ∷ octets) =
      alike_from inside messages fields written fields_own written_own (place + 1) (place_own + 1) skipped skipped_own octets
  alike_from zero messages fields written fields_own written_own place place_own skipped skipped_own (octet ∷ octets) =
      ⊎_elim
      (λ here.
      alike_judged messages fields written fields_own written_own place place_own skipped skipped_own octet octets (task.judge (octet ∷ octets)) here refl
      (λ inside n f w f_own w_own. alike_from inside n f w f_own w_own (place + 1) (place_own + 1) skipped skipped_own octets))
      (λ none.
      alike_by messages fields written fields_own written_own (stream_from task.judge 0 place skipped (octet ∷ octets))
      (stream_from task.judge 0 (place + 1) (skipped + 1) octets) (stream_from task.judge 0 place_own skipped_own (octet ∷ octets))
      (stream_from task.judge 0 (place_own + 1) (skipped_own + 1) octets) (stream_skip task.judge place skipped octet octets none)
      (stream_skip task.judge place_own skipped_own octet octets none)
      (alike_from zero messages fields written fields_own written_own (place + 1) (place_own + 1) (skipped + 1) (skipped_own + 1) octets))
      (cases_Bool (begins (octet ∷ octets)))

-- ---- an input that is cut at the end of a message

pub joined_input : (task : Task) → IsLawful task → (front rest : List ℕ) → EndsAtMessage task.judge front → Joins task.judge 0 0 0 front rest
joined_input task lawful front rest ends =
    let e : 0 + 0 ≡ 0 = omega arith in
    let f : length front ≡ 0 + length front = omega arith in
    joins task lawful 0 0 0 front rest (ap (λ p. end_after p (stream task.judge front).messages) e ∙ (ends ∙ f))

-- the whole is answered as its messages are, the first and then the others
record Whole (task : Task) (front rest : List ℕ) : Type 0 where
  passed : ℕ
  others : Stream
  place : ℕ
  front_is : answer_of task front ≡ answers task 0 0 0 (stream task.judge front).messages (Over passed)
  whole_is : answer_of task (front ++ rest) ≡ answers task 0 0 0 ((stream task.judge front).messages ++ others.messages) others.end
  others_are : others ≡ stream_from task.judge 0 place passed rest

whole_of : (task : Task) → IsLawful task → (front rest : List ℕ) → EndsAtMessage task.judge front → Whole task front rest
whole_of task lawful front rest ends =
    let joins : Joins task.judge 0 0 0 front rest = joined_input task lawful front rest ends in
    record {
      passed = joins.passed;
      others = stream_from task.judge 0 (0 + length front) joins.passed rest;
      place = 0 + length front;
      front_is = ap (λ end. answers task 0 0 0 (stream task.judge front).messages end) joins.over;
      whole_is = ap (answer_to task 0 0 0) joins.whole;
      others_are = refl;
    }

pub record AsParts (task : Task) (front rest : List ℕ) : Type 0 where
  pub acts : (answer_of task (front ++ rest)).acts ≡ (answer_of task front).acts ++ (answer_of task rest).acts
  pub outcome : (answer_of task (front ++ rest)).outcome ≡ later_by (message_count task.judge front) (answer_of task rest).outcome

done_of : (task : Task) → IsLawful task → StandsAlone task → (front rest : List ℕ) → Whole task front rest → (answer_of task front).outcome ≡ Done → AsParts task front rest
done_of task lawful alone front rest whole done =
    let count : ℕ = message_count task.judge front in
    let first : Answer = answers task 0 0 0 (stream task.judge front).messages (Over whole.passed) in
    let on : Onward task 0 0 0 whole.passed (stream task.judge front).messages whole.others.messages whole.others.end =
    onward task lawful 0 0 0 whole.passed (stream task.judge front).messages whole.others.messages whole.others.end (sym (ap (λ x. x.outcome) whole.front_is) ∙ done) in
    let e : 0 + count ≡ count + 0 = omega arith in
    let other : Answer = answer_to task (count + 0) on.fields_now on.written_now whole.others in
    let is : answer_of task (front ++ rest) ≡ after first.acts other =
    whole.whole_is ∙ (on.is ∙ ap (λ n. after first.acts (answer_to task n on.fields_now on.written_now whole.others)) e) in
    let alike : Alike count other (answer_of task rest) =
    subst (λ x. Alike count (answer_to task (count + 0) on.fields_now on.written_now x) (answer_of task rest)) (sym whole.others_are)
    (alike_from task alone count 0 0 on.fields_now on.written_now 0 0 whole.place 0 whole.passed 0 rest) in
    record {
      acts = ap (λ x. x.acts) is
          ∙ (ap (λ xs. first.acts ++ xs) alike.acts ∙ sym (ap (λ x. x.acts ++ (answer_of task rest).acts) whole.front_is));
      outcome = ap (λ x. x.outcome) is ∙ alike.outcome;
    }

pub parts_done : (task : Task) (front rest : List ℕ) → IsLawful task → StandsAlone task → EndsAtMessage task.judge front → (answer_of task front).outcome ≡ Done
    → AsParts task front rest
parts_done task front rest lawful alone ends done = done_of task lawful alone front rest (whole_of task lawful front rest ends) done

pub part_stopped : (task : Task) (front rest : List ℕ) → IsLawful task → EndsAtMessage task.judge front → (answer_of task front).outcome ≢ Done
    → answer_of task (front ++ rest) ≡ answer_of task front
part_stopped task front rest lawful ends other =
    let whole : Whole task front rest = whole_of task lawful front rest ends in
    whole.whole_is
    ∙ (stopped task 0 0 0 whole.passed (stream task.judge front).messages whole.others.messages whole.others.end (λ done. other (ap (λ x. x.outcome) whole.front_is ∙ done))
    ∙ sym whole.front_is)
