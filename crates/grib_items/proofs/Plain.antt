-- A run that passes nothing is that of a stream.
use Rattle.std.proofs.Common.{◌≡◌, ℕ, zero, suc, ◌+◌, ◌-◌, Bool, true, false, cond, ◌&&◌, List, [], ◌∷◌, ◌++◌, length, take, nat_lt, None, refl, sym, ap, subst}
use Rattle.grib_base.specs.Rules.{choose}
use Rattle.grib_base.specs.declared.fault.Fault.{Fault}
use Rattle.grib_stream.specs.declared.outcome.Outcome.{Outcome}
use Rattle.grib_stream.specs.declared.outcome.Outcome.TheVariants.{InputTooLong, Refused as Refusal}
use Rattle.grib_stream.specs.Stream as streams
use Rattle.grib_stream.specs.Stream.{begins, Judgement, Message, Faulty, Found, message_after, Stream, on_judgement, stream_from}
use Rattle.grib_stream.specs.Outcomes.{is_truncated, is_open}
use Rattle.grib_stream.specs.Answer as plain
use Rattle.grib_stream.specs.Acts.{Act}
use Rattle.grib_stream.specs.Answer.{Answer, at_limit, silent}
use Rattle.grib_stream.specs.Task.{Task, IsLawful, Given, Gives, Ends}
use Rattle.grib_stream.specs.Texts.{Texts}
use Rattle.grib_stream.proofs.Exits.{closed_at_limit}
use Rattle.grib_stream.proofs.ByKind.{of_message}
use Rattle.grib_items.specs.Next.{Unknown, Refuses, next_judged}
use Rattle.grib_items.specs.Items.{Items, Accepted, End, Refusing, Open, items_of, followed_by, end_by, on_next, items_from}
use Rattle.grib_items.specs.Deeds.{deeds}
use Rattle.grib_items.specs.Answer.{Counts, Answered, after, ends_with, answers, answer_of, answer_within, on_comes, on_given, on_end, one_answered, no_counts, place_by}
use Rattle.grib_items.specs.Laws.{nothing, IsPlain, accepted_items}

-- the end of a stream as that of items
abbrev ended : Bool → streams.End → End
ended more (streams.Over skipped) = end_by more skipped
ended more (streams.Refusing fault) = cond (more && is_truncated fault.reason) Open (Refusing fault)

abbrev as_items : Bool → Stream → Items
as_items more stream = items_of (accepted_items stream.messages) (ended more stream.end)

refused_alike : (b : Bool) (fault : Fault) (place skipped : ℕ) (octets : List ℕ) (go : ℕ → ℕ → Items)
    → on_next (cond b Unknown (Refuses fault)) place skipped octets go ≡ items_of [] (cond b Open (Refusing fault))
refused_alike true fault place skipped octets go = refl
refused_alike false fault place skipped octets go = refl

judged_alike : (more : Bool) (place skipped : ℕ) (octets : List ℕ) (j : Judgement) (go : ℕ → ℕ → Items) (later : ℕ → Stream)
    → ((inside : ℕ) → go inside skipped ≡ as_items more (later inside))
    → on_next (next_judged false more octets j) place skipped octets go
    ≡ as_items more (on_judgement j (λ total. streams.followed_by (message_after place (take total octets)) (later (total - 1))))
judged_alike more place skipped octets (Message total) go later alike =
    ap (followed_by (Accepted (message_after place (take total octets)))) (alike (total - 1))
judged_alike more place skipped octets (Faulty fault) go later alike = refused_alike (more && is_truncated fault.reason) fault place skipped octets go

chosen_alike : (b more : Bool) (x y : Items) (u v : Stream) → x ≡ as_items more u → y ≡ as_items more v
    → choose b (λ _. x) (λ _. y) ≡ as_items more (choose b (λ _. u) (λ _. v))
chosen_alike true more x y u v first second = first
chosen_alike false more x y u v first second = second

items_alike : (judge : List ℕ → Judgement) (more : Bool) (inside place skipped : ℕ) (octets : List ℕ)
    → items_from judge false more inside place skipped octets ≡ as_items more (stream_from judge inside place skipped octets)
items_alike judge more zero place skipped [] = refl
items_alike judge more (suc inside) place skipped [] = refl
items_alike judge more (suc inside) place skipped (octet ∷ octets) = items_alike judge more inside (place + 1) skipped octets
items_alike judge more zero place skipped (octet ∷ octets) =
    chosen_alike (begins (octet ∷ octets)) more _ _ _ _
    (judged_alike more place skipped (octet ∷ octets) (judge (octet ∷ octets)) (λ inside skipped. items_from judge false more inside (place + 1) skipped octets)
    (λ inside. stream_from judge inside (place + 1) skipped octets) (λ inside. items_alike judge more inside (place + 1) skipped octets))
    (items_alike judge more zero (place + 1) (skipped + 1) octets)

-- ---- answers

-- the answer to all of an input, or to the first octets of one that goes on
abbrev cut : Task → Bool → Answer → Answer
cut task more answer = cond more (at_limit task answer) answer

cut_by : (b more : Bool) (answer cut_off : Answer) (acts : List Act)
    → cond more (cond b (plain.after acts cut_off) (plain.after acts answer)) (plain.after acts answer)
    ≡ plain.after acts (cond more (cond b cut_off answer) answer)
cut_by b false answer cut_off acts = refl
cut_by true true answer cut_off acts = refl
cut_by false true answer cut_off acts = refl

cut_after : (task : Task) (more : Bool) (acts : List Act) (answer : Answer) → cut task more (plain.after acts answer) ≡ plain.after acts (cut task more answer)
cut_after task more acts answer =
    cut_by (is_open answer.outcome) more answer (record { acts = answer.acts; ending = []; note = task.note InputTooLong; outcome = InputTooLong }) acts

plain_after : (task : Task) (acts : List Act) (answer : Answered) (p : Answer) → IsPlain task answer p → IsPlain task (after (deeds acts []) answer) (plain.after acts p)
plain_after task acts answer p is = record {
  acts = ap (λ xs. acts ++ xs) is.acts;
  lines = is.lines;
  ending = is.ending;
  outcome = is.outcome;
  note = is.note;
}

-- nothing was passed yet
record Clear (counts : Counts) : Type 0 where
  refused : counts.refused ≡ 0
  kept : counts.kept ≡ 0

refusing_plain : (task : Task) (t : Bool) (counts : Counts) (fault : Fault)
    → IsPlain task (on_end task counts (cond t Open (Refusing fault)))
    (cond t (record { acts = []; ending = []; note = task.note InputTooLong; outcome = InputTooLong })
    (silent task (Refusal (plain.refusal_after counts.messages fault))))
refusing_plain task true counts fault = record { acts = refl; lines = refl; ending = refl; outcome = refl; note = tt }
refusing_plain task false counts fault = record { acts = refl; lines = refl; ending = refl; outcome = refl; note = tt }

end_plain : (task : Task) (more : Bool) (counts : Counts) (end : streams.End) → Clear counts
    → IsPlain task (on_end task counts (ended more end)) (cut task more (plain.on_end task counts.messages counts.fields counts.written end))
end_plain task false counts (streams.Over skipped) clear = record { acts = refl; lines = refl; ending = refl; outcome = refl; note = (refl, (clear.refused, clear.kept)) }
end_plain task true counts (streams.Over skipped) clear = record { acts = refl; lines = refl; ending = refl; outcome = refl; note = tt }
end_plain task false counts (streams.Refusing fault) clear = record { acts = refl; lines = refl; ending = refl; outcome = refl; note = tt }
end_plain task true counts (streams.Refusing fault) clear = refusing_plain task (is_truncated fault.reason) counts fault

stops_plain : (task : Task) (more : Bool) (outcome : Outcome) → is_open outcome ≡ false → IsPlain task (ends_with outcome) (cut task more (silent task outcome))
stops_plain task false outcome closed = record { acts = refl; lines = refl; ending = refl; outcome = refl; note = tt }
stops_plain task true outcome closed =
    subst (IsPlain task (ends_with outcome)) (sym (closed_at_limit task (silent task outcome) closed))
    record { acts = refl; lines = refl; ending = refl; outcome = refl; note = tt }

given_plain : (task : Task) (texts : Texts) (more : Bool) (counts : Counts) (found : Found) (given : Given) (next : Counts → Answered) (later : ℕ → Answer)
    → Clear counts → ((outcome : Outcome) → given ≡ Ends outcome → is_open outcome ≡ false)
    → ((written : ℕ) → Clear (one_answered counts (task.fields found.octets) written)
    → IsPlain task (next (one_answered counts (task.fields found.octets) written)) (cut task more (later written)))
    → IsPlain task (on_comes (on_given texts None counts (place_by counts found.before) (task.fields found.octets) found.octets given) (λ done counts. after done (next counts)))
    (cut task more (plain.on_given task given (λ acts written. plain.after acts (later written))))
given_plain task texts more counts found (Gives acts written) next later clear closed plainly =
    subst (IsPlain task (after (deeds acts []) (next (one_answered counts (task.fields found.octets) written)))) (sym (cut_after task more acts (later written)))
    (plain_after task acts _ _ (plainly written record { refused = clear.refused; kept = clear.kept }))
given_plain task texts more counts found (Ends outcome) next later clear closed plainly = stops_plain task more outcome (closed outcome refl)

answers_plain : (task : Task) → IsLawful task → (texts : Texts) (more : Bool) (counts : Counts) (messages : List Found) (end : streams.End) → Clear counts
    → IsPlain task (answers task texts nothing counts (accepted_items messages) (ended more end))
    (cut task more (plain.answers task counts.messages counts.fields counts.written messages end))
answers_plain task lawful texts more counts [] end clear = end_plain task more counts end clear
answers_plain task lawful texts more counts (found ∷ later) end clear =
    given_plain task texts more counts found (task.result (place_by counts found.before) found.octets)
    (λ counts. answers task texts nothing counts (accepted_items later) (ended more end))
    (λ written. plain.answers task (counts.messages + 1) (counts.fields + task.fields found.octets) (counts.written + written) later end) clear
    (λ outcome is. (of_message outcome (lawful.ends_at_message (place_by counts found.before) found.octets outcome is)).closed)
    (λ written clear. answers_plain task lawful texts more (one_answered counts (task.fields found.octets) written) later end clear)

answer_plain : (task : Task) → IsLawful task → (texts : Texts) (more : Bool) (input : List ℕ)
    → IsPlain task (answer_of task texts nothing more input) (cut task more (plain.answer_of task input))
answer_plain task lawful texts more input =
    subst (λ (items : Items). IsPlain task (answers task texts nothing no_counts items.items items.end) (cut task more (plain.answer_of task input)))
    (sym (items_alike task.judge more 0 0 0 input))
    (answers_plain task lawful texts more no_counts (stream_from task.judge 0 0 0 input).messages (stream_from task.judge 0 0 0 input).end
    record { refused = refl; kept = refl })

within_plain : (b : Bool) (task : Task) (x y : Answered) (u v : Answer) → IsPlain task x (at_limit task u) → IsPlain task y v
    → IsPlain task (choose b (λ _. x) (λ _. y)) (choose b (λ _. at_limit task u) (λ _. v))
within_plain true task x y u v first second = first
within_plain false task x y u v first second = second

pub nothing_passed : (task : Task) (texts : Texts) (limit : ℕ) (input : List ℕ) → IsLawful task
    → IsPlain task (answer_within limit task texts nothing input) (plain.answer_within limit task input)
nothing_passed task texts limit input lawful =
    within_plain (nat_lt limit (length input)) task _ _ (plain.answer_of task (take limit input)) (plain.answer_of task input)
    (answer_plain task lawful texts true (take limit input)) (answer_plain task lawful texts false input)
