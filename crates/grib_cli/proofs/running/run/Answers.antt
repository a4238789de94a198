use Rattle.std.proofs.Common.{◌≡◌, ◌-◌, false, Ok, Err, length, map, string_bytes, take, drop, refl, sym, ◌∙◌, subst}
use Rattle.grib_run_spec.specs.Serving.{IfUnread}
use Rattle.grib_run_spec.specs.Tasks.{has_shelf}
use Rattle.grib_words.specs.declared.job.JobFault.TheVariants.{Usage}
use Rattle.grib_words.specs.Words.{IsAsked, job_of, policy_of, profile_of}
use Rattle.grib_cli.specs.Asked.{work_by, work_of}
use Rattle.grib_words.proofs.Asked.{behind}
use Rattle.grib_cli.proofs.Promised.{promised, promised_told, plainly, asks, asks_none, words_stand, soon_never, unread_any}
use Rattle.grib_cli.proofs.running.run.Goals as goal

pub returns-in-Ok-clause-answers : goal.returns-in-Ok-clause-answers
returns-in-Ok-clause-answers g c =
    let words = map string_bytes c.args.words.now in
    promised _ words c.serve_under.result _ _ c.what_a_run_leaves.ensures c.what_a_run_answers_is_in_the_grammar.ensures
    (Ok c.in-Ok.job) c.profile_of.result c.policy_of.result (sym c.is_on_words.ensures ∙ c.if-is_on_words.false) (asks c.in-Ok.job words c.in-Ok.ensures.asked) c.profile_of.ensures c.policy_of.ensures c.in-Ok.ensures.is_job
    c.serve_under.ensures.serves c.serve_under.ensures.soon

pub returns-in-Ok-clause-unread : goal.returns-in-Ok-clause-unread
returns-in-Ok-clause-unread g c =
    let words = map string_bytes c.args.words.now in
    subst (λ work. IfUnread work (g.H.Shelf.contents c.args.shelf.now) (c.serve_under.new.input ≡ c.args.input.now))
    (sym (plainly words (Ok c.in-Ok.job) (sym c.is_on_words.ensures ∙ c.if-is_on_words.false) (asks c.in-Ok.job words c.in-Ok.ensures.asked)))
    (subst (λ profile. IfUnread (work_by profile (Ok c.in-Ok.job)) (g.H.Shelf.contents c.args.shelf.now) (c.serve_under.new.input ≡ c.args.input.now)) c.profile_of.ensures c.serve_under.ensures.unread)

pub returns-in-Ok-clause-unused : goal.returns-in-Ok-clause-unused
returns-in-Ok-clause-unused g c =
    let words = map string_bytes c.args.words.now in
    subst (λ work. has_shelf work ≡ false → c.serve_under.new.shelf ≡ c.args.shelf.now)
    (sym (plainly words (Ok c.in-Ok.job) (sym c.is_on_words.ensures ∙ c.if-is_on_words.false) (asks c.in-Ok.job words c.in-Ok.ensures.asked)))
    (subst (λ profile. has_shelf (work_by profile (Ok c.in-Ok.job)) ≡ false → c.serve_under.new.shelf ≡ c.args.shelf.now) c.profile_of.ensures c.serve_under.ensures.unused)

pub returns-in-Err-Usage-clause-answers : goal.returns-in-Err-Usage-clause-answers
returns-in-Err-Usage-clause-answers g c =
    let words = map string_bytes c.args.words.now in
    promised _ words c.end_at_once.result _ _ c.what_a_run_leaves.ensures c.what_a_run_answers_is_in_the_grammar.ensures
    (Err (Usage c.in-Err-Usage.word)) (profile_of words) (policy_of words) (sym c.is_on_words.ensures ∙ c.if-is_on_words.false) (asks_none c.in-Err-Usage.word words (subst (λ fault. IsAsked (Err fault) words) c.in-Err-Usage.field-0-is c.in-Err-Usage.ensures.asked)) refl refl tt
    (c.end_at_once.ensures.serves (policy_of words)) (λ stops. tt)

pub returns-in-Err-Usage-clause-unread : goal.returns-in-Err-Usage-clause-unread
returns-in-Err-Usage-clause-unread g c = unread_any (work_of (map string_bytes c.args.words.now)) (g.H.Shelf.contents c.args.shelf.now) _ refl

pub returns-in-Err-Memory-clause-answers : goal.returns-in-Err-Memory-clause-answers
returns-in-Err-Memory-clause-answers g c =
    let words = map string_bytes c.args.words.now in
    promised _ words c.end_without_memory.result _ _ c.what_a_run_leaves.ensures c.what_a_run_answers_is_in_the_grammar.ensures
    (job_of words) (profile_of words) (policy_of words) (sym c.is_on_words.ensures ∙ c.if-is_on_words.false) refl refl refl (words_stand words)
    (c.end_without_memory.ensures.serves (work_by (profile_of words) (job_of words)) (policy_of words))
    (λ stops. soon_never (profile_of words) (job_of words) c.end_without_memory.result _ _ c.end_without_memory.ensures.one_of)

pub returns-in-Err-Memory-clause-unread : goal.returns-in-Err-Memory-clause-unread
returns-in-Err-Memory-clause-unread g c = unread_any (work_of (map string_bytes c.args.words.now)) (g.H.Shelf.contents c.args.shelf.now) _ refl

pub returns-then-is_on_words-clause-answers : goal.returns-then-is_on_words-clause-answers
returns-then-is_on_words-clause-answers g c =
    let words = map string_bytes c.args.words.now in
    promised_told _ words c.tell_of.result _ _ c.what_a_run_leaves.ensures c.what_a_run_answers_is_in_the_grammar.ensures
    (map string_bytes (take (length c.args.words.now - 1) (drop 1 c.args.words.now))) (behind string_bytes c.args.words.now) (sym c.is_on_words.ensures ∙ c.if-is_on_words.true)
    (c.tell_of.ensures (policy_of words))

pub returns-then-is_on_words-clause-unread : goal.returns-then-is_on_words-clause-unread
returns-then-is_on_words-clause-unread g c = unread_any (work_of (map string_bytes c.args.words.now)) (g.H.Shelf.contents c.args.shelf.now) _ refl
