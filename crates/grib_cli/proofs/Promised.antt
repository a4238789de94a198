-- What is promised of a run, from what serving it promises.
use Rattle.std.proofs.Common.{◌≡◌, ◌⊎◌, ⊎_elim, inl, inr, Bool, true, false, cond, ◌&&◌, ◌==◌, ◌+◌, List, [], ◌∷◌, length, codes, ap, ℕ, Result, Ok, Err, IfOk, IfSome, Some, None, drop, refl, sym, ◌∙◌, subst, rules, tests}
use Rattle.std.specs.declared.option.Option.{Option}
use Rattle.grib_base.specs.declared.profile.Profile.{Profile}
use Rattle.grib_io.specs.Shelves.{Held}
use Rattle.grib_stream.specs.declared.outcome.Outcome.TheVariants as outcomes
use Rattle.grib_stream.specs.declared.outcome.Outcome.{Outcome}
use Rattle.grib_items.specs.declared.policy.Policy.{Policy}
use Rattle.grib_items.specs.Laws.{nothing}
use Rattle.grib_command.specs.declared.job.Job.{Job}
use Rattle.grib_command.specs.Jobs.{IsJob}
use Rattle.grib_dispatch.specs.Hearing.{RefusesInTime}
use Rattle.grib_run_spec.specs.Seen.{Seen}
use Rattle.grib_run_spec.specs.Serving.{AnswersWork, IfUnread, Serves}
use Rattle.grib_run_spec.specs.Tasks as tasks
use Rattle.grib_run_spec.specs.Tasks.{IfHears, IfReads, Work, Reads, Makes, ReadsTables, ReadsFile, writing}
use Rattle.grib_run_law.specs.Judged.{Judges}
use Rattle.grib_run_law.specs.Leaving.{Leaves}
use Rattle.grib_cli.specs.Answers.{Answers}
use Rattle.grib_words.specs.declared.job.JobFault.{JobFault}
use Rattle.grib_words.specs.declared.job.JobFault.TheVariants.{Usage}
use Rattle.grib_words.specs.declared.command.Command as lines
use Rattle.grib_words.specs.declared.command.Command.TheVariants as the
use Rattle.grib_help.specs.Helping.{is_help, is_on_words, told_of_words}
use Rattle.grib_words.specs.Reading.{has_equals, command_named, is_read, read_count, reading_of, reading}
use Rattle.grib_words.specs.Words.{IsAsked, job_of, job_of_reading, policy_of, profile_of}
use Rattle.grib_cli.specs.Asked.{work_by, work_of}
use Rattle.grib_engine.proofs.Unread.{left_alone}
use Rattle.grib_engine.proofs.Unfiled.{file_alone}
use Rattle.grib_words.proofs.Asked.{either, same_text, has_read, is_job, read_behind}

-- ---- words behind `help`

unread_by : (has : Bool) → (has && false) ≡ false
unread_by true = refl
unread_by false = refl

no_word_of_help : (word : List ℕ) → is_read the.Help [] word ≡ false
no_word_of_help word = unread_by (has_equals word)

none_read : (second : List ℕ) (later : List (List ℕ)) → read_count the.Help [] (second ∷ later) ≡ 0
none_read second later = ap (λ read. cond read (read_count the.Help (second ∷ []) later) 0) (no_word_of_help second)

more_than_none : (second : List ℕ) (later : List (List ℕ)) → (0 == length (second ∷ later)) ≡ false
more_than_none second later = search (rules, tests)

named_help : (word : List ℕ) → is_help word ≡ true → command_named word ≡ Some the.Help
named_help word is =
    ⊎_elim (λ plain. ap command_named (same_text word (codes "help") plain)) (λ dashed. ap command_named (same_text word (codes "--help") dashed)) (either _ _ is)

-- they ask for no job
asks_no_job : (words : List (List ℕ)) → is_on_words words ≡ true → job_of words ≡ Err (Usage 1)
asks_no_job [] on = cc
asks_no_job (first ∷ []) on = cc
asks_no_job (first ∷ second ∷ later) on =
    ap (λ command. job_of_reading (reading_of command (second ∷ later)) (second ∷ later)) (named_help first on)
    ∙ ap (λ count. job_of_reading (cond ((count == length (second ∷ later)) && true) (Ok the.Help) (Err (count + 1))) (second ∷ later)) (none_read second later)
    ∙ ap (λ all. job_of_reading (cond (all && true) (Ok the.Help) (Err 1)) (second ∷ later)) (more_than_none second later)

-- what they ask for is the work of their job
pub plainly : (words : List (List ℕ)) (asked : Result Job JobFault) → is_on_words words ≡ false → job_of words ≡ asked → work_of words ≡ work_by (profile_of words) asked
plainly words asked plain is = ap (λ on. cond on (Makes (writing (told_of_words (drop 1 words)) [])) (work_by (profile_of words) (job_of words))) plain ∙ ap (work_by (profile_of words)) is

-- where it does, it is to tell of those behind it
told : (words : List (List ℕ)) → is_on_words words ≡ true → work_of words ≡ Makes (writing (told_of_words (drop 1 words)) [])
told words on = ap (λ on. cond on (Makes (writing (told_of_words (drop 1 words)) [])) (work_by (profile_of words) (job_of words))) on

module _ (takes_memory : Bool) (words : List (List ℕ)) (outcome : Outcome) (before now : Seen)
    (leaves : (profile : Profile) (job : Job) (policy : Policy) (outcome : Outcome) (before now : Seen) → IsJob job → AnswersWork (tasks.work_under profile job) policy outcome before now → Leaves profile job policy outcome before now)
    (judges : (profile : Profile) (job : Job) (policy : Policy) (outcome : Outcome) (before now : Seen) → AnswersWork (tasks.work_under profile job) policy outcome before now → IfSome before.left (Judges profile policy outcome)) where
  judged_by : (asked : Result Job JobFault) → IfOk asked (λ job. AnswersWork (work_by (profile_of words) asked) (policy_of words) outcome before now)
      → IfOk asked (λ job. IfSome before.left (Judges (profile_of words) (policy_of words) outcome))
  judged_by (Ok job) answer = judges (profile_of words) job (policy_of words) outcome before now answer
  judged_by (Err fault) answer = tt

  kept_by : (asked : Result Job JobFault) → IfOk asked IsJob → IfOk asked (λ job. AnswersWork (work_by (profile_of words) asked) (policy_of words) outcome before now)
      → IfOk asked (λ job. Leaves (profile_of words) job (policy_of words) outcome before now)
  kept_by (Ok job) is_job answer = leaves (profile_of words) job (policy_of words) outcome before now is_job answer
  kept_by (Err fault) is_job answer = tt

  promised_by : (asked : Result Job JobFault) → job_of words ≡ asked → IfOk asked IsJob
      → Serves takes_memory (work_of words) (policy_of words) outcome before now
      → IfOk asked (λ job. AnswersWork (work_by (profile_of words) asked) (policy_of words) outcome before now)
      → (policy_of words ≡ nothing → IfOk asked (λ job. IfHears job (RefusesInTime (profile_of words) outcome before.left now.left)))
      → Answers takes_memory words outcome before now
  promised_by asked is is_job served answer soon =
      record {
        answer = served.answer;
        soon = λ stops. subst (λ a. IfOk a (λ job. IfHears job (RefusesInTime (profile_of words) outcome before.left now.left))) (sym is) (soon stops);
        judged = subst (λ a. IfOk a (λ job. IfSome before.left (Judges (profile_of words) (policy_of words) outcome))) (sym is) (judged_by asked answer);
        kept = subst (λ a. IfOk a (λ job. Leaves (profile_of words) job (policy_of words) outcome before now)) (sym is) (kept_by asked is_job answer);
        ends = served.settled;
        stands = served.stands;
        counts = served.counts;
        told = served.told;
        unshelved = served.unshelved;
        table_stays = served.table_stays;
      }

  answered : (asked : Result Job JobFault) → AnswersWork (work_by (profile_of words) asked) (policy_of words) outcome before now
      → IfOk asked (λ job. AnswersWork (work_by (profile_of words) asked) (policy_of words) outcome before now)
  answered (Ok job) answer = answer
  answered (Err fault) answer = tt

  pub promised : (asked : Result Job JobFault) (profile : Profile) (policy : Policy) → is_on_words words ≡ false → job_of words ≡ asked
      → profile ≡ profile_of words → policy ≡ policy_of words → IfOk asked IsJob
      → Serves takes_memory (work_by profile asked) policy outcome before now
      → (policy ≡ nothing → IfOk asked (λ job. IfHears job (RefusesInTime profile outcome before.left now.left)))
      → Answers takes_memory words outcome before now
  promised asked profile policy plain is profile_is policy_is is_job serves soon =
      let by_policy = subst (λ p. Serves takes_memory (work_by profile asked) p outcome before now) policy_is serves in
      let own = subst (λ p. Serves takes_memory (work_by p asked) (policy_of words) outcome before now) profile_is by_policy in
      promised_by asked is is_job (subst (λ work. Serves takes_memory work (policy_of words) outcome before now) (sym (plainly words asked plain is)) own)
      (answered asked own.answer)
      (λ stops. subst (λ p. IfOk asked (λ job. IfHears job (RefusesInTime p outcome before.left now.left))) profile_is (soon (policy_is ∙ stops)))

  -- of words that `help` stands before
  -- `later` stands behind `help`
  pub promised_told : (later : List (List ℕ)) → later ≡ drop 1 words → is_on_words words ≡ true
      → Serves takes_memory (Makes (writing (told_of_words later) [])) (policy_of words) outcome before now → Answers takes_memory words outcome before now
  promised_told later is on serves =
      promised_by (Err (Usage 1)) (asks_no_job words on) tt
      (subst (λ work. Serves takes_memory work (policy_of words) outcome before now) (ap (λ l. Makes (writing (told_of_words l) [])) is ∙ sym (told words on)) serves)
      tt (λ stops. tt)

-- ---- what the words ask for

pub asks : (job : Job) (words : List (List ℕ)) → IsAsked (Ok job) words → job_of words ≡ Ok job
asks job words (inl same) = sym same
asks job words (inr memory) = let no : ⊥ = cc in absurd no

pub asks_none : (word : ℕ) (words : List (List ℕ)) → IsAsked (Err (Usage word)) words → job_of words ≡ Err (Usage word)
asks_none word words (inl same) = sym same
asks_none word words (inr memory) = let no : ⊥ = cc in absurd no

read_job : (words : List (List ℕ)) (found : Result lines.Command ℕ) → reading words ≡ found → IfOk (job_of_reading found (drop 1 words)) IsJob
read_job words (Ok command) is = is_job command (drop 1 words) (has_read command (drop 1 words) (read_behind words command is))
read_job words (Err word) is = tt

-- the job of words is one that there is
pub words_stand : (words : List (List ℕ)) → IfOk (job_of words) IsJob
words_stand words = read_job words (reading words) refl

-- ---- where there is no memory for the words

hears_any : (work : Work) (P : Type 0) → P → IfReads work None (λ command. command.hears ≡ true → P)
hears_any (Reads command) P held = λ hears. held
hears_any (Makes stated) P held = tt
hears_any (ReadsTables asked commands) P held = tt
hears_any (ReadsFile profile name commands) P held = tt

pub soon_never : (profile : Profile) (asked : Result Job JobFault) (outcome : Outcome) (left left_now : Option (List ℕ)) → (outcome ≡ outcomes.Memory) ⊎ (outcome ≡ outcomes.WriteFault)
    → IfOk asked (λ job. IfHears job (RefusesInTime profile outcome left left_now))
soon_never profile (Ok job) outcome left left_now (inl memory) =
    hears_any (tasks.work_of job) (RefusesInTime profile outcome left left_now) (λ refusal is closed. let no : ⊥ = cc (sym memory ∙ is) in absurd no)
soon_never profile (Ok job) outcome left left_now (inr write) =
    hears_any (tasks.work_of job) (RefusesInTime profile outcome left left_now) (λ refusal is closed. let no : ⊥ = cc (sym write ∙ is) in absurd no)
soon_never profile (Err fault) outcome left left_now one = tt

-- nothing is read
pub unread_any : (work : Work) (names : Option Held) (P : Type 0) → P → IfUnread work names P
unread_any (Reads command) names P held = tt
unread_any (Makes stated) names P held = held
unread_any (ReadsTables asked commands) names P held = left_alone asked commands names P held
unread_any (ReadsFile profile name commands) names P held = file_alone profile name commands names P held
