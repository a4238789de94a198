-- The answer to an input whose messages are all in the grammar and all answered.
use Rattle.std.proofs.Common.{◌≡◌, ℕ, suc, ◌+◌, ◌-◌, ◌^◌, ◌≤◌, ◌==◌, inl, inr, true, false, Some, None, List, [], ◌∷◌, ◌++◌, length, take, drop, All, refl, sym, ap, ◌∙◌, arith, length-append}
use Rattle.std.proofs.Math.Seq.{take-append_seam, drop-append_seam}
use Rattle.std.proofs.lemmas.List.{take-append-le, drop_all}
use Rattle.std.proofs.lemmas.List.Elements.{All-head, All-tail}
use Rattle.grib_base.specs.Rules.{choose}
use Rattle.grib_base.specs.declared.profile.Profile.{Profile}
use Rattle.grib1_sections.specs.Acceptance.{verdict_1}
use Rattle.grib2_message.specs.Acceptance.{verdict_under}
use Rattle.grib_stream.specs.declared.outcome.Outcome.TheVariants.{Done}
use Rattle.grib_stream.specs.Acts.{Act}
use Rattle.grib_stream.specs.Answer.{Answer, after, on_given, place_of, answer_to, answer_within}
use Rattle.grib_stream.specs.Stream.{begins, Message, Stream, followed_by, message_after, stream_from}
use Rattle.grib_stream.specs.Task.{Task, Given, Gives}
use Rattle.grib_stream.proofs.Exits.{within_short}
use Rattle.grib_stream.proofs.Streams.{stream_passed, stream_message, is_begun}
use Rattle.grib_command.specs.declared.job.Job.{Job}
use Rattle.grib_command.specs.declared.job.Job.TheVariants.{Check, List as Listing, Keys, Lines, Stats, Dump, Values, Coordinates, Compare, Filter, FilterNamed, Filter1, Split, Set, Set1, Repack, RepackLeast, Rescan, Crop, Within, Migrate, Demote, Make, Print}
use Rattle.grib_command.specs.Command.{Command, given, task, under}
use Rattle.grib_run_law.specs.Complete.{Piece, IsInGrammar, IsMadeOf, HaveResults}
use Rattle.grib_run_law.specs.Written.{HasResult}
use Rattle.grib_command.specs.Judging.{judged, judge_under, fields_of}
use Rattle.grib_dispatch.specs.Lawful.{least_message, message_stays}
use Rattle.grib_command.specs.Pages.{text_of}
use Rattle.grib_run_spec.specs.Tasks as tasks
use Rattle.grib_table.specs.Together.{Texts}
use Rattle.grib_run_spec.specs.Tasks.{Stated, Work, Reads, Makes, ReadsTables, ReadsFile, by_profile, work_of_job, work_under, made_answer, writing, answer_by, answer_beside, answer_under}

-- ---- jobs that make something

made_done : (job : Job) (stated : Stated) → work_of_job job ≡ Makes stated → stated.outcome ≡ Done
made_done Check stated is = let no : ⊥ = cc in absurd no
made_done Listing stated is = let no : ⊥ = cc in absurd no
made_done Keys stated is = let no : ⊥ = cc in absurd no
made_done (Lines form columns None) stated is = let no : ⊥ = cc in absurd no
made_done (Lines form columns (Some names)) stated is = let no : ⊥ = cc in absurd no
made_done Stats stated is = let no : ⊥ = cc in absurd no
made_done (Dump None true) stated is = let no : ⊥ = cc in absurd no
made_done (Dump None false) stated is = let no : ⊥ = cc in absurd no
made_done (Dump (Some places) true) stated is = let no : ⊥ = cc in absurd no
made_done (Dump (Some places) false) stated is = let no : ⊥ = cc in absurd no
made_done (Values format) stated is = let no : ⊥ = cc in absurd no
made_done Coordinates stated is = let no : ⊥ = cc in absurd no
made_done (Compare name sections quiet) stated is = let no : ⊥ = cc in absurd no
made_done (Filter conditions) stated is = let no : ⊥ = cc in absurd no
made_done (FilterNamed conditions names wanted) stated is = let no : ⊥ = cc in absurd no
made_done (Filter1 conditions) stated is = let no : ⊥ = cc in absurd no
made_done (Split name edition_1) stated is = let no : ⊥ = cc in absurd no
made_done (Set changes dates) stated is = let no : ⊥ = cc in absurd no
made_done (Set1 changes dates) stated is = let no : ⊥ = cc in absurd no
made_done (Repack target) stated is = let no : ⊥ = cc in absurd no
made_done (RepackLeast profile) stated is = let no : ⊥ = cc in absurd no
made_done Rescan stated is = let no : ⊥ = cc in absurd no
made_done (Crop area) stated is = let no : ⊥ = cc in absurd no
made_done (Within bounds) stated is = let no : ⊥ = cc in absurd no
made_done (Migrate params surfaces local) stated is = let no : ⊥ = cc in absurd no
made_done (Demote params keep_local any_earth matching) stated is = let no : ⊥ = cc in absurd no
made_done (Make seed ni nj target) stated is =
    let same : made_answer seed ni nj target ≡ stated = cc in
    sym (ap (λ a. a.outcome) same)
made_done (Print page) stated is =
    let same : writing (text_of page) [] ≡ stated = cc in
    sym (ap (λ a. a.outcome) same)

-- ---- by a profile

module _ (profile : Profile) where
  -- ---- one message

  grammar_judged : (message : List ℕ) → IsInGrammar profile message → judge_under profile message ≡ Message (length message)
  grammar_judged message (inl m) =
      ap (λ e. choose (e == 1) (λ _. judged (verdict_1 message)) (λ _. judged (verdict_under profile message))) m.edition_stands ∙ ap judged m.accepted
  grammar_judged message (inr m) =
      ap (λ e. choose (e == 1) (λ _. judged (verdict_1 message)) (λ _. judged (verdict_under profile message))) m.edition_stands ∙ ap judged m.accepted

  grammar_begins : (message rest : List ℕ) → IsInGrammar profile message → 4 ≤ length message → begins (message ++ rest) ≡ true
  grammar_begins message rest (inl m) long = is_begun (message ++ rest) (take-append-le 4 message rest long ∙ m.indicated)
  grammar_begins message rest (inr m) long = is_begun (message ++ rest) (take-append-le 4 message rest long ∙ m.indicated)

  one_message : (place skipped : ℕ) (message rest : List ℕ) → IsInGrammar profile message
      → stream_from (judge_under profile) 0 place skipped (message ++ rest) ≡ followed_by (message_after place message) (stream_from (judge_under profile) 0 (place + length message) skipped rest)
  one_message place skipped message rest grammar =
      let n = length message in
      let is = grammar_judged message grammar in
      let least = least_message profile message n is in
      let whole : suc (n - 1) ≡ n = omega arith in
      stream_message (judge_under profile) place skipped (n - 1) (message ++ rest) (grammar_begins message rest grammar (omega arith)) (message_stays profile message rest n is ∙ ap Message (sym whole))
      ∙ (ap (λ k. followed_by (message_after place (take k (message ++ rest))) (stream_from (judge_under profile) 0 (place + k) skipped (drop k (message ++ rest)))) whole
      ∙ (ap (λ xs. followed_by (message_after place xs) (stream_from (judge_under profile) 0 (place + n) skipped (drop n (message ++ rest)))) (take-append_seam message rest)
      ∙ ap (λ xs. followed_by (message_after place message) (stream_from (judge_under profile) 0 (place + n) skipped xs)) (drop-append_seam message rest)))

  one_piece : (place skipped : ℕ) (between message rest input : List ℕ) → input ≡ between ++ (message ++ rest)
      → stream_from (judge_under profile) 0 place skipped input ≡ stream_from (judge_under profile) 0 (place + length between) (skipped + length between) (drop (length between) input)
      → IsInGrammar profile message
      → stream_from (judge_under profile) 0 place skipped input
      ≡ followed_by (message_after (place + length between) message) (stream_from (judge_under profile) 0 (place + length between + length message) (skipped + length between) rest)
  one_piece place skipped between message rest input is passed grammar =
      let b = length between in
      passed
      ∙ (ap (λ xs. stream_from (judge_under profile) 0 (place + b) (skipped + b) xs) (ap (drop b) is ∙ drop-append_seam between (message ++ rest))
      ∙ one_message (place + b) (skipped + b) message rest grammar)

  -- ---- all of them

  given_done : (t : Task) (g : Given) (acts : List Act) (written : ℕ) (next : List Act → ℕ → Answer) → g ≡ Gives acts written → (next acts written).outcome ≡ Done
      → (on_given t g next).outcome ≡ Done
  given_done t g acts written next is done = ap (λ x. (on_given t x next).outcome) is ∙ done

  module _ (command : Command) where
    done_followed : (m f w : ℕ) (before : ℕ) (piece : Piece) (s : Stream) → HasResult command piece.message
        → ((more : ℕ) → (answer_to (task (under profile command)) (m + 1) (f + fields_of piece.message) (w + more) s).outcome ≡ Done)
        → (answer_to (task (under profile command)) m f w (followed_by (message_after before piece.message) s)).outcome ≡ Done
    done_followed m f w before piece s has later =
        let (acts, written, is) = has (place_of m before f) in
        given_done (task (under profile command)) (given command (place_of m before f) piece.message) acts written
        (λ acts more. after acts (answer_to (task (under profile command)) (m + 1) (f + fields_of piece.message) (w + more) s)) is (later written)

    done_all : (pieces : List Piece) (input : List ℕ) → IsMadeOf profile pieces input → All (λ (piece : Piece). HasResult command piece.message) pieces → (m f w place skipped : ℕ)
        → (answer_to (task (under profile command)) m f w (stream_from (judge_under profile) 0 place skipped input)).outcome ≡ Done
    done_all [] input none has m f w place skipped =
        ap (λ s. (answer_to (task (under profile command)) m f w s).outcome)
        (stream_passed (judge_under profile) place skipped (length input) input (omega arith) none
        ∙ ap (λ xs. stream_from (judge_under profile) 0 (place + length input) (skipped + length input) xs) (drop_all (length input) input (omega arith)))
    done_all (piece ∷ pieces) input (rest, is, none, grammar, later) has m f w place skipped =
        let b = length piece.between in
        let fits : b ≤ length input = omega (arith, ap length is, length-append piece.between (piece.message ++ rest)) in
        ap (λ s. (answer_to (task (under profile command)) m f w s).outcome)
        (one_piece place skipped piece.between piece.message rest input is (stream_passed (judge_under profile) place skipped b input fits none) grammar)
        ∙ done_followed m f w (place + b) piece (stream_from (judge_under profile) 0 (place + b + length piece.message) (skipped + b) rest) (All-head (λ (piece : Piece). HasResult command piece.message) piece pieces has)
        (λ more. done_all pieces rest later (All-tail (λ (piece : Piece). HasResult command piece.message) piece pieces has) (m + 1) (f + fields_of piece.message) (w + more) (place + b + length piece.message) (skipped + b))

    pub command_done : (pieces : List Piece) (input : List ℕ) → length input ≤ 2 ^ 40 → IsMadeOf profile pieces input → All (λ (piece : Piece). HasResult command piece.message) pieces
        → (answer_within (2 ^ 40) (task (under profile command)) input).outcome ≡ Done
    command_done pieces input short made has =
        ap (λ a. a.outcome) (within_short (task (under profile command)) (2 ^ 40) input short) ∙ done_all pieces input made has 0 0 0 0 0

  -- ---- a job

  work_done : (work : Work) (texts : Texts) (pieces : List Piece) (input : List ℕ) → ((stated : Stated) → work ≡ Makes stated → stated.outcome ≡ Done)
      → length input ≤ 2 ^ 40 → IsMadeOf profile pieces input → HaveResults (by_profile profile work) texts pieces → (tasks.answer_to (by_profile profile work) texts input).outcome ≡ Done
  work_done (Reads command) texts pieces input makes short made has = command_done command pieces input short made has
  work_done (Makes stated) texts pieces input makes short made has = makes stated refl
  work_done (ReadsTables asked commands) texts pieces input makes short made (tables, good, has) =
      ap (λ t. (answer_by t (λ tables. under profile (commands tables)) input).outcome) good ∙ command_done (commands tables) pieces input short made has
  work_done (ReadsFile other name commands) texts pieces input makes short made (fields, good, has) =
      ap (λ f. (answer_beside f (λ fields. under profile (commands fields)) input).outcome) good ∙ command_done (commands fields) pieces input short made has

  pub job_done : (job : Job) (texts : Texts) (pieces : List Piece) (input : List ℕ) → length input ≤ 2 ^ 40 → IsMadeOf profile pieces input
      → HaveResults (work_under profile job) texts pieces → (answer_under profile job texts input).outcome ≡ Done
  job_done job texts pieces input short made has = work_done (work_of_job job) texts pieces input (made_done job) short made has
