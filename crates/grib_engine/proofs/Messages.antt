-- What a run over an input does before its end, by what came of its items.
use Rattle.std.proofs.Common.{◌≡◌, ◌≢◌, ℕ, ◌^◌, Bool, false, true, ◌||◌, List, ◌++◌, Ok, Err, IfOk, IfErr, refl, sym, ap, ◌∙◌, subst, append-nil}
use Rattle.std.proofs.lemmas.Bool.{false≢true}
use Rattle.std.specs.declared.option.Option.{Option}
use Rattle.std.specs.declared.result.Result.{Result}
use Rattle.std.specs.Io.KnownBytes.{IsAtEnd, Keeps}
use Rattle.grib_io.specs.Outside.{Unfinished}
use Rattle.grib_stream.specs.declared.outcome.Outcome.{Outcome}
use Rattle.grib_stream.specs.declared.outcome.Outcome.TheVariants.{Refused, ReadFault, WriteFault, ShelfFault, Memory, InputTooLong}
use Rattle.grib_stream.specs.Faults.{Faults}
use Rattle.grib_stream.specs.Outcomes.{is_broken, is_whole}
use Rattle.grib_stream.specs.Soon.{RefusesSoon}
use Rattle.grib_stream.specs.Task.{Task, Ends}
use Rattle.grib_items.specs.declared.policy.Policy.{Policy}
use Rattle.grib_items.specs.declared.policy.ItemTotals.{ItemTotals}
use Rattle.grib_items.specs.Deeds.{deeds, Done, DoneFront}
use Rattle.grib_items.specs.Answer.{Answered}
use Rattle.grib_items.specs.Laws.{outcome_of}
use Rattle.grib_items.specs.Run as items
use Rattle.grib_items.specs.Run.{answer_within, Runs, CountsOne}
use Rattle.grib_command.specs.declared.ending.Ending.{Ending}
use Rattle.grib_command.specs.Closing.{EndsNoted, StandsWhole}
use Rattle.grib_command.specs.Command.{Command}
use Rattle.grib_command.specs.Outcomes.{note_of}
use Rattle.grib_command.proofs.Noted.{OneOf}
use Rattle.grib_run_spec.specs.Seen.{Seen, outside_of, faults_of}
use Rattle.grib_run_spec.specs.Stated.{outcome_by, note_by, stated_by, plan_by}
use Rattle.grib_run_spec.specs.Serving.{Serves}
use Rattle.grib_run_spec.specs.Tasks.{Reads}
use Rattle.grib_engine.proofs.Broken.{own_of, by_own, own_unbroken, broken_is, one_early}
use Rattle.grib_engine.specs.Beside.{beside}
use Rattle.grib_engine.proofs.Ended.{Reached, Ran, Ended, ended_by, neither, if_told, serves}

-- what was done of the answer that is stated
reached_by : (ending : Ending) (answer : Answered) (result : Result ItemTotals Outcome) (before mid : Seen) → items.Gives answer result (outside_of before) (outside_of mid)
    → Reached (stated_by ending answer) (outcome_by ending result) (note_by ending result) before mid
reached_by ending answer result before mid gives =
    let acts = answer.deeds.acts ++ answer.ending in
    let same = λ (unbroken : is_broken (outcome_by ending result) ≡ false). gives.ends (own_unbroken ending result unbroken) in
    record {
      ends = λ unbroken. (ap (outcome_by ending) (same unbroken), ap (note_by ending) (same unbroken));
      broke = λ broken. ap (note_by ending) (broken_is ending result broken);
      whole = λ unbroken. subst (λ lines. Done (outside_of before) (outside_of mid) (deeds acts lines)) (append-nil answer.deeds.lines) (gives.whole (own_unbroken ending result unbroken));
      front = subst (λ lines. DoneFront (outside_of before) (outside_of mid) (deeds acts lines)) (append-nil answer.deeds.lines) gives.front;
    }

-- what is counted is by how the run ends
counts_by : (ending : Ending) (result : Result ItemTotals Outcome) (before now : Faults) → CountsOne (outcome_of result) before now → CountsOne (outcome_by ending result) before now
counts_by ending (Ok totals) before now counts =
    let early = λ (fault : Outcome) (is_early : is_whole fault ≡ false) (is : outcome_by ending (Ok totals) ≡ fault). own_of ending (Ok totals) fault is_early is in
    record {
      read = λ is. counts.read (early ReadFault refl is);
      read_calm = λ other. counts.read_calm (λ e. cc);
      write = λ is. counts.write (early WriteFault refl is);
      output_calm = λ other. counts.output_calm (λ e. cc);
      notes_calm = λ other. counts.notes_calm (λ e. cc);
      shelf = λ is. counts.shelf (early ShelfFault refl is);
      shelf_calm = λ other. counts.shelf_calm (λ e. cc);
    }
counts_by ending (Err outcome) before now counts = counts

at_end : (ending : Ending) (result : Result ItemTotals Outcome) (left : Option (List ℕ)) → IfOk result (λ totals. IsAtEnd left) → IfErr result (λ o. is_whole o ≡ false)
    → is_whole (outcome_by ending result) ≡ true → IsAtEnd left
at_end ending (Ok totals) left end early whole = end
at_end ending (Err own) left end early whole = absurd (false≢true (sym early ∙ whole))

pub ran_messages : (command : Command) (policy : Policy) (result : Result ItemTotals Outcome) (before mid : Seen)
    → Runs (plan_by command policy) (2 ^ 40) result before.left mid.left (outside_of before) (outside_of mid) → CountsOne (outcome_of result) (faults_of before) (faults_of mid)
    → Unfinished before.output_settled mid.output_settled → Unfinished before.notes_settled mid.notes_settled
    → (command.uses_shelf ≡ false → outcome_of result ≢ ShelfFault) → IfErr result (λ o. is_whole o ≡ false)
    → Ran (Reads command) policy (outcome_by command.ending result) (note_by command.ending result) before mid
ran_messages command policy result before mid runs counts unfinished notes_unfinished unshelved early =
    let reached = λ (input : List ℕ). reached_by command.ending (answer_within (2 ^ 40) (plan_by command policy) input) result before mid in
    let took = runs.taken.2 in
    record {
      answer = record {
        gives = if_told before.left reached runs.gives;
        taken = (
          runs.taken.0,
          runs.taken.1,
          record {
            most = took.most;
            short = λ unbroken other. took.short (own_unbroken command.ending result unbroken) (λ e. other (by_own command.ending result InputTooLong refl e));
            long = λ is. took.long (own_of command.ending result InputTooLong refl is);
            answered = reached runs.taken.0 took.answered;
            read_fault = λ is. took.read_fault (own_of command.ending result ReadFault refl is);
          },
        );
        end = at_end command.ending result mid.left runs.end early;
      };
      counts = counts_by command.ending result (faults_of before) (faults_of mid) counts;
      unfinished = unfinished;
      notes_unfinished = notes_unfinished;
      unshelved = λ off is. unshelved off (own_of command.ending result ShelfFault refl is);
      table_stays = λ no. absurd (false≢true no);
    }

-- and at its end
pub messages_end : (takes_memory : Bool) (command : Command) (policy : Policy) (result : Result ItemTotals Outcome) (outcome : Outcome) (before mid now : Seen)
    → Runs (plan_by command policy) (2 ^ 40) result before.left mid.left (outside_of before) (outside_of mid) → CountsOne (outcome_of result) (faults_of before) (faults_of mid)
    → Unfinished before.output_settled mid.output_settled → Unfinished before.notes_settled mid.notes_settled
    → (command.uses_shelf ≡ false → outcome_of result ≢ ShelfFault) → IfErr result (λ o. is_whole o ≡ false)
    → Ended takes_memory (outcome_by command.ending result) (note_by command.ending result) outcome mid now → Serves takes_memory (Reads command) policy outcome before now
messages_end takes_memory command policy result outcome before mid now runs counts unfinished notes_unfinished unshelved early ended =
    serves takes_memory policy (outcome_by command.ending result) (note_by command.ending result) outcome before mid now ended (Reads command)
    (ran_messages command policy result before mid runs counts unfinished notes_unfinished unshelved early)

-- by `close_at_end`
pub ended_done : {Output Notes : Type 0} {contents : Output → Option (List ℕ)} {faults : Output → ℕ} {settled : Output → Bool} {notes_contents : Notes → Option (List ℕ)} {notes_faults : Notes → ℕ} {notes_settled : Notes → Bool} {outcome : Outcome} {output output_now : Output} {notes notes_now : Notes} {own : Ending} (takes notes_take : Bool) (rest : Seen) (ending : Ending) (totals : ItemTotals) → own ≡ ending
    → EndsNoted contents faults settled notes_contents notes_faults notes_settled (outcome_by own (Ok totals)) (note_by own (Ok totals)) outcome output output_now notes notes_now
    → Keeps (contents output) (contents output_now)
    → (takes ≡ false → notes_take ≡ false → outcome ≡ Memory → StandsWhole settled notes_contents notes_settled (note_of Memory) output_now notes notes_now)
    → Ended (takes || notes_take) (outcome_by ending (Ok totals)) (note_by ending (Ok totals)) outcome (beside rest contents faults settled notes_contents notes_faults notes_settled output notes) (beside rest contents faults settled notes_contents notes_faults notes_settled output_now notes_now)
ended_done {Output} {Notes} {contents} {faults} {settled} {notes_contents} {notes_faults} {notes_settled} {outcome} {output} {output_now} {notes} {notes_now} {own} takes notes_take rest ending totals is ends kept stands =
    let see = beside rest contents faults settled notes_contents notes_faults notes_settled in
    subst (λ e. Ended (takes || notes_take) (outcome_by e (Ok totals)) (note_by e (Ok totals)) outcome (see output notes) (see output_now notes_now)) is
    (ended_by (takes || notes_take) rest ends kept (λ fault. let no = own_of own (Ok totals) WriteFault refl fault in absurd (cc no))
    (λ off. let both = neither takes notes_take off in stands both.0 both.1))

-- a refusal with which it ends is soon
pub soon_by : (ending : Ending) (hears : List ℕ → Bool) (task : Task) (result : Result ItemTotals Outcome) (outcome : Outcome) (left left_now : Option (List ℕ)) → OneOf (outcome_by ending result) outcome
    → RefusesSoon hears task (outcome_of result) left left_now → RefusesSoon hears task outcome left left_now
soon_by ending hears task result outcome left left_now one soon = λ refusal is early none.
    let own = own_of ending result (Refused refusal) refl (one_early (Refused refusal) (outcome_by ending result) outcome refl one is) in
    soon refusal own early (λ place message e. none place message (e ∙ ap Ends (own ∙ sym is)))
