-- What comes of a message whose lines are written.
use Rattle.std.proofs.Common.{◌≡◌, ℕ, IfOk, Ok, Err, Bool, Option, List, refl, sym, ap, ◌∙◌, subst}
use Rattle.std.specs.declared.result.Result.{Result}
use Rattle.grib_io.specs.Outside.{AppendsFront}
use Rattle.grib_io.specs.Shelves.{Held}
use Rattle.grib_io.specs.declared.outside.Stop.{Stop}
use Rattle.grib_io.specs.declared.outside.Stop.TheVariants as stops
use Rattle.grib_stream.specs.Acts.{world, writes, DidFront}
use Rattle.grib_stream.specs.Task.{Given, Gives, Ends}
use Rattle.grib_stream.proofs.Worlds.{did_none, did_write, did_write_front}
use Rattle.grib_reasons.specs.declared.cause.Cause.{Cause}
use Rattle.grib_command.specs.declared.answered.Answered.{Answered}
use Rattle.grib_command.specs.declared.answered.Answered.TheVariants.{Kept}
use Rattle.grib_command.specs.Answering.{AnswersByOutput, acts_given, answered_written}
use Rattle.grib_command.specs.Command.{kept_at}
use Rattle.grib_command.specs.Pending.{WritesTo}

module _ {Sink : Type 0} (contents : Sink → Option (List ℕ)) (faults : Sink → ℕ) (settled : Sink → Bool) where
  front_given : (given : Given) (text : List ℕ) (a b : Sink) (names : Option Held) → acts_given given ≡ writes text → AppendsFront (contents a) (contents b) text
      → DidFront (world (contents a) names) (world (contents b) names) (acts_given given)
  front_given given text a b names is front =
      subst (DidFront (world (contents a) names) (world (contents b) names)) (sym is) (did_write_front (contents a) (contents b) names text front)

  writing : (result : Result ℕ Stop) (m : ℕ) (given : Given) (text : List ℕ) (count : ℕ) (a b : Sink) → given ≡ Gives (writes text) count
      → IfOk result (λ n. n ≡ count) → WritesTo contents faults settled result a b text → AnswersByOutput contents faults settled (answered_written result) m given a b
  writing (Ok n) m given text count a b is counts wrote = record {
    answers = λ names. (writes text, is ∙ ap (Gives (writes text)) (sym counts), did_write (contents a) (contents b) names text wrote.octets.whole);
    write_fault = λ no. absurd (cc no);
    write_stays = λ other. wrote.counted;
    unfinished = wrote.unfinished;
    unshelved = λ no. cc;
  }
  writing (Err stops.Failed) m given text count a b is counts wrote = record {
    answers = λ names. front_given given text a b names (ap acts_given is) wrote.octets.front;
    write_fault = λ same. wrote.counted;
    write_stays = λ other. absurd (other refl);
    unfinished = wrote.unfinished;
    unshelved = λ no. cc;
  }
  writing (Err stops.Memory) m given text count a b is counts wrote = record {
    answers = λ names. front_given given text a b names (ap acts_given is) wrote.octets.front;
    write_fault = λ no. absurd (cc no);
    write_stays = λ other. wrote.counted;
    unfinished = wrote.unfinished;
    unshelved = λ no. cc;
  }

  -- a text was written, of which this is counted
  pub by_counting : (result : Result ℕ Stop) (answered : Answered) (m : ℕ) (given : Given) (text : List ℕ) (count : ℕ) (a b : Sink) → answered ≡ answered_written result
      → given ≡ Gives (writes text) count → IfOk result (λ n. n ≡ count) → WritesTo contents faults settled result a b text
      → AnswersByOutput contents faults settled answered m given a b
  by_counting result answered m given text count a b same is counts wrote =
      subst (λ r. AnswersByOutput contents faults settled r m given a b) (sym same) (writing result m given text count a b is counts wrote)

  -- nothing was written of a message, by its cause
  pub by_cause : (answered : Answered) (m : ℕ) (given : Given) (cause : Cause) (a : Sink) → answered ≡ Kept cause → given ≡ Ends (kept_at m cause)
      → AnswersByOutput contents faults settled answered m given a a
  by_cause answered m given cause a same is =
      subst (λ r. AnswersByOutput contents faults settled r m given a a) (sym same)
      (record {
        answers = λ names. (is, did_none (world (contents a) names));
        write_fault = λ no. absurd (cc no);
        write_stays = λ other. refl;
        unfinished = λ all. all;
        unshelved = λ no. cc;
      })
