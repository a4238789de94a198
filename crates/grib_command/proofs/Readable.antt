-- What comes of a message of which the values are read.
use Rattle.std.proofs.Common.{◌≡◌, ℕ, None, Bool, Option, List, refl, sym, ap, ◌∙◌, subst}
use Rattle.grib2_message.specs.Message.{IsFirstOpaque, first_opaque}
use Rattle.grib2_message.specs.declared.readable.OpaqueField.{OpaqueField}
use Rattle.grib_reasons.specs.declared.cause.Cause.TheVariants.{Packing}
use Rattle.grib_stream.specs.declared.place.Place.{Place}
use Rattle.grib_stream.specs.Acts.{world}
use Rattle.grib_stream.specs.Task.{Given}
use Rattle.grib_stream.proofs.Worlds.{did_none}
use Rattle.grib_command.specs.declared.answered.Answered.{Answered}
use Rattle.grib_command.specs.declared.answered.Answered.TheVariants.{Kept}
use Rattle.grib_command.specs.Answering.{AnswersByOutput}
use Rattle.grib_command.specs.Command.{of_values}
use Rattle.grib_command.specs.LawfulCommands.{given_read, given_opaque}
use Rattle.grib_command.proofs.Answers.{as_given}

module _ {Sink : Type 0} (contents : Sink → Option (List ℕ)) (faults : Sink → ℕ) (settled : Sink → Bool) where
  -- one whose values can be read is answered as what is made of them says
  pub by_read : (answered : Answered) (second : Place → List ℕ → Given) (place : Place) (message readable : List ℕ) (a b : Sink) → readable ≡ message → first_opaque message ≡ None
      → AnswersByOutput contents faults settled answered place.message (second place readable) a b
      → AnswersByOutput contents faults settled answered place.message (of_values second place message) a b
  by_read answered second place message readable a b same none done =
      as_given contents faults settled answered place.message (of_values second place message) (second place readable) a b
      (given_read second place message none ∙ ap (second place) (sym same)) done

  -- any other is kept
  pub by_opaque : (answered : Answered) (second : Place → List ℕ → Given) (place : Place) (message : List ℕ) (opaque : OpaqueField) (a : Sink)
      → answered ≡ Kept (Packing opaque.template opaque.field) → IsFirstOpaque message opaque
      → AnswersByOutput contents faults settled answered place.message (of_values second place message) a a
  by_opaque answered second place message opaque a same is =
      subst (λ r. AnswersByOutput contents faults settled r place.message (of_values second place message) a a) (sym same)
      (record {
        answers = λ names. (given_opaque second place message opaque is, did_none (world (contents a) names));
        write_fault = λ no. absurd (cc no);
        write_stays = λ other. refl;
        unfinished = λ all. all;
        unshelved = λ no. cc;
      })
