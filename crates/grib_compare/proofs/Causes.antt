-- What a message gives, by what was found of its fields.
use Rattle.std.proofs.Common.{◌≡◌, ℕ, Bool, Option, Some, None, List, Ok, Err, MatchResult, sym, ap, ◌∙◌, subst}
use Rattle.std.specs.Result.{IsErrAnd}
use Rattle.std.specs.declared.result.Result.{Result}
use Rattle.grib_base.specs.Rules.{or_later}
use Rattle.grib2_sections.specs.Head.{edition}
use Rattle.grib2_message.specs.Message.{IsFirstOpaque}
use Rattle.grib2_message.specs.declared.readable.OpaqueField.{OpaqueField}
use Rattle.grib_stream.specs.declared.place.Place.{Place}
use Rattle.grib_stream.specs.Acts.{writes}
use Rattle.grib_stream.specs.Task.{Gives, Ends}
use Rattle.grib_reasons.specs.declared.cause.Cause.{Cause}
use Rattle.grib_reasons.specs.declared.cause.Cause.TheVariants.{Packing}
use Rattle.grib_command.specs.Command.{kept_at}
use Rattle.grib_file.specs.Filed.{FieldOf}
use Rattle.grib_compare.specs.declared.lines.Lines.{Lines}
use Rattle.grib_compare.specs.declared.stop.CompareStop.{CompareStop}
use Rattle.grib_compare.specs.declared.stop.CompareStop.TheVariants.{Kept, Memory}
use Rattle.grib_compare.specs.Command.{compare_cause, counterpart_cause, compare_text, compare_count, packing_of, given_unless, beside, on_counterpart}
use Rattle.grib_compare.specs.Seen.{IsClear, IsOpaque, AreLines, StopsBy}
use Rattle.grib_compare.proofs.Editions.{opaque_second}

cause_clear : (fields : List FieldOf) (place : Place) (message : List ℕ) → IsClear message → compare_cause fields place message ≡ counterpart_cause fields place message
cause_clear fields place message clear = ap (λ o. or_later o (λ _. counterpart_cause fields place message)) (clear (λ o. packing_of message o o))

module _ (sections quiet : Bool) (fields : List FieldOf) (place : Place) (message : List ℕ) where
  by_cause : (cause : Option Cause) → compare_cause fields place message ≡ cause
      → beside sections quiet fields place message ≡ given_unless cause place.message (compare_text sections quiet fields place message) (compare_count sections fields place message)
  by_cause cause is = ap (λ o. given_unless o place.message (compare_text sections quiet fields place message) (compare_count sections fields place message)) is

  -- its lines
  pub given_lines : (lines : Lines) → IsClear message → AreLines sections quiet fields place message lines
      → beside sections quiet fields place message ≡ Gives (writes lines.text.items) lines.differing
  given_lines lines clear are =
      by_cause None (cause_clear fields place message clear ∙ are.clear)
      ∙ ap (λ t. Gives (writes t) (compare_count sections fields place message)) (sym are.text)
      ∙ ap (λ n. Gives (writes lines.text.items) n) (sym are.count)

  -- or the cause of a counterpart
  pub given_kept : (cause : Cause) → IsClear message → counterpart_cause fields place message ≡ Some cause
      → beside sections quiet fields place message ≡ Ends (kept_at place.message cause)
  given_kept cause clear is = by_cause (Some cause) (cause_clear fields place message clear ∙ is)

  -- or its own
  pub given_opaque : (opaque : OpaqueField) → edition message ≡ 2 → IsFirstOpaque message opaque
      → beside sections quiet fields place message ≡ Ends (kept_at place.message (Packing opaque.template opaque.field))
  given_opaque opaque second is =
      by_cause (Some (packing_of message opaque.field opaque.field))
      (ap (λ o. or_later o (λ _. counterpart_cause fields place message)) (opaque_second message opaque.field (λ o. packing_of message o o) second is.first))
      ∙ ap (λ template. Ends (kept_at place.message (Packing template opaque.field))) (sym is.template)

-- the cause by the message of a counterpart
pub counterpart_opaque : (other : FieldOf) (i : ℕ) (opaque : OpaqueField) → IsOpaque other.message opaque
    → on_counterpart (Some other) i ≡ Some (Packing opaque.template i)
counterpart_opaque other i opaque is =
    opaque_second other.message opaque.field (λ o. packing_of other.message o i) is.edition_stands is.first.first
    ∙ ap (λ template. Some (Packing template i)) (sym is.first.template)

-- without memory nothing is said
pub stopped_memory : {T : Type 0} (result : Result T CompareStop) (P : T → Type 0) (cause : Option Cause) → IsErrAnd result (λ stop. stop ≡ Memory) → MatchResult result P (StopsBy cause)
stopped_memory (Ok value) P cause is = absurd is
stopped_memory (Err stop) P cause is = subst (StopsBy cause) (sym is) tt

-- what stopped it
pub stopped_by : {T : Type 0} (result : Result T CompareStop) (P : T → Type 0) (cause : Option Cause) (stop : CompareStop) → IsErrAnd result (λ s. s ≡ stop) → StopsBy cause stop
    → MatchResult result P (StopsBy cause)
stopped_by (Ok value) P cause stop is by = absurd is
stopped_by (Err s) P cause stop is by = subst (StopsBy cause) (sym is) by

pub kept_is : (cause : Option Cause) (stop : CompareStop) (found : Cause) → stop ≡ Kept found → StopsBy cause stop → cause ≡ Some found
kept_is cause stop found is by = let kept : StopsBy cause (Kept found) = subst (StopsBy cause) is by in kept
