-- The command is lawful: of each message as many fields differ at most as it has octets.
use Rattle.std.proofs.Common.{◌≡◌, ℕ, zero, suc, ◌+◌, ◌*◌, ◌≤◌, ◌==◌, Bool, true, false, Option, Some, None, List, [], ◌∷◌, length, take, sym, ap, ⊎_elim, arith}
use Rattle.std.proofs.lemmas.Bool.{cases_Bool}
use Rattle.std.proofs.lemmas.List.Sums.{count_by-le-length}
use Rattle.grib_base.specs.Rules.{choose}
use Rattle.grib_base.specs.declared.limits.TheConstants.{MOST_OCTETS}
use Rattle.grib2_sections.specs.Head.{edition, indicator}
use Rattle.grib2_sections.specs.Frame.{placed_at, ends_at, section_at}
use Rattle.grib2_message.specs.View.{is_numbered}
use Rattle.grib2_message.specs.Fields.{field_count, sections_from, sections_of}
use Rattle.grib_stream.specs.declared.place.Place.{Place}
use Rattle.grib_stream.specs.declared.outcome.Outcome.{Outcome}
use Rattle.grib_reasons.specs.declared.cause.Cause.{Cause}
use Rattle.grib_stream.specs.Acts.{Act}
use Rattle.grib_stream.specs.Outcomes.{is_of_message}
use Rattle.grib_stream.specs.Task.{Gives, Ends}
use Rattle.grib_command.specs.Command.{IsLawfulCommand, kept_at}
use Rattle.grib_command.specs.Judging.{fields_of}
use Rattle.grib_file.specs.Filed.{FieldOf}
use Rattle.grib_compare.specs.declared.comparison.Comparison.{Comparison}
use Rattle.grib_compare.specs.declared.comparison.Comparison.TheVariants.{Same, Shape, Differs, Section}
use Rattle.grib_compare.specs.Command.{compare_command, compare_cause, compare_text, compare_count, differing_beside, differing_from, field_compared, given_unless, beside}

-- fields are fewer than octets
few_sections : (turns : ℕ) (message : List ℕ) (q : ℕ) → length (sections_from turns message q) ≤ turns
few_sections zero message q = omega arith
few_sections (suc turns) message q =
    ⊎_elim
    (λ (ends : ends_at message q ≡ true).
    let e : length (sections_from (suc turns) message q) ≡ 0 =
    ap (λ b. length (choose b (λ _. []) (λ _. let s = section_at message q in placed_at q s ∷ sections_from turns message (q + length s)))) ends in
    omega arith)
    (λ (goes_on : ends_at message q ≡ false).
    let later = few_sections turns message (q + length (section_at message q)) in
    let e : length (sections_from (suc turns) message q) ≡ suc (length (sections_from turns message (q + length (section_at message q)))) =
    ap (λ b. length (choose b (λ _. []) (λ _. let s = section_at message q in placed_at q s ∷ sections_from turns message (q + length s)))) goes_on in
    omega arith)
    (cases_Bool (ends_at message q))

few_fields : (message : List ℕ) → 1 ≤ length message → fields_of message ≤ length message
few_fields message some =
    let few : field_count message ≤ length message =
    omega (arith, count_by-le-length (is_numbered 7) (sections_of message), few_sections (length message) message 17) in
    let either : (b : Bool) → choose b (λ _. 1) (λ _. field_count message) ≤ length message = λ b. elim b as (λ v. choose v (λ _. 1) (λ _. field_count message) ≤ length message) [ true ↦ some | false ↦ few ] in
    either (edition message == 1)

-- a field differs once at most
pub differing_once : (comparison : Option Comparison) → differing_beside comparison ≤ 1
differing_once None = omega arith
differing_once (Some Same) = omega arith
differing_once (Some (Shape here there)) = omega arith
differing_once (Some (Differs point)) = omega arith
differing_once (Some (Section section octet)) = omega arith

pub few_differ : (count : ℕ → ℕ) → ((i : ℕ) → count i ≤ 1) → (n i : ℕ) → differing_from count n i ≤ n
few_differ count once zero i = omega arith
few_differ count once (suc n) i = omega (arith, once i, few_differ count once n (i + 1))

few_counted : (sections : Bool) (fields : List FieldOf) (place : Place) (message : List ℕ) → compare_count sections fields place message ≤ fields_of message
few_counted sections fields place message =
    few_differ (λ i. differing_beside (field_compared sections fields place message i)) (λ i. differing_once (field_compared sections fields place message i)) (fields_of message) 1

-- what is given counts no more
counted_unless : (cause : Option Cause) (m : ℕ) (lines : List ℕ) (count : ℕ) (acts : List Act) (written : ℕ) → given_unless cause m lines count ≡ Gives acts written → written ≡ count
counted_unless None m lines count acts written is = cc
counted_unless (Some cause) m lines count acts written is = let no : ⊥ = cc in absurd no

ends_unless : (cause : Option Cause) (m : ℕ) (lines : List ℕ) (count : ℕ) (outcome : Outcome) → given_unless cause m lines count ≡ Ends outcome → is_of_message outcome ≡ true
ends_unless None m lines count outcome is = let no : ⊥ = cc in absurd no
ends_unless (Some cause) m lines count outcome is = let same : kept_at m cause ≡ outcome = cc in sym (ap is_of_message same)

few_beside : (sections quiet : Bool) (fields : List FieldOf) (place : Place) (message : List ℕ) (acts : List Act) (written : ℕ) → 1 ≤ length message
    → beside sections quiet fields place message ≡ Gives acts written → 20 * written ≤ MOST_OCTETS * length message
few_beside sections quiet fields place message acts written some is =
    let e = counted_unless (compare_cause fields place message) place.message (compare_text sections quiet fields place message) (compare_count sections fields place message) acts written is in
    let few = few_counted sections fields place message in
    let fewer = few_fields message some in
    let less : written ≤ length message = omega (arith, e, few, fewer) in
    omega arith

ends_beside : (sections quiet : Bool) (fields : List FieldOf) (place : Place) (message : List ℕ) (outcome : Outcome)
    → beside sections quiet fields place message ≡ Ends outcome → is_of_message outcome ≡ true
ends_beside sections quiet fields place message outcome is =
    ends_unless (compare_cause fields place message) place.message (compare_text sections quiet fields place message) (compare_count sections fields place message) outcome is

-- what begins as a message has an octet
some_octets : (message : List ℕ) → take 4 message ≡ indicator → 1 ≤ length message
some_octets [] is = let no : [] ≡ indicator = is in absurd (cc no)
some_octets (octet ∷ octets) is = omega arith

pub compare_lawful : (sections quiet : Bool) (fields : List FieldOf) → IsLawfulCommand (compare_command sections quiet fields)
compare_lawful sections quiet fields = record {
  few_first = λ place message acts written h is. few_beside sections quiet fields place message acts written (some_octets message h.indicated) is;
  few_second = λ place message acts written h is. few_beside sections quiet fields place message acts written (some_octets message h.indicated) is;
  ends_first = ends_beside sections quiet fields;
  ends_second = ends_beside sections quiet fields;
}
