-- The first cause by which a message cannot be printed with its values.
use Rattle.std.proofs.Common.{◌≡◌, Bool, ℕ, ◌+◌, ◌-◌, ◌<◌, ◌≤◌, true, false, Option, Some, None, is_some, is_none, option_map, List, [], refl, ap, ◌∙◌, arith}
use Rattle.grib_dyadic.specs.Reference.{Binary, ieee, ibm, reduced}
use Rattle.grib_packing.specs.declared.column.Column.{Column}
use Rattle.grib2_message.specs.Fields.{field_count, column_of}
use Rattle.grib1_sections.specs.Column.{column1_of}
use Rattle.grib_reasons.specs.declared.cause.Cause.{Cause}
use Rattle.grib_reasons.specs.declared.cause.Cause.TheVariants.{DecimalRange}
use Rattle.grib_bits.specs.Bits.{bits_of, signed}
use Rattle.grib_base.proofs.Firsts.{or_here, none_each, none_from_each, first_split}
use Rattle.grib_base.specs.Rules.{or_later, first_among}
use Rattle.grib_decimal.specs.Decimal.{scale}
use Rattle.grib_decimal.specs.Range.{first_too_large}
use Rattle.grib_stream.specs.Acts.{world}
use Rattle.grib_stream.specs.Task.{Given}
use Rattle.grib_stream.proofs.Worlds.{did_none}
use Rattle.grib_command.specs.declared.answered.Answered.TheVariants.{Memory}
use Rattle.grib_command.specs.Answering.{AnswersByOutput, acts_given}
use Rattle.grib_report.specs.Valuing.{scale_by, range_cause, field_cause, cause_1, cause_2}

-- the cause of a field, where none before it has one
pub causes_at : (cause : ℕ → Option Cause) (n i k : ℕ) (found : Option Cause) → k < n → ((j : ℕ) → j < k → cause (i + j) ≡ None) → cause (i + k) ≡ found
    → is_some found ≡ true → first_among cause n i ≡ found
causes_at cause n i k found within none here some =
    first_split cause i k n (i + k) refl within (none_from_each cause i k none)
    ∙ ap (λ o. or_later o (λ _. first_among cause (n - k - 1) (i + k + 1))) here
    ∙ or_here found (λ _. first_among cause (n - k - 1) (i + k + 1)) some

none_of : (o : Option Cause) → is_none o ≡ true → o ≡ None
none_of None is = refl
none_of (Some cause) is = let no : ⊥ = cc in absurd no

no_point : (i : ℕ) (point : Option ℕ) → option_map (λ n. DecimalRange i n) point ≡ None → point ≡ None
no_point i None none = refl
no_point i (Some n) none = let no : ⊥ = cc in absurd no

-- each value of a field of a message that can be printed has a text
pub values_fit : (places : ℕ) (m : List ℕ) (i : ℕ) (column : Column) (reference : Binary) → 1 ≤ i → i ≤ field_count m → column ≡ column_of m i
    → reference ≡ reduced (ieee column.reference) → is_none (cause_2 places m) ≡ true → first_too_large (scale_by places reference column) column.points ≡ None
values_fit places m i column reference first last is_column is_reference can =
    let clear : field_cause places m i ≡ None =
    none_each (field_cause places m) 1 (field_count m) i (none_of (cause_2 places m) can) first (omega arith) in
    let same : range_cause places i reference column ≡ field_cause places m i =
    ap (λ r. range_cause places i r column) is_reference ∙ ap (λ (x : Column). range_cause places i (reduced (ieee x.reference)) x) is_column in
    no_point i (first_too_large (scale_by places reference column) column.points) (same ∙ clear)

pub values_fit_1 : (places : ℕ) (m : List ℕ) (column : Column) (reference : Binary) → column ≡ column1_of m → reference ≡ reduced (ibm column.reference)
    → cause_1 places m ≡ None → first_too_large (scale_by places reference column) column.points ≡ None
values_fit_1 places m column reference is_column is_reference clear =
    let same : range_cause places 1 reference column ≡ cause_1 places m =
    ap (λ r. range_cause places 1 r column) is_reference ∙ ap (λ (x : Column). range_cause places 1 (reduced (ibm x.reference)) x) is_column in
    no_point 1 (first_too_large (scale_by places reference column) column.points) (same ∙ clear)

pub not_some : (o : Option Cause) → is_some o ≡ false → o ≡ None
not_some None is = refl
not_some (Some cause) is = let no : ⊥ = cc in absurd no

-- where there is no memory nothing was done
pub by_no_memory : {Sink : Type 0} (contents : Sink → Option (List ℕ)) (faults : Sink → ℕ) (settled : Sink → Bool) (m : ℕ) (given : Given) (a : Sink) → AnswersByOutput contents faults settled Memory m given a a
by_no_memory contents faults settled m given a = record {
  answers = λ names. ([], acts_given given, refl, did_none (world (contents a) names));
  write_fault = λ no. absurd (cc no);
  write_stays = λ other. refl;
  unfinished = λ all. all;
  unshelved = λ no. cc;
}

-- the scale of a field, by its numbers
pub scale_of : (places : ℕ) (column : Column) (form : ℕ → Binary) (reference : Binary) (word e d : ℕ) → reference ≡ reduced (form word) → word ≡ column.reference → e ≡ column.e → d ≡ column.d
    → scale reference (signed (bits_of 16 e)) (signed (bits_of 16 d)) places ≡ scale_by places (reduced (form column.reference)) column
scale_of places column form reference word e d is_reference is_word is_e is_d =
    ap (λ r. scale r (signed (bits_of 16 e)) (signed (bits_of 16 d)) places) (is_reference ∙ ap (λ w. reduced (form w)) is_word)
    ∙ ap (λ n. scale (reduced (form column.reference)) (signed (bits_of 16 n)) (signed (bits_of 16 d)) places) is_e
    ∙ ap (λ n. scale (reduced (form column.reference)) (signed (bits_of 16 column.e)) (signed (bits_of 16 n)) places) is_d
