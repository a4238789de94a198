-- What is said of a message and its fields, by its edition.
use Rattle.std.proofs.Common.{◌≡◌, ℕ, ◌==◌, Some, None, List, Bor, ap, ◌∙◌}
use Rattle.grib_base.specs.Rules.{choose}
use Rattle.grib2_sections.specs.Head.{edition}
use Rattle.grib2_message.specs.Fields.{field_count, meaning_of, part_octets}
use Rattle.grib2_message.specs.Message.{first_opaque}
use Rattle.grib1_sections.specs.Column.{meaning1_of}
use Rattle.grib_reasons.specs.declared.cause.Cause.{Cause}
use Rattle.grib_command.specs.Judging.{fields_of}
use Rattle.grib_file.specs.Filed.{field_of}
use Rattle.grib_compare.specs.Fields.{meanings, section_of, section_1}
use Rattle.grib_compare.specs.Command.{opaque_cause, on_opaque}
use Rattle.grib_compare.specs.declared.readable.Readable.{Readable}
use Rattle.grib_compare.specs.declared.readable.Readable.TheVariants.{One, Two}
use Rattle.grib_compare.specs.Seen.{IsClear, readable_field}

pub fields_first : (m : List ℕ) → edition m ≡ 1 → fields_of m ≡ 1
fields_first m is = ap (λ e. choose (e == 1) (λ _. 1) (λ _. field_count m)) is

pub fields_second : (m : List ℕ) → edition m ≡ 2 → fields_of m ≡ field_count m
fields_second m is = ap (λ e. choose (e == 1) (λ _. 1) (λ _. field_count m)) is

pub meanings_first : (m : List ℕ) (i : ℕ) → edition m ≡ 1 → meanings (field_of m i) ≡ meaning1_of m
meanings_first m i is = ap (λ e. choose (e == 1) (λ _. meaning1_of m) (λ _. meaning_of m i)) is

pub meanings_second : (m : List ℕ) (i : ℕ) → edition m ≡ 2 → meanings (field_of m i) ≡ meaning_of m i
meanings_second m i is = ap (λ e. choose (e == 1) (λ _. meaning1_of m) (λ _. meaning_of m i)) is

pub section_first : (n : ℕ) (m : List ℕ) (i : ℕ) → edition m ≡ 1 → section_of n (field_of m i) ≡ section_1 m n
section_first n m i is = ap (λ e. choose (e == 1) (λ _. section_1 m n) (λ _. part_octets m i n)) is

pub section_second : (n : ℕ) (m : List ℕ) (i : ℕ) → edition m ≡ 2 → section_of n (field_of m i) ≡ part_octets m i n
section_second n m i is = ap (λ e. choose (e == 1) (λ _. section_1 m n) (λ _. part_octets m i n)) is

pub clear_first : (m : List ℕ) → edition m ≡ 1 → IsClear m
clear_first m is cause = ap (λ e. choose (e == 1) (λ _. None) (λ _. on_opaque (first_opaque m) cause)) is

pub clear_second : (m : List ℕ) → edition m ≡ 2 → first_opaque m ≡ None → IsClear m
clear_second m is none cause = ap (λ e. choose (e == 1) (λ _. None) (λ _. on_opaque (first_opaque m) cause)) is ∙ ap (λ o. on_opaque o cause) none

-- the cause by the first field with an opaque packing
pub opaque_second : (m : List ℕ) (o : ℕ) (cause : ℕ → Cause) → edition m ≡ 2 → first_opaque m ≡ Some o → opaque_cause m cause ≡ Some (cause o)
opaque_second m o cause is some = ap (λ e. choose (e == 1) (λ _. None) (λ _. on_opaque (first_opaque m) cause)) is ∙ ap (λ p. on_opaque p cause) some

-- ---- of a message that can be read

pub readable_first : (readable : Readable) (m : Bor (List ℕ)) (i : ℕ) → readable ≡ One m → edition m.now ≡ 1 → meanings (readable_field readable i) ≡ meaning1_of m.now
readable_first readable m i is first = ap (λ r. meanings (readable_field r i)) is ∙ meanings_first m.now i first

pub readable_second : (readable : Readable) (m : List ℕ) (i : ℕ) → readable ≡ Two m → edition m ≡ 2 → meanings (readable_field readable i) ≡ meaning_of m i
readable_second readable m i is second = ap (λ r. meanings (readable_field r i)) is ∙ meanings_second m i second
