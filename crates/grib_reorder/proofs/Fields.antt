-- Lemmas on fields that are tried one after another.
use Rattle.std.proofs.Common.{◌≡◌, ℕ, ◌+◌, ◌-◌, ◌<◌, ◌≤◌, Bool, cond, Option, Some, None, option_map, List, [], ◌∷◌, ◌++◌, length, sum_by, inl, inr, refl, sym, ap, ◌∙◌, arith, subst, lt-ltb}
use Rattle.std.proofs.lemmas.Bool.{cases_eq}
use Rattle.std.proofs.lemmas.List.FromFn.{length-map-range_with_len, sum_by-map-range_with_len_more}
use Rattle.grib_base.proofs.Firsts.{none_each, none_more, none_later, first_split}
use Rattle.grib_packing.specs.Misfits.{Misfit}
use Rattle.grib_rescan.specs.declared.cause.GridCause.{GridCause}
use Rattle.grib_base.specs.Rules.{first_fault, or_later, first_among}
use Rattle.grib2_grids.specs.Grid.{grid_rules}
use Rattle.grib_packing.specs.declared.written.Packed.{Packed}
use Rattle.grib2_message.specs.Assembled.{assembled_with}
use Rattle.grib2_message.specs.Fields.{field_count, part_octets}
use Rattle.grib_repack.specs.Lengths.{kept_length, packed_length}
use Rattle.grib_repack.proofs.Packing.{parts_more, short_more}
use Rattle.grib_reorder.specs.declared.edit.GridEdit.{GridEdit}
use Rattle.grib_reorder.specs.declared.fault.RescanFault.{RescanFault}
use Rattle.grib_reorder.specs.declared.fault.RescanFault.TheVariants.{GridKind, ScanMode, OutsideBox, Increments, OutOfRange, DifferenceRange, OutputTooLong, Memory}
use Rattle.grib_reorder.specs.Fields.{IsFieldEdited, AreFieldsEdited, IsAsLongEdited, length_with}
use Rattle.grib_reorder.specs.Rescanned.{EditMisfit, cause_of, section_of, grid_misfit, column_misfit, edited, edited_field, edited_fields, OfGrid, OfColumn, TooLong, field_misfit, length_misfit, edit_misfit}
use Rattle.grib_reorder.specs.Faults.{IsRescanFault}

pub no_grid : (i : ℕ) (cause : Option GridCause) → option_map (OfGrid i) cause ≡ None → cause ≡ None
no_grid i (Some cause) none = absurd (cc)
no_grid i None none = refl

pub no_column : (i : ℕ) (misfit : Option Misfit) → option_map (OfColumn i) misfit ≡ None → misfit ≡ None
no_column i (Some misfit) none = absurd (cc)
no_column i None none = refl

-- ---- causes one after another

pub fault_later : (cause : Option EditMisfit) (later : Unit {0} → Option EditMisfit) (fault : RescanFault) → IsRescanFault cause fault → IsRescanFault (or_later cause later) fault
fault_later (Some misfit) later fault is = is
fault_later None later (GridKind field) is = absurd (cc)
fault_later None later (ScanMode field) is = absurd (cc)
fault_later None later (OutsideBox field) is = absurd (cc)
fault_later None later (Increments field) is = absurd (cc)
fault_later None later (OutOfRange field point) is = absurd (cc)
fault_later None later (DifferenceRange field) is = absurd (cc)
fault_later None later (OutputTooLong total) is = absurd (cc)
fault_later None later Memory is = tt

-- where nothing failed earlier, the later cause is the first
pub fault_after : (cause : Option EditMisfit) (later : Unit {0} → Option EditMisfit) (fault : RescanFault) → cause ≡ None → IsRescanFault (later tt) fault → IsRescanFault (or_later cause later) fault
fault_after cause later fault none is = subst (λ (o : Option EditMisfit). IsRescanFault (or_later o later) fault) (sym none) is

module _ (edit : GridEdit) (message : List ℕ) where
  pub each_fits : (n i : ℕ) → first_among (field_misfit edit message) n 1 ≡ None → 1 ≤ i → i ≤ n → field_misfit edit message i ≡ None
  each_fits n i none low high = none_each (field_misfit edit message) 1 n i none low (omega arith)

  -- the first field that fails is the misfit of the message
  pub fault_in : (n : ℕ) (fault : RescanFault) → n < field_count message → first_among (field_misfit edit message) n 1 ≡ None
      → IsRescanFault (field_misfit edit message (n + 1)) fault → IsRescanFault (edit_misfit edit message) fault
  fault_in n fault low none is =
      let each = field_misfit edit message in
      let place : n + 1 ≡ 1 + n = omega arith in
      fault_later (first_among each (field_count message) 1) (λ _. length_misfit (length (edited edit message))) fault
      (subst (λ (o : Option EditMisfit). IsRescanFault o fault) (sym (first_split each 1 n (field_count message) (n + 1) place low none))
      (fault_later (each (n + 1)) (λ _. first_among each (field_count message - n - 1) (n + 1 + 1)) fault is))

  -- where no field fails, that it would be too long
  pub fault_long : (total : ℕ) → first_among (field_misfit edit message) (field_count message) 1 ≡ None → total ≡ length (edited edit message) → 268435456 < total
      → edit_misfit edit message ≡ Some (TooLong total)
  fault_long total none is long =
      ap (λ (o : Option EditMisfit). or_later o (λ _. length_misfit (length (edited edit message)))) none
      ∙ ap length_misfit (sym is)
      ∙ ap (λ (b : Bool). cond b (Some (TooLong total)) None) (lt-ltb 268435456 total long)

-- the parts of one more field
pub fields_more : (edit : GridEdit) (message : List ℕ) (n : ℕ) (items new : List Packed) (p : Packed) → AreFieldsEdited edit message n items
    → IsFieldEdited edit message (n + 1) p → new ≡ items ++ p ∷ [] → AreFieldsEdited edit message (n + 1) new
fields_more edit message n items new p before here is = record {
  fit = none_more (field_misfit edit message) 1 n (n + 1) (omega arith) before.fit here.fits;
  are = parts_more (edited_field edit message) n items new p before.are here.is is;
  short = short_more items new p before.short here.short is;
  rules = λ i low high. elim (cases_eq i (n + 1)) [
    | inl same ↦ subst (λ (k : ℕ). first_fault (grid_rules (part_octets message k 3)) ≡ None) (sym same) here.rules
    | inr other ↦ before.rules i low (omega (arith, high, other))
  ];
}

-- what is taken of each grid where all fields fit
pub each_taken : (edit : GridEdit) (message : List ℕ) (n : ℕ) (items : List Packed) → AreFieldsEdited edit message n items → (i : ℕ) → 1 ≤ i → i ≤ n
    → (first_fault (grid_rules (part_octets message i 3)) ≡ None) × (cause_of edit (part_octets message i 3) ≡ None)
each_taken edit message n items are i low high = (
  are.rules i low high,
  no_grid i (cause_of edit (part_octets message i 3))
      (none_later (grid_misfit edit message i) (λ _. column_misfit edit message i) (each_fits edit message n i are.fit low high)).0,
)

-- ---- how long the message is

-- with one more field
pub length_more : (edit : GridEdit) (message : List ℕ) (n : ℕ) → length_with edit message (n + 1) ≡ length_with edit message n + packed_length (edited_field edit message (n + 1))
length_more edit message n =
    omega (arith, sum_by-map-range_with_len_more packed_length (edited_field edit message) 1 n (n + 1) (omega arith))

-- and with all
pub edited_long : (edit : GridEdit) (message : List ℕ) (kept : ℕ) → kept ≡ kept_length message
    → ((grid : List ℕ → List ℕ) (parts : List Packed) → length parts ≡ field_count message
    → ((i : ℕ) → 1 ≤ i → i ≤ field_count message → length (grid (part_octets message i 3)) ≡ length (part_octets message i 3))
    → length (assembled_with grid message parts) ≡ kept + sum_by packed_length parts)
    → IsAsLongEdited edit message
edited_long edit message kept is whole same =
    omega (arith, is, whole (section_of edit) (edited_fields edit message) (length-map-range_with_len (edited_field edit message) 1 (field_count message)) same)
