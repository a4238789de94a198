-- What is known of fields that are edited.
use Rattle.std.specs.Prelude.{◌≡◌, ◌⊎◌, ℕ, ◌+◌, ◌≤◌, false, None, List, length, map, sum_by, All}
use Rattle.std.specs.List.{range_with_len, list_any}
use Rattle.grib_base.specs.Rules.{first_fault, first_among}
use Rattle.grib2_grids.specs.Grid.{grid_rules}
use Rattle.grib_packing.specs.declared.column.Column.{Column}
use Rattle.grib_packing.specs.declared.written.Packed.{Packed}
use Rattle.grib_packing.specs.Misfits.{is_missing2}
use Rattle.grib_packing.specs.Packing.{packing_template}
use Rattle.grib_packing.specs.Written.{MayBePacked}
use Rattle.grib2_message.specs.Assembled.{IsShort}
use Rattle.grib2_message.specs.Fields.{field_count, part_octets}
use Rattle.grib_repack.specs.Lengths.{kept_length, packed_length}
use Rattle.grib_reorder.specs.declared.edit.GridEdit.{GridEdit}
use Rattle.grib_reorder.specs.Rescanned.{section_of, grid_misfit, field_misfit, edited, edited_column, edited_field}

-- simple packing and CCSDS packing tell the missing points by a bitmap alone, so that none is secondary missing
abbrev pub IsBitmapTemplate : ℕ → Type 0
IsBitmapTemplate template = (template ≡ 0) ⊎ (template ≡ 42)

-- the new column of field i
pub record IsColumnEdited (edit : GridEdit) (message : List ℕ) (i : ℕ) (column : Column) : Type 0 where
  pub uncaused : grid_misfit edit message i ≡ None
  pub is : column ≡ edited_column edit message i
  pub may_be_packed : MayBePacked column
  pub no_secondary : IsBitmapTemplate (packing_template (part_octets message i 5)) → list_any is_missing2 column.points ≡ false
  pub rules : first_fault (grid_rules (part_octets message i 3)) ≡ None

-- Sections 5, 6 and 7 of field i
pub record IsFieldEdited (edit : GridEdit) (message : List ℕ) (i : ℕ) (packed : Packed) : Type 0 where
  pub fits : field_misfit edit message i ≡ None
  pub is : packed ≡ edited_field edit message i
  pub short : IsShort packed
  pub rules : first_fault (grid_rules (part_octets message i 3)) ≡ None

-- those of the first n fields
pub record AreFieldsEdited (edit : GridEdit) (message : List ℕ) (n : ℕ) (packed : List Packed) : Type 0 where
  pub fit : first_among (field_misfit edit message) n 1 ≡ None
  pub are : packed ≡ map (edited_field edit message) (range_with_len 1 n)
  pub short : All IsShort packed
  pub rules : (i : ℕ) → 1 ≤ i → i ≤ n → first_fault (grid_rules (part_octets message i 3)) ≡ None

-- how many octets the message has with the new sections of the first n fields: those that stay, and theirs
abbrev pub length_with : GridEdit → List ℕ → ℕ → ℕ
length_with edit message n =
    kept_length message + sum_by packed_length (map (edited_field edit message) (range_with_len 1 n))

-- with those of all it is as long as that, where each Section 3 becomes another that is as long
abbrev pub IsAsLongEdited : GridEdit → List ℕ → Type 0
IsAsLongEdited edit message =
    ((i : ℕ) → 1 ≤ i → i ≤ field_count message → length (section_of edit (part_octets message i 3)) ≡ length (part_octets message i 3))
    → length (edited edit message) ≡ length_with edit message (field_count message)
