-- What is written in the order of scanning octet 0, and of a box: the message with another Section 3, and with
-- Sections 5, 6 and 7 of each field written anew (WMO-No. 306, Volume I.2, FM 92 GRIB edition 2). They rest on
-- the new column of the field and on its own packing. All other octets but the total length stay.
use Rattle.std.specs.Prelude.{◌≡◌, ℕ, ◌<◌, ◌≤◌, cond, Option, Some, None, List, [], ◌∷◌, length, map, nat_lt, option_map, All, ◌==◌}
use Rattle.std.specs.List.{range_with_len}
use Rattle.grib_bits.specs.Octets.{octets}
use Rattle.grib_base.specs.Rules.{or_later, first_among}
use Rattle.grib_base.specs.declared.profile.Profile.{Profile}
use Rattle.grib_packing.specs.declared.column.Column.{Column}
use Rattle.grib_packing.specs.Coded.{is_coded}
use Rattle.grib_packing.specs.Misfits.{Target, ToSimple, ToComplex, ToSpatial, ToCoded, Misfit, first_misfit}
use Rattle.grib_packing.specs.Packing.{packing_template}
use Rattle.grib_packing.specs.declared.written.Packed.{Packed}
use Rattle.grib_packed.specs.Written.{packed}
use Rattle.grib2_message.specs.Fields.{field_count, part_octets, column_of}
use Rattle.grib2_message.specs.Message.{IsMessageUnder, IsReadable}
use Rattle.grib2_message.specs.Assembled.{assembled_with}
use Rattle.grib_repack.specs.Repacked.{kind_of}
use Rattle.grib_rescan.specs.declared.cause.GridCause.{GridCause}
use Rattle.grib_rescan.specs.Scanning.{scanning_of}
use Rattle.grib_rescan.specs.Points.{rescanned_column, cropped_column}
use Rattle.grib_rescan.specs.Sections.{rescanned_section, cropped_section}
use Rattle.grib_rescan.specs.Bounds.{area_within}
use Rattle.grib_rescan.specs.Causes.{rescan_cause_of, crop_cause_of, within_cause_of}
use Rattle.grib_reorder.specs.declared.edit.GridEdit.{GridEdit}
use Rattle.grib_reorder.specs.declared.edit.GridEdit.TheVariants.{Rescan, Crop, Within}

-- why a grid with this Section 3 is not edited
abbrev pub cause_of : GridEdit → List ℕ → Option GridCause
cause_of Rescan s = rescan_cause_of s
cause_of (Crop area) s = crop_cause_of area s
cause_of (Within bounds) s = within_cause_of bounds s

-- what its Section 3 becomes
abbrev pub section_of : GridEdit → List ℕ → List ℕ
section_of Rescan s = rescanned_section s
section_of (Crop area) s = cropped_section area s
section_of (Within bounds) s = cropped_section (area_within bounds s) s

-- what a column of the grid becomes
abbrev pub new_column : GridEdit → List ℕ → Column → Column
new_column Rescan s column = rescanned_column (scanning_of (octets s 72 72)) (octets s 31 34) (octets s 35 38) column
new_column (Crop area) s column = cropped_column area (octets s 31 34) (octets s 35 38) column
new_column (Within bounds) s column = cropped_column (area_within bounds s) (octets s 31 34) (octets s 35 38) column

-- the first column and row of a box are at most its last
abbrev pub Stands : GridEdit → Type 0
Stands Rescan = Unit {0}
Stands (Crop area) = (area.i0 ≤ area.i1) × (area.j0 ≤ area.j1)
Stands (Within bounds) = Unit {0}

-- CCSDS packing has the blocks of octets 23 to 25 of Section 5. Where numbers have no bits, octets 22 to 25 are not read,
-- whatever they say: blocks of 32 values are written, with a reference each 128 blocks.
abbrev pub own_blocks : List ℕ → Target
own_blocks s5 = cond (is_coded s5) (ToCoded (octets s5 23 23) (octets s5 24 25)) (ToCoded 32 128)

-- a field is packed as its Section 5 says: by its template and, for differences, their order, octet 48
abbrev pub own_target : List ℕ → Target
own_target s5 =
    let template = packing_template s5 in
    cond (template == 0) ToSimple (cond (template == 2) ToComplex (cond (template == 42) (own_blocks s5) (ToSpatial (octets s5 48 48))))

-- the new column of field i, and its Sections 5, 6 and 7; octet 21 of Section 5 stays
abbrev pub edited_column : GridEdit → List ℕ → ℕ → Column
edited_column edit message i = new_column edit (part_octets message i 3) (column_of message i)

abbrev pub edited_field : GridEdit → List ℕ → ℕ → Packed
edited_field edit message i = packed (own_target (part_octets message i 5)) (edited_column edit message i) (kind_of message i)

-- those of each field; fields count from 1
abbrev pub edited_fields : GridEdit → List ℕ → List Packed
edited_fields edit message = map (edited_field edit message) (range_with_len 1 (field_count message))

abbrev pub edited : GridEdit → List ℕ → List ℕ
edited edit message = assembled_with (section_of edit) message (edited_fields edit message)

-- why a message is not edited: by the grid of a field, by its new column, or by the length that it would have
pub data EditMisfit : Type 0 where
  OfGrid : ℕ → GridCause → EditMisfit
  OfColumn : ℕ → Misfit → EditMisfit
  TooLong : ℕ → EditMisfit

-- of field i, that of its grid, else that of its new column
abbrev pub grid_misfit : GridEdit → List ℕ → ℕ → Option EditMisfit
grid_misfit edit message i = option_map (OfGrid i) (cause_of edit (part_octets message i 3))

abbrev pub column_misfit : GridEdit → List ℕ → ℕ → Option EditMisfit
column_misfit edit message i =
    option_map (OfColumn i) (first_misfit (own_target (part_octets message i 5)) (edited_column edit message i).points)

abbrev pub field_misfit : GridEdit → List ℕ → ℕ → Option EditMisfit
field_misfit edit message i = or_later (grid_misfit edit message i) (λ _. column_misfit edit message i)

-- a message has 268,435,456 octets at most
abbrev pub length_misfit : ℕ → Option EditMisfit
length_misfit l = cond (nat_lt 268435456 l) (Some (TooLong l)) None

-- the first misfit: that of a field, else that of the whole
abbrev pub edit_misfit : GridEdit → List ℕ → Option EditMisfit
edit_misfit edit message =
    or_later (first_among (field_misfit edit message) (field_count message) 1)
    (λ _. length_misfit (length (edited edit message)))

-- a message that a profile accepts, whose values can be read and of which nothing fails to fit
pub record MayBeEdited (profile : Profile) (edit : GridEdit) (message : List ℕ) : Type 0 where
  pub accepted : IsMessageUnder profile message
  pub readable : IsReadable message
  pub are_octets : All (λ octet. octet < 256) message
  pub stands : Stands edit
  pub fits : edit_misfit edit message ≡ None
