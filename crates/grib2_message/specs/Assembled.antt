-- A message put together again, with other Sections 3, 5, 6 and 7 (WMO-No. 306, Volume I.2, FM 92 GRIB
-- edition 2: Section 0 with the total length in octets 9-16, the other sections, `7777`).
use Rattle.std.specs.Prelude.{◌≡◌, ◌⊎◌, ℕ, ◌+◌, ◌≤◌, ◌<◌, ◌^◌, Bool, cond, Option, Some, None, List, [], ◌∷◌, ◌++◌, length, take, drop, slice_get, ◌==◌}
use Rattle.std.specs.List.{concat}
use Rattle.grib_bits.specs.Octets.{StatesItself}
use Rattle.grib_base.specs.Rules.{first_fault}
use Rattle.grib_base.specs.declared.profile.Profile.{Profile}
use Rattle.grib_base.specs.declared.profile.Profile.TheVariants.{Stated}
use Rattle.grib_bits.specs.Encoding.{octets_of}
use Rattle.grib2_sections.specs.Head.{end_mark}
use Rattle.grib2_sections.specs.Frame.{Placed, section_number}
use Rattle.grib2_grids.specs.Grid.{grid_points}
use Rattle.grib2_grids.specs.Opaque.{grid_rules_under}
use Rattle.grib_bitmap.specs.Mask.{bitmap_indicator, bitmap_rules}
use Rattle.grib_packing.specs.Packing.{value_count}
use Rattle.grib_packing.specs.Entries.{packing_fault_under, data_fault}
use Rattle.grib_packing.specs.declared.written.Packed.{Packed}
use Rattle.grib2_message.specs.View.{is_numbered}
use Rattle.grib2_message.specs.Fields.{sections_of, field_count, part_octets}
use Rattle.grib2_message.specs.Message.{IsMessageUnder}
use Rattle.grib2_message.specs.declared.fault.AssembleFault.{AssembleFault}
use Rattle.grib2_message.specs.declared.fault.AssembleFault.TheVariants.{TooLong, Memory}

-- What stands in place of a section, where the first of these parts is that of its field: of Sections 5, 6
-- and 7 those of the part. Where no part is left, the section stays.
abbrev pub in_place : List Packed → List ℕ → List ℕ
in_place [] s = s
in_place (part ∷ parts) s =
    let number = section_number s in
    cond (number == 5) part.section5 (cond (number == 6) part.section6 (cond (number == 7) part.section7 s))

-- and of a Section 3 what `grid` makes of it
abbrev pub in_place_with : (List ℕ → List ℕ) → List Packed → List ℕ → List ℕ
in_place_with grid parts s = cond (section_number s == 3) (grid s) (in_place parts s)

-- all sections in their order; a Section 7 ends its field, and the next part is that of the next field
abbrev pub replaced_with : (List ℕ → List ℕ) → List Placed → List Packed → List (List ℕ)
replaced_with grid [] parts = []
replaced_with grid (s ∷ sections) parts =
    in_place_with grid parts s.octets ∷ replaced_with grid sections (cond (is_numbered 7 s) (drop 1 parts) parts)

-- the octets of all sections after Section 0
abbrev pub assembled_body_with : (List ℕ → List ℕ) → List ℕ → List Packed → List ℕ
assembled_body_with grid message parts = concat (replaced_with grid (sections_of message) parts)

-- The message with one part for each field, and with what `grid` makes of each Section 3: Section 0 with the
-- new total length, the sections, the End Section.
abbrev pub assembled_with : (List ℕ → List ℕ) → List ℕ → List Packed → List ℕ
assembled_with grid message parts =
    let body = assembled_body_with grid message parts in
    take 8 message ++ (octets_of 8 (16 + length body + 4) ++ (body ++ end_mark))

-- each Section 3 stays
abbrev pub as_it_is : List ℕ → List ℕ
as_it_is s = s

abbrev pub replaced : List Placed → List Packed → List (List ℕ)
replaced sections parts = replaced_with as_it_is sections parts

abbrev pub assembled_body : List ℕ → List Packed → List ℕ
assembled_body message parts = assembled_body_with as_it_is message parts

abbrev pub assembled : List ℕ → List Packed → List ℕ
assembled message parts = assembled_with as_it_is message parts

-- the lengths of its sections have four octets each
pub record IsShort (part : Packed) : Type 0 where
  pub short_5 : length part.section5 < 2 ^ 32
  pub short_6 : length part.section6 < 2 ^ 32
  pub short_7 : length part.section7 < 2 ^ 32

-- why no message of this length is put together; where there is no memory, nothing is said of it
abbrev pub IsAssembleFault : ℕ → AssembleFault → Type 0
IsAssembleFault total (TooLong n) = (n ≡ total) × (268435456 < n)
IsAssembleFault total Memory = Unit {0}

-- Sections 5, 6 and 7 of a field with this many grid points, each with its length and its number, which no
-- rule of a profile refuses, whatever bitmap came before: its own is new, or there is none.
pub record PartsPassUnder (profile : Profile) (points : ℕ) (part : Packed) : Type 0 where
  pub itself_5 : StatesItself 5 part.section5
  pub itself_6 : StatesItself 6 part.section6
  pub itself_7 : StatesItself 7 part.section7
  pub packing : packing_fault_under profile part.section5 points ≡ None
  pub alone : (bitmap_indicator part.section6 ≡ 0) ⊎ (bitmap_indicator part.section6 ≡ 255)
  pub bitmap : (earlier : Option (List Bool)) → first_fault (bitmap_rules part.section6 points (value_count part.section5) earlier) ≡ None
  pub values : data_fault part.section5 part.section7 ≡ None

-- a Section 3 with its length and its number, which no rule refuses
pub record IsGridUnder (profile : Profile) (s : List ℕ) : Type 0 where
  pub itself : StatesItself 3 s
  pub rules : first_fault (grid_rules_under profile s) ≡ None

-- An accepted message, each Section 3 of which becomes one that no rule refuses, and a part for each field that
-- may stand in it.
pub record MayBeAssembledWithUnder (profile : Profile) (grid : List ℕ → List ℕ) (message : List ℕ) (parts : List Packed) : Type 0 where
  pub accepted : IsMessageUnder profile message
  pub one_each : length parts ≡ field_count message
  pub grids : (i : ℕ) → 1 ≤ i → i ≤ field_count message → IsGridUnder profile (part_octets message i 3) → IsGridUnder profile (grid (part_octets message i 3))
  pub pass : (i : ℕ) (part : Packed) → slice_get parts i ≡ Some part → PartsPassUnder profile (grid_points (grid (part_octets message (i + 1) 3))) part
  pub most : length (assembled_with grid message parts) ≤ 268435456

-- an accepted message, and a part for each field that may stand in it
pub record MayBeAssembledUnder (profile : Profile) (message : List ℕ) (parts : List Packed) : Type 0 where
  pub accepted : IsMessageUnder profile message
  pub one_each : length parts ≡ field_count message
  pub pass : (i : ℕ) (part : Packed) → slice_get parts i ≡ Some part → PartsPassUnder profile (grid_points (part_octets message (i + 1) 3)) part
  pub most : length (assembled message parts) ≤ 268435456

-- ---- under the profile of the stated templates

abbrev pub IsGrid : List ℕ → Type 0
IsGrid = IsGridUnder Stated

abbrev pub MayBeAssembledWith : (List ℕ → List ℕ) → List ℕ → List Packed → Type 0
MayBeAssembledWith = MayBeAssembledWithUnder Stated

abbrev pub MayBeAssembled : List ℕ → List Packed → Type 0
MayBeAssembled = MayBeAssembledUnder Stated
