-- The fields of an accepted message of edition 2 (WMO-No. 306, Volume I.2, FM 92 GRIB edition 2): each
-- Section 7 ends one, and what a group of sections does not repeat stays in force.
use Rattle.std.specs.Prelude.{ℕ, zero, suc, ◌+◌, ◌-◌, cond, ◌&&◌, Bool, Option, List, [], ◌∷◌, length, map, ◌==◌, count_by}
use Rattle.grib_bits.specs.Bits.{bits_of, signed, digit}
use Rattle.grib_base.specs.Rules.{choose}
use Rattle.grib_dyadic.specs.Reference.{ieee}
use Rattle.grib_dyadic.specs.Value.{value_of}
use Rattle.grib_dyadic.specs.Meaning.{Meant, valued, missing, missing2}
use Rattle.grib2_sections.specs.Frame.{Placed, placed_at, ends_at, section_at}
use Rattle.grib_packing.specs.declared.column.Point.{Point}
use Rattle.grib_packing.specs.declared.column.Point.TheVariants.{Scaled, Missing, Missing2}
use Rattle.grib_packing.specs.declared.column.Column.{Column}
use Rattle.grib_packing.specs.Entries.{column_from}
use Rattle.grib2_message.specs.View.{is_numbered, section_in_force, octets_in_force, own_bitmap, own_bitmap_start, mask_in_force}

-- the sections from octet q on, up to the End Section; `turns` bounds their number
abbrev pub sections_from : ℕ → List ℕ → ℕ → List Placed
sections_from zero message q = []
sections_from (suc turns) message q =
    choose (ends_at message q) (λ _. [])
    (λ _. let s = section_at message q in placed_at q s ∷ sections_from turns message (q + length s))

-- all sections after Section 0
abbrev pub sections_of : List ℕ → List Placed
sections_of message = sections_from (length message) message 17

abbrev pub field_count : List ℕ → ℕ
field_count message = count_by (is_numbered 7) (sections_of message)

-- the sections up to the i-th Section 7, from 1, the newest first, after those before
abbrev pub sections_up_to_field : ℕ → List Placed → List Placed → List Placed
sections_up_to_field i before [] = before
sections_up_to_field i before (s ∷ sections) =
    let ends = is_numbered 7 s in
    cond (ends && (i == 1)) (s ∷ before) (sections_up_to_field (i - digit ends) (s ∷ before) sections)

-- what is in force for field i
abbrev pub field_sections : List ℕ → ℕ → List Placed
field_sections message i = sections_up_to_field i [] (sections_of message)

-- the last section with the number k that stands at or before the end of field i
abbrev pub part : List ℕ → ℕ → ℕ → Option Placed
part message i k = section_in_force k (field_sections message i)

abbrev pub part_octets : List ℕ → ℕ → ℕ → List ℕ
part_octets message i k = octets_in_force k (field_sections message i)

-- the Section 6 with the bits of field i
abbrev pub field_bitmap : List ℕ → ℕ → List ℕ
field_bitmap message i = own_bitmap (field_sections message i)

-- the octet at which it begins
abbrev pub field_bitmap_start : List ℕ → ℕ → ℕ
field_bitmap_start message i = own_bitmap_start (field_sections message i)

-- which points of field i are present
abbrev pub field_mask : List ℕ → ℕ → List Bool
field_mask message i = mask_in_force (field_sections message i)

-- the column of field i
abbrev pub column_of : List ℕ → ℕ → Column
column_of message i = column_from (part_octets message i 5) (field_mask message i) (part_octets message i 7)

-- what a point means, with the numbers of its column
abbrev pub meaning_at : Column → Point → Meant
meaning_at column (Scaled x) = valued (value_of (ieee column.reference) (signed (bits_of 16 column.e)) (signed (bits_of 16 column.d)) x)
meaning_at column Missing = missing
meaning_at column Missing2 = missing2

-- what the points of field i mean
abbrev pub meaning_of : List ℕ → ℕ → List Meant
meaning_of message i = let column = column_of message i in map (meaning_at column) column.points
