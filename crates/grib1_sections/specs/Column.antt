-- What the grid points of a message of edition 1 hold (WMO-No. 306, Volume I.2, FM 92 GRIB edition 1): octets
-- 27-28 of Section 1 are the decimal scale factor D; octets 5-6 of Section 4 are the binary scale factor E,
-- octets 7-10 the reference value R in the IBM single form, octet 11 the bits of each number, and the numbers
-- stand from octet 12 on.
use Rattle.std.specs.Prelude.{ℕ, Bool, List, map, drop, pos}
use Rattle.grib_bits.specs.Bits.{bits, bits_of, signed}
use Rattle.grib_bits.specs.Octets.{octets}
use Rattle.grib_bits.specs.Plain.{plain}
use Rattle.grib_dyadic.specs.Reference.{ibm}
use Rattle.grib_dyadic.specs.Value.{value_of}
use Rattle.grib_dyadic.specs.Meaning.{Meant, valued, missing, missing2}
use Rattle.grib_bitmap.specs.Mask.{present_count}
use Rattle.grib_packing.specs.Column.{points_with_mask}
use Rattle.grib_packing.specs.declared.column.Point.{Point}
use Rattle.grib_packing.specs.declared.column.Point.TheVariants.{Scaled, Missing, Missing2}
use Rattle.grib_packing.specs.declared.column.Column.{Column}
use Rattle.grib1_sections.specs.Data.{bit_width}
use Rattle.grib1_sections.specs.Acceptance.{identification, mask, data_section}

-- the entries of the points that are present, of this number: the plain numbers from octet 12 of Section 4 on
abbrev pub entries_of : List ℕ → ℕ → List Point
entries_of s4 values = map (λ x. Scaled (pos x)) (plain (bits (drop 11 s4)) (bit_width s4) values)

-- the column by Section 1, the mask and Section 4: the points that the mask leaves out are missing
abbrev pub column_from : List ℕ → List Bool → List ℕ → Column
column_from s1 presence s4 = record {
  reference = octets s4 7 10;
  e = octets s4 5 6;
  d = octets s1 27 28;
  points = points_with_mask presence (entries_of s4 (present_count presence));
}

-- the column of a message
abbrev pub column1_of : List ℕ → Column
column1_of message = column_from (identification message) (mask message) (data_section message)

-- what a point means, with the numbers of its column
abbrev pub meaning_at : Column → Point → Meant
meaning_at column (Scaled x) = valued (value_of (ibm column.reference) (signed (bits_of 16 column.e)) (signed (bits_of 16 column.d)) x)
meaning_at column Missing = missing
meaning_at column Missing2 = missing2

-- what the points of a message mean
abbrev pub meaning1_of : List ℕ → List Meant
meaning1_of message = let column = column1_of message in map (meaning_at column) column.points
