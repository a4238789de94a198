-- What packing writes, as a function: Sections 5, 6 and 7 of a column (WMO-No. 306, Volume I.2, FM 92 GRIB
-- edition 2, templates 5.0, 5.2, 5.3, 5.42, 7.0, 7.2, 7.3 and 7.42). The relation `Packed` of grib_packing says what
-- these sections have to be; laws say that they are it, and that no others are.
use Rattle.std.specs.Prelude.{ℕ, ◌-◌, ◌^◌, ◌<◌, Bool, cond, List, ◌++◌, length, get_or}
use Rattle.std.specs.List.{list_any}
use Rattle.grib_bits.specs.Bits.{bits_of}
use Rattle.grib_base.specs.declared.code.Code.{Code}
use Rattle.grib_bits.specs.Encoding.{octets_of, section_of}
use Rattle.grib_packing.specs.declared.column.Point.{Point}
use Rattle.grib_packing.specs.declared.column.Column.{Column}
use Rattle.grib_packing.specs.declared.layout.Layout.{Layout}
use Rattle.grib_packing.specs.Differences.{descriptors_of}
use Rattle.grib_packing.specs.Groupings.{header_bits, length_bits, reference_bits_of, width_bits_of, width_of}
use Rattle.grib_coding.specs.declared.coding.Coding.{Coding}
use Rattle.grib_packing.specs.Misfits.{Target, ToSimple, ToComplex, ToSpatial, ToCoded, is_missing, management_of, scaled_numbers}
use Rattle.grib_packing.specs.Packed.{blocks_written, coding_to, descriptor_fields, descriptor_size, fields, group_parts, no_bitmap_section, present_bits, simple_numbers, simple_width, target_codes}
use Rattle.grib_packing.specs.declared.written.Packed.{Packed}
use Rattle.grib_packing.specs.Sections.{number_octets}
use Rattle.grib_complex.specs.Written.{layout_octets}
use Rattle.grib_packed.specs.Chosen.{chosen}
use Rattle.grib_packed.specs.Section.{section_with}

-- the words of R, E and D have 4, 2 and 2 octets
pub record HasWords (column : Column) : Type 0 where
  pub reference : column.reference < 2 ^ 32
  pub binary_scale : column.e < 2 ^ 16
  pub decimal_scale : column.d < 2 ^ 16

-- Section 6 where marks do not stand among the values: a bitmap where a point is missing.
abbrev pub bitmap_section : List Point → List ℕ
bitmap_section points = section_with 6 (cond (list_any is_missing points) (bits_of 8 0 ++ present_bits points) (bits_of 8 255))

-- To simple packing: the numbers of the present points, and a bitmap.
abbrev pub simple_sections : Column → ℕ → Packed
simple_sections column kind =
    let points = column.points in
    let width = simple_width points in
    record {
      section5 = section_of 5 (number_octets column (length (simple_numbers points)) 0 width kind);
      section6 = bitmap_section points;
      section7 = section_with 7 (fields width (simple_numbers points));
    }

-- To groups: the lengths of the groups of the codes of all points,
abbrev pub group_lengths : Target → List Point → List ℕ
group_lengths target points =
    let k = management_of points in
    let codes = target_codes target points in
    chosen (header_bits k codes) (width_of k) codes

-- what octets 20 and 22 to 47 of Section 5 say of groups of these lengths,
abbrev pub layout_with : ℕ → List Code → List ℕ → Layout
layout_with k codes lengths = record {
  groups = length lengths;
  reference_bits = reference_bits_of k codes;
  width_reference = 0;
  width_bits = width_bits_of k codes;
  length_reference = 1;
  length_increment = 1;
  last_length = get_or lengths (length lengths - 1) 0;
  length_bits = length_bits;
  management = k;
}

-- octets 6 to 47, where all grid points are values,
abbrev pub group_octets : Target → ℕ → Column → ℕ → List ℕ
group_octets target template column kind =
    let points = column.points in
    let k = management_of points in
    let codes = target_codes target points in
    number_octets column (length points) template (reference_bits_of k codes) kind
    ++ layout_octets (layout_with k codes (group_lengths target points))

-- and the four parts of the groups in Section 7.
abbrev pub group_bits : Target → List Point → List Bool
group_bits target points = group_parts (management_of points) (target_codes target points) (group_lengths target points)

-- The codes are the scaled integers,
abbrev pub complex_sections : Column → ℕ → Packed
complex_sections column kind = record {
  section5 = section_of 5 (group_octets ToComplex 2 column kind);
  section6 = no_bitmap_section;
  section7 = section_with 7 (group_bits ToComplex column.points);
}

-- or their differences, told by an order, octet 48, and descriptors of this many octets each, octet 49.
abbrev pub spatial_sections : ℕ → Column → ℕ → Packed
spatial_sections order column kind =
    let d = descriptors_of order (scaled_numbers column.points) in
    record {
      section5 = section_of 5 (group_octets (ToSpatial order) 3 column kind ++ octets_of 1 order ++ octets_of 1 (descriptor_size d));
      section6 = no_bitmap_section;
      section7 = section_with 7 (descriptor_fields d ++ group_bits (ToSpatial order) column.points);
    }

-- To CCSDS packing: the numbers and the bitmap of simple packing. What the numbers are coded by, octets 22 to 25,
abbrev pub coding_octets : Coding → List ℕ
coding_octets c = octets_of 1 c.flags ++ octets_of 1 c.block ++ octets_of 2 c.interval

-- and their blocks.
abbrev pub coded_sections : ℕ → ℕ → Column → ℕ → Packed
coded_sections block interval column kind =
    let points = column.points in
    let coding = coding_to block interval points in
    record {
      section5 = section_of 5 (number_octets column (length (simple_numbers points)) 42 coding.bits kind ++ coding_octets coding);
      section6 = bitmap_section points;
      section7 = section_with 7 (blocks_written coding (simple_numbers points));
    }

-- what a packing to a target writes; `kind` is the type of the original values (code table 5.1), octet 21
unfoldable pub packed : Target → Column → ℕ → Packed
packed ToSimple column kind = simple_sections column kind
packed ToComplex column kind = complex_sections column kind
packed (ToSpatial order) column kind = spatial_sections order column kind
packed (ToCoded block interval) column kind = coded_sections block interval column kind
