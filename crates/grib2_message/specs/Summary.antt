-- What describes a field of an accepted message of edition 2: the numbers that its line of a list has (WMO-No. 306,
-- Volume I.2, FM 92 GRIB edition 2, Sections 0, 1, 3, 4 and 5).
use Rattle.std.specs.Prelude.{ℕ, ◌+◌, cond, List}
use Rattle.std.specs.Option.{option_map_or}
use Rattle.grib_bits.specs.Octets.{octets}
use Rattle.grib2_sections.specs.Frame.{Placed}
use Rattle.grib2_sections.specs.Head.{discipline}
use Rattle.grib2_sections.specs.declared.identification.Identification.{Identification}
use Rattle.grib2_grids.specs.Grid.{grid_points, grid_template}
use Rattle.grib2_products.specs.Product.{product_template}
use Rattle.grib2_sections.specs.Instant.{instant_shift}
use Rattle.grib_packing.specs.Packing.{packing_template, bit_width, value_count}
use Rattle.grib_packing.specs.Entries.{is_opaque_packing}
use Rattle.grib2_message.specs.declared.summary.FieldSummary.{FieldSummary}
use Rattle.grib2_message.specs.View.{octets_in_force}
use Rattle.grib2_message.specs.Fields.{part_octets}

-- what Section 1 states
abbrev pub identification_of : List ℕ → Identification
identification_of s = record {
  centre = octets s 6 7;
  sub_centre = octets s 8 9;
  master = octets s 10 10;
  local = octets s 11 11;
  significance = octets s 12 12;
  year = octets s 13 14;
  month = octets s 15 15;
  day = octets s 16 16;
  hour = octets s 17 17;
  minute = octets s 18 18;
  second = octets s 19 19;
  status = octets s 20 20;
  data_type = octets s 21 21;
}

-- octets of product template 4.0 in a Section 4 whose template begins so, some of them two places later; 0 in another
abbrev pub instant_octets : List ℕ → ℕ → ℕ → ℕ
instant_octets s first last = option_map_or (λ shift. octets s (first + shift) (last + shift)) (instant_shift (product_template s)) 0

-- the bits of each packed number, or of each group reference; 0 of an opaque packing
abbrev pub bits_of_packing : List ℕ → ℕ
bits_of_packing s5 = cond (is_opaque_packing s5) 0 (bit_width s5)

-- by the discipline, the identification and Sections 3, 4 and 5
abbrev pub summary_by : ℕ → Identification → List ℕ → List ℕ → List ℕ → FieldSummary
summary_by discipline identification s3 s4 s5 = record {
  identification = identification;
  discipline = discipline;
  grid = grid_template s3;
  points = grid_points s3;
  product = product_template s4;
  category = octets s4 10 10;
  number = octets s4 11 11;
  unit = instant_octets s4 18 18;
  time = instant_octets s4 19 22;
  surface = instant_octets s4 23 23;
  scale = instant_octets s4 24 24;
  value = instant_octets s4 25 28;
  packing = packing_template s5;
  bits = bits_of_packing s5;
  values = value_count s5;
}

-- by the discipline and the sections in force, as far as they came
abbrev pub summary_in_force : ℕ → List Placed → FieldSummary
summary_in_force discipline before =
    summary_by discipline (identification_of (octets_in_force 1 before)) (octets_in_force 3 before) (octets_in_force 4 before) (octets_in_force 5 before)

-- of field i, by the sections in force for it
abbrev pub summary_of : List ℕ → ℕ → FieldSummary
summary_of message i =
    summary_by (discipline message) (identification_of (part_octets message i 1)) (part_octets message i 3) (part_octets message i 4) (part_octets message i 5)
