-- The message of edition 1 that has the values of a field of edition 2 (WMO-No. 306, Volume I.2, FM 92 GRIB).
use Rattle.std.specs.Prelude.{ℕ, ◌+◌, Bool, Option, Some, None, List, ◌∷◌, ◌++◌, length, nat_lt, unwrap_or, option_map}
use Rattle.grib_bits.specs.Encoding.{octets_of, all_octets, section1_of}
use Rattle.grib_bits.specs.Listed.{numbers_octets}
use Rattle.grib_base.specs.Rules.{or_later}
use Rattle.grib2_sections.specs.Head.{indicator, end_mark, discipline}
use Rattle.grib_params.specs.declared.matching.TableMatch.{TableMatch}
use Rattle.grib_params.specs.Table.{Entries}
use Rattle.grib2_grids.specs.Grid.{grid_template, grid_points, row_list}
use Rattle.grib2_products.specs.Spelled.{coordinate_list}
use Rattle.grib_packing.specs.declared.written.Packed.{Packed}
use Rattle.grib_packing.specs.Misfits.{ToSimple}
use Rattle.grib2_message.specs.Fields.{part_octets}
use Rattle.grib_repack.specs.Repacked.{packed_field}
use Rattle.grib_reasons.specs.declared.demotion.Demotion.{Demotion}
use Rattle.grib_reasons.specs.declared.demotion.Demotion.TheVariants as losses
use Rattle.grib_demote.specs.Levels.{level, level_of}
use Rattle.grib_demote.specs.Times.{unit_of}
use Rattle.grib_demote.specs.Grids.{type_of, header, template_numbers}
use Rattle.grib_demote.specs.declared.product.Told.{Told}
use Rattle.grib_demote.specs.Products.{pair_in, identification_numbers, local_octets, coordinate_numbers}
use Rattle.grib_demote.specs.Values.{has_bitmap, bitmap_section, data_section}
use Rattle.grib_demote.specs.Losses.{first_of, lost_where, field_losses}

-- what Section 1 has of a product; 0 where there is a loss
abbrev pub told_in : Entries → TableMatch → ℕ → List ℕ → List ℕ → Told
told_in table matching discipline s1 s4 = record {
  version = (unwrap_or (pair_in table matching discipline s1 s4) (0, 0)).0;
  parameter = (unwrap_or (pair_in table matching discipline s1 s4) (0, 0)).1;
  level = unwrap_or (level_of s4) (level 0 0);
  unit = unwrap_or (option_map (λ r. r.old) (unit_of s4)) 0;
}

-- Section 1
abbrev pub product_section : Told → Bool → Bool → List ℕ → List ℕ → List ℕ → List ℕ → List ℕ
product_section told keep_local bitmapped s1 s2 s4 s5 =
    section1_of (all_octets (identification_numbers told bitmapped s1 s4 s5) ++ local_octets keep_local s2)

-- Section 2, with these words of the vertical coordinates; behind them stands the list of rows
abbrev pub grid_octets : List ℕ → List ℕ → List ℕ
grid_octets words s3 =
    all_octets (header (length words) (unwrap_or (type_of (grid_template s3)) 0) s3)
    ++ (all_octets (template_numbers s3) ++ (all_octets (coordinate_numbers words) ++ numbers_octets 2 (row_list s3)))

-- a message of edition 1 with these sections after Section 0; its total length counts Section 0 and the end mark
-- too
abbrev pub message_with : List ℕ → List ℕ
message_with sections = indicator ++ (octets_of 3 (8 + length sections + 4) ++ 1 ∷ (sections ++ end_mark))

-- Sections 1 to 4, with these octets of Section 2 and these Sections 5, 6 and 7 of simple packing
abbrev pub all_sections : Told → Bool → List ℕ → List ℕ → List ℕ → List ℕ → List ℕ → Packed → ℕ → List ℕ
all_sections told keep_local s1 s2 s4 s5 grid values points =
    product_section told keep_local (has_bitmap values) s1 s2 s4 s5
    ++ (section1_of grid ++ (bitmap_section values points ++ data_section s5 values))

-- those of field i
abbrev pub demoted_sections : Entries → TableMatch → Bool → List ℕ → ℕ → List ℕ
demoted_sections table matching keep_local message i =
    let part = λ (k : ℕ). part_octets message i k in
    all_sections (told_in table matching (discipline message) (part 1) (part 4)) keep_local (part 1) (part 2) (part 4) (part 5)
    (grid_octets (coordinate_list (part 4)) (part 3)) (packed_field ToSimple message i) (grid_points (part 3))

-- the message of edition 1 of field i, where there is no loss
abbrev pub demoted : Entries → TableMatch → Bool → List ℕ → ℕ → List ℕ
demoted table matching keep_local message i = message_with (demoted_sections table matching keep_local message i)

-- a message of edition 1 has 16,777,215 octets at most
abbrev pub length_loss : ℕ → Option Demotion
length_loss total = lost_where (nat_lt 16777215 total) (losses.TooLong total)

-- the first loss of field i
abbrev pub first_loss : Entries → TableMatch → Bool → Bool → List ℕ → ℕ → Option Demotion
first_loss table matching keep_local any_earth message i =
    or_later (first_of (field_losses table matching keep_local any_earth message i))
    (λ _. length_loss (length (demoted table matching keep_local message i)))
