-- What a message of edition 1 is (WMO-No. 306, Volume I.2, FM 92 GRIB edition 1): Section 0, Sections 1
-- and 2, Section 3 where it is flagged, Section 4, and `7777`. It says how a whole message is joined, and
-- nothing of how it is read.
use Rattle.std.specs.Prelude.{◌≡◌, ℕ, ◌≤◌, Option, Some, None, List, [], ◌++◌, length, take, unwrap_or, is_some}
use Rattle.grib_base.specs.Rules.{Rule, first_fault}
use Rattle.grib2_sections.specs.Head.{indicator, end_mark, edition, total_length_1}
use Rattle.grib_bitmap.specs.Mask.{present_count}
use Rattle.grib1_sections.specs.Frame.{section_length}
use Rattle.grib1_sections.specs.Identification.{identification_rules, flags_bitmap}
use Rattle.grib1_sections.specs.Grid.{grid_rules, grid_points}
use Rattle.grib1_sections.specs.Bitmap.{bitmap_rules, mask_of}
use Rattle.grib1_sections.specs.Data.{data_rules}

-- the sections after Section 0
pub record Sections : Type 0 where
  pub identification : List ℕ
  pub grid : List ℕ
  pub bitmap : Option (List ℕ)
  pub data_section : List ℕ

-- the octets begin with their length, are at least `least`, and pass these rules
pub record IsSection (least : ℕ) (rules : List ℕ → List Rule) (s : List ℕ) : Type 0 where
  pub length_stands : section_length s ≡ length s
  pub long : least ≤ length s
  pub rules_hold : first_fault (rules s) ≡ None

abbrev pub IsBitmap : ℕ → Option (List ℕ) → Type 0
IsBitmap points None = Unit {0}
IsBitmap points (Some s) = IsSection 6 (bitmap_rules points) s

abbrev pub joined_sections : Sections → List ℕ
joined_sections sections =
    sections.identification ++ (sections.grid ++ (unwrap_or sections.bitmap [] ++ sections.data_section))

-- the octets are a message with these sections after Section 0
pub record Grammar1 (octets : List ℕ) (sections : Sections) : Type 0 where
  pub joined : octets ≡ (take 8 octets ++ joined_sections sections) ++ end_mark
  pub indicated : take 4 octets ≡ indicator
  pub edition_stands : edition octets ≡ 1
  pub total_stands : total_length_1 octets ≡ length octets
  pub identification_stands : IsSection 28 identification_rules sections.identification
  pub grid_stands : IsSection 6 grid_rules sections.grid
  pub flagged : is_some sections.bitmap ≡ flags_bitmap sections.identification
  pub bitmap_stands : IsBitmap (grid_points sections.grid) sections.bitmap
  pub data_stands : IsSection 11 (data_rules (present_count (mask_of sections.bitmap (grid_points sections.grid)))) sections.data_section
