-- What is known of the sections of a message while it is read, and after, for private functions.
use Rattle.std.specs.Prelude.{◌≡◌, ℕ, ◌+◌, ◌≤◌, true, Option, List, length}
use Rattle.grib_bits.specs.Octets.{octets}
use Rattle.grib2_sections.specs.Head.{total_length_1}
use Rattle.grib1_sections.specs.Frame.{section_at}
use Rattle.grib1_sections.specs.Grid.{lists_rows, list_place, lists_end}
use Rattle.grib1_sections.specs.Message.{IsMessage1}
use Rattle.grib1_sections.specs.Acceptance.{identification, grid, bitmap, data_section, points_of, values_of, data_start}

-- s stands at octet q of a message, is at least so long, and four octets are left behind it
pub record Stands (message : List ℕ) (q least : ℕ) (s : List ℕ) : Type 0 where
  pub section : s ≡ section_at message q
  pub as_long : length s ≡ octets message q (q + 2)
  pub long : least ≤ length s
  pub there : q + length s ≤ length message + 1
  pub room : q + length s + 3 ≤ total_length_1 message

-- where the rows of a grid have a list of their numbers of points, the section has it as a whole
pub record HasRows (s : List ℕ) : Type 0 where
  pub low : lists_rows s ≡ true → 1 ≤ list_place s
  pub long : lists_rows s ≡ true → lists_end s ≤ length s

-- what is known of a Section 3, or that there is none: its octets, how many points are present, and where
-- what follows begins
pub record HasBitmap (message : List ℕ) (s : Option (List ℕ)) (present after : ℕ) : Type 0 where
  pub section : s ≡ bitmap message
  pub present_are : present ≡ values_of message
  pub place : after ≡ data_start message
  pub low : 1 ≤ after
  pub there : after ≤ length message + 1
  pub room : after + 3 ≤ total_length_1 message

-- what a message keeps of its sections
pub record HasSections (message s1 s2 : List ℕ) (s3 : Option (List ℕ)) (s4 : List ℕ) (points values : ℕ) : Type 0 where
  pub accepted : IsMessage1 message
  pub identification_is : s1 ≡ identification message
  pub grid_is : s2 ≡ grid message
  pub bitmap_is : s3 ≡ bitmap message
  pub data_is : s4 ≡ data_section message
  pub points_are : points ≡ points_of message
  pub values_are : values ≡ values_of message
