-- A message of edition 1 as a whole.
use Rattle.std.specs.Prelude.{◌≡◌, ℕ, cond, Option, Some, List, length, take, ◌==◌}
use Rattle.grib2_sections.specs.Verdict.{Accepted}
use Rattle.grib2_sections.specs.Head.{indicator, edition}
use Rattle.grib1_sections.specs.Identification.{identification_rules}
use Rattle.grib1_sections.specs.Grid.{grid_rules}
use Rattle.grib1_sections.specs.Data.{data_rules}
use Rattle.grib1_sections.specs.Grammar.{IsSection, IsBitmap}
use Rattle.grib1_sections.specs.Acceptance.{verdict_1, identification, grid, bitmap, data_section, points_of, values_of}

-- the octets are one message that is accepted, and no more
pub record IsMessage1 (octets : List ℕ) : Type 0 where
  pub indicated : take 4 octets ≡ indicator
  pub edition_stands : edition octets ≡ 1
  pub accepted : verdict_1 octets ≡ Accepted (length octets)

-- the section with this number, 1 to 4; only Section 3 may be absent
abbrev pub section_of : List ℕ → ℕ → Option (List ℕ)
section_of message number =
    cond (number == 1) (Some (identification message))
    (cond (number == 2) (Some (grid message))
    (cond (number == 3) (bitmap message) (Some (data_section message))))

-- no rule refuses the sections of a message; each states its length and has the octets that its rules ask for
pub record SectionsPass (message : List ℕ) : Type 0 where
  pub identification_stands : IsSection 28 identification_rules (identification message)
  pub grid_stands : IsSection 6 grid_rules (grid message)
  pub bitmap_stands : IsBitmap (points_of message) (bitmap message)
  pub data_stands : IsSection 11 (data_rules (values_of message)) (data_section message)
