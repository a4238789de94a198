-- What a message of edition 2 is (WMO-No. 306, Volume I.2, FM 92 GRIB edition 2): Section 0, other sections
-- one after another, and `7777`. It says how a whole message is joined, and nothing of how it is read.
use Rattle.std.specs.Prelude.{◌≡◌, ℕ, ◌+◌, ◌≤◌, IsTrue, true, false, None, List, [], ◌∷◌, ◌++◌, length, take}
use Rattle.std.specs.List.{concat}
use Rattle.grib_base.specs.declared.profile.Profile.{Profile}
use Rattle.grib_base.specs.declared.profile.Profile.TheVariants.{Stated}
use Rattle.grib2_sections.specs.Head.{indicator, end_mark, edition, total_length}
use Rattle.grib2_sections.specs.Frame.{Placed, placed_at, section_length, section_number, may_follow, may_end}
use Rattle.grib2_grids.specs.Opaque.{is_opaque_grid}
use Rattle.grib2_products.specs.Opaque.{is_opaque_product}
use Rattle.grib_packing.specs.Entries.{is_stated_packing}
use Rattle.grib2_message.specs.View.{last_number}
use Rattle.grib2_message.specs.Acceptance.{section_fault_under}

-- s may stand at octet `start` after the sections before it
pub record IsSection (profile : Profile) (before : List Placed) (start : ℕ) (s : List ℕ) : Type 0 where
  pub length_stands : section_length s ≡ length s
  pub least : 5 ≤ length s
  pub follows : IsTrue (may_follow (last_number before) (section_number s))
  pub rules_hold : section_fault_under profile before (placed_at start s) ≡ None

-- the sections may follow one another from octet `start` on, and the last may be the last
abbrev pub AreSections : Profile → List Placed → ℕ → List (List ℕ) → Type 0
AreSections profile before start [] = IsTrue (may_end (last_number before))
AreSections profile before start (s ∷ sections) =
    IsSection profile before start s × AreSections profile (placed_at start s ∷ before) (start + length s) sections

-- the octets are a message with these sections after Section 0
pub record GrammarUnder (profile : Profile) (octets : List ℕ) (sections : List (List ℕ)) : Type 0 where
  pub joined : octets ≡ (take 16 octets ++ concat sections) ++ end_mark
  pub indicated : take 4 octets ≡ indicator
  pub edition_stands : edition octets ≡ 2
  pub total_stands : total_length octets ≡ length octets
  pub least : 20 ≤ length octets
  pub most : length octets ≤ 268435456
  pub sections_follow : AreSections profile [] 17 sections

-- the stated profile has the template of a section: of its grid, its product or its packing
pub record HasStatedTemplate (s : Placed) : Type 0 where
  pub grid : section_number s.octets ≡ 3 → is_opaque_grid s.octets ≡ false
  pub product : section_number s.octets ≡ 4 → is_opaque_product s.octets ≡ false
  pub packing : section_number s.octets ≡ 5 → is_stated_packing s.octets ≡ true

-- and those of each of these sections
abbrev pub HaveStatedTemplates : List Placed → Type 0
HaveStatedTemplates [] = Unit {0}
HaveStatedTemplates (s ∷ sections) = HasStatedTemplate s × HaveStatedTemplates sections

-- under the profile of the stated templates
abbrev pub Grammar2 : List ℕ → List (List ℕ) → Type 0
Grammar2 = GrammarUnder Stated
