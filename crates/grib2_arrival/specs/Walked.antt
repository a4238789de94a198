-- How far a message of edition 2 was judged when some first octets of it came, whatever octets follow.
use Rattle.std.specs.Prelude.{◌≡◌, ℕ, suc, ◌+◌, ◌-◌, ◌*◌, ◌≤◌, List, ◌++◌, length}
use Rattle.std.specs.List.{count_by}
use Rattle.grib_base.specs.declared.profile.Profile.{Profile}
use Rattle.grib2_sections.specs.Frame.{Placed}
use Rattle.grib2_message.specs.View.{is_numbered, section_count}
use Rattle.grib2_message.specs.Acceptance.{verdict_under, verdict_from}
use Rattle.grib2_message.specs.Fields.{sections_from, sections_up_to_field, field_sections, field_count}

-- how many sections are looked for after these
abbrev pub turns_left : List ℕ → List Placed → ℕ
turns_left message before = length message - length before

-- What is said of a message, and of its fields, is what is said from octet q on, after these sections.
pub record GoesOnFrom (profile : Profile) (message : List ℕ) (before : List Placed) (q : ℕ) : Type 0 where
  pub verdict : verdict_under profile message ≡ verdict_from profile (suc (turns_left message before)) message before q
  pub fields : (i : ℕ) → field_sections message (section_count 7 before + suc i) ≡ sections_up_to_field (suc i) before (sections_from (turns_left message before) message q)
  pub count : field_count message ≡ section_count 7 before + count_by (is_numbered 7) (sections_from (turns_left message before) message q)

-- Section 0 and these sections, the newest first, stand whole in the octets before octet q, no rule refuses them, and
-- whatever follows the octets is judged from octet q on.
pub record Walked (profile : Profile) (octets : List ℕ) (before : List Placed) (q : ℕ) : Type 0 where
  pub low : 17 + 5 * length before ≤ q
  pub within : q ≤ length octets + 1
  pub goes_on : (more : List ℕ) → GoesOnFrom profile (octets ++ more) before q
