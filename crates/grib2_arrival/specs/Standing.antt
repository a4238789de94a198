-- What an arriving message keeps of Section 0 and the sections that are whole.
use Rattle.std.specs.Prelude.{◌≡◌, ℕ, ◌+◌, ◌≤◌, Some, List, ◌++◌, length, slice_get}
use Rattle.grib_base.specs.declared.profile.Profile.{Profile}
use Rattle.grib2_sections.specs.Head.{edition, discipline, total_length}
use Rattle.grib2_sections.specs.Frame.{Placed}
use Rattle.grib2_message.specs.View.{last_number, section_count}
use Rattle.grib2_message.specs.Kept.{HasInForce}
use Rattle.grib2_message.specs.Summary.{summary_in_force, summary_of}
use Rattle.grib2_message.specs.declared.summary.FieldSummary.{FieldSummary}
use Rattle.grib2_arrival.specs.declared.kept.Kept.{Kept}
use Rattle.grib2_arrival.specs.Walked.{Walked}

-- The numbers that are kept are those of these sections; the summaries are those of the fields that have ended,
-- whatever follows the octets.
pub record Stands (profile : Profile) (octets : List ℕ) (before : List Placed) (kept : Kept) : Type 0 where
  pub walked : Walked profile octets before kept.frame.place
  pub second : edition octets ≡ 2
  pub total : kept.frame.total ≡ total_length octets
  pub most : kept.frame.total ≤ 268435456
  pub room : kept.frame.place + 3 ≤ kept.frame.total
  pub last : kept.frame.last ≡ last_number before
  pub numbered : kept.frame.last ≤ 7
  pub line : kept.line ≡ summary_in_force (discipline octets) before
  pub force : HasInForce before kept.force
  pub under : kept.force.profile ≡ profile
  pub count : length kept.summaries.items ≡ section_count 7 before
  pub summaries : (more : List ℕ) (i : ℕ) (summary : FieldSummary) → slice_get kept.summaries.items i ≡ Some summary → summary ≡ summary_of (octets ++ more) (i + 1)
