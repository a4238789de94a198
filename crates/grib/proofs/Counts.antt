-- How many points a message of edition 1 has.
use Rattle.std.proofs.Common.{◌≡◌, ℕ, List, length, ◌∙◌}
use Rattle.grib_bitmap.specs.Mask.{present_count}
use Rattle.grib2_message.proofs.Masks.{points_of_mask}
use Rattle.grib1_sections.specs.Acceptance.{bitmap, mask, points_of, data_section}
use Rattle.grib1_sections.specs.Column.{column1_of, entries_of}
use Rattle.grib1_sections.specs.Message.{SectionsPass}
use Rattle.grib1_sections.proofs.Columns.{length-mask}

-- the bitmap of one whose sections pass has a bit for each point of the grid
pub first_points : (message : List ℕ) → SectionsPass message → length (column1_of message).points ≡ points_of message
first_points message passes =
    points_of_mask (mask message) (entries_of (data_section message) (present_count (mask message)))
    ∙ length-mask (points_of message) (bitmap message) passes.bitmap_stands
