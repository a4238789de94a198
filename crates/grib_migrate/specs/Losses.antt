-- What of a message of edition 1 has no place in edition 2: the losses in their order. Which are losses is our
-- own choice.
use Rattle.std.specs.Prelude.{ℕ, ◌+◌, Bool, false, not, cond, ◌&&◌, ◌||◌, Option, Some, None, is_none, List, [], ◌∷◌, ◌++◌, nat_lt, ◌==◌}
use Rattle.std.specs.Option.{option_map_or}
use Rattle.grib_params.specs.declared.row.Target.{Target}
use Rattle.grib_params.specs.Surfaces.{SurfaceEntries}
use Rattle.grib_params.specs.Table.{Entries}
use Rattle.grib1_sections.specs.Acceptance.{identification, grid, data_section}
use Rattle.grib1_sections.specs.Coordinates.{coordinate_list}
use Rattle.grib1_sections.specs.Keys.{key_in}
use Rattle.grib_keys.specs.declared.key1.Key1.TheVariants.{TimeRange, AverageCount, AverageMissing}
use Rattle.grib_reasons.specs.declared.loss.Loss.{Loss}
use Rattle.grib_reasons.specs.declared.loss.Loss.TheVariants as losses
use Rattle.grib_migrate.specs.declared.labels.Local.{Local}
use Rattle.grib_migrate.specs.declared.level.Surfaces.{Surfaces}
use Rattle.grib_migrate.specs.Source.{target_in, has_local}
use Rattle.grib_migrate.specs.Levels.{surfaces_of}
use Rattle.grib_migrate.specs.Chosen.{named_in, surfaces_by, target_by}
use Rattle.grib_migrate.specs.Labels.{loses_local}
use Rattle.grib_migrate.specs.Times.{unit_of, is_instant, is_interval, loses_range}
use Rattle.grib_migrate.specs.Dates.{reference_time, is_civil, end_of}
use Rattle.grib_migrate.specs.Grids.{grid_loss, has_other_flags}
use Rattle.grib_migrate.specs.References.{binary32_of}
use Rattle.grib_migrate.specs.Values.{reference}

abbrev pub lost_where : Bool → Loss → Option Loss
lost_where is_lost loss = cond is_lost (Some loss) None

-- the first loss of some
abbrev pub first_of : List (Option Loss) → Option Loss
first_of [] = None
first_of (Some loss ∷ later) = Some loss
first_of (None ∷ later) = first_of later

-- the reference time is no date and time of years 1 to 9999, or an interval ends after them
abbrev pub loses_date : List ℕ → Bool
loses_date s1 =
    not (is_civil (reference_time s1))
    || (is_interval (key_in s1 TimeRange) && option_map_or (λ u. nat_lt 9999 (end_of s1 u.seconds).year) (unit_of s1) false)

-- an average of several fields, or fields missing at a point in time
abbrev pub loses_average : List ℕ → Bool
loses_average s1 =
    nat_lt 1 (key_in s1 AverageCount) || (not (key_in s1 AverageMissing == 0) && is_instant (key_in s1 TimeRange))

-- the first vertical coordinate without a binary32 word, counted from 1
abbrev pub coordinate_loss_from : ℕ → List ℕ → Option Loss
coordinate_loss_from i [] = None
coordinate_loss_from i (word ∷ words) =
    cond (is_none (binary32_of word)) (Some (losses.Coordinate i)) (coordinate_loss_from (i + 1) words)

abbrev pub coordinate_loss : List ℕ → Option Loss
coordinate_loss words = coordinate_loss_from 1 words

-- the reference value of a Section 4 has no binary32 word
abbrev pub reference_loss : List ℕ → Option Loss
reference_loss s4 = lost_where (is_none (binary32_of (reference s4))) losses.Reference

-- the losses of Section 1 and of the flags of Section 2, by its parameter and its fixed surfaces,
-- and by whether octets for local use are there and not written
abbrev pub front_losses_by : Option Target → Option Surfaces → Bool → List ℕ → List ℕ → List (Option Loss)
front_losses_by target surfaces loses_local s1 s2 =
    lost_where (is_none target) losses.Parameter
    ∷ lost_where (is_none surfaces) losses.LevelType
    ∷ lost_where (is_none (unit_of s1)) losses.TimeUnit
    ∷ lost_where (loses_range s1) losses.TimeRange
    ∷ lost_where (loses_date s1) losses.Date
    ∷ lost_where (loses_average s1) losses.AverageCount
    ∷ lost_where loses_local losses.LocalUse
    ∷ lost_where (has_other_flags s2) losses.GridFlags
    ∷ []

-- by a parameter table alone, and by whether local use is preserved
abbrev pub front_losses : Entries → Bool → List ℕ → List ℕ → List (Option Loss)
front_losses table keep_local s1 s2 = front_losses_by (target_in table s1) (surfaces_of s1) (has_local s1 && not keep_local) s1 s2

-- by both tables, and by what is chosen of local use
abbrev pub chosen_losses : Entries → SurfaceEntries → Local → List ℕ → List ℕ → List (Option Loss)
chosen_losses table surfaces local s1 s2 =
    let named = named_in surfaces s1 in
    front_losses_by (target_by table named s1) (surfaces_by named s1) (loses_local local s1) s1 s2

-- those of the numbers
abbrev pub number_losses : List ℕ → List ℕ → List (Option Loss)
number_losses s2 s4 =
    grid_loss s2
    ∷ coordinate_loss (coordinate_list s2)
    ∷ reference_loss s4
    ∷ []

-- the first loss of a message
abbrev pub first_loss : Entries → Bool → List ℕ → Option Loss
first_loss table keep_local message =
    let s1 = identification message in
    let s2 = grid message in
    first_of (front_losses table keep_local s1 s2 ++ number_losses s2 (data_section message))

-- the first loss by both tables, and by what is chosen of local use
abbrev pub first_loss_with : Entries → SurfaceEntries → Local → List ℕ → Option Loss
first_loss_with table surfaces local message =
    let s1 = identification message in
    let s2 = grid message in
    first_of (chosen_losses table surfaces local s1 s2 ++ number_losses s2 (data_section message))
