-- The message of edition 2 that has the values of a message of edition 1 (WMO-No. 306, Volume I.2, FM 92 GRIB).
use Rattle.std.specs.Prelude.{ℕ, ◌+◌, Bool, cond, ◌&&◌, Option, None, List, [], ◌∷◌, ◌++◌, length, unwrap_or}
use Rattle.grib_bits.specs.Encoding.{octets_of, section_of, all_octets}
use Rattle.grib2_sections.specs.Head.{indicator, end_mark}
use Rattle.grib_params.specs.Surfaces.{SurfaceEntries}
use Rattle.grib_params.specs.Table.{Entries}
use Rattle.grib_params.specs.declared.row.Target.{Target}
use Rattle.grib1_sections.specs.Acceptance.{identification, grid, bitmap, data_section, points_of, values_of}
use Rattle.grib1_sections.specs.Coordinates.{coordinate_list}
use Rattle.grib_migrate.specs.Source.{target_of, no_target, has_local, local_octets}
use Rattle.grib_migrate.specs.Chosen.{named_in, surfaces_by, target_by}
use Rattle.grib_migrate.specs.Labels.{local_section_by, member_by}
use Rattle.grib_migrate.specs.Levels.{surfaces_of, no_surface, one_surface}
use Rattle.grib_migrate.specs.Times.{unit_of}
use Rattle.grib_migrate.specs.Grids.{grid_octets}
use Rattle.grib_migrate.specs.Products.{identification_numbers, product_octets_by}
use Rattle.grib_migrate.specs.Values.{packing_numbers, bitmap_octets, data_octets}
use Rattle.grib_migrate.specs.declared.labels.Local.{Local}
use Rattle.grib_migrate.specs.declared.labels.Member.{Member}
use Rattle.grib_migrate.specs.declared.level.Surfaces.{Surfaces}
use Rattle.grib_migrate.specs.declared.time.Unit.{Unit as UnitOfTime}

-- what stands where there is a loss
abbrev pub no_unit : UnitOfTime
no_unit = record { code = 0; seconds = 0 }

abbrev pub no_surfaces : Surfaces
no_surfaces = one_surface no_surface

-- Section 2, where the octets for the centre's own use are preserved and there are any
abbrev pub local_section : Bool → List ℕ → List ℕ
local_section keep_local s1 = cond (keep_local && has_local s1) (section_of 2 (local_octets s1)) []

-- Sections 1 to 5 of a message of edition 2, with this Section 2, [] where there is none, by Sections 1, 2 and 4 of one
-- of edition 1, with the number of points and of those that are present
abbrev pub front_sections : Target → UnitOfTime → Surfaces → Option Member → List ℕ → List ℕ → List ℕ → List ℕ → ℕ → ℕ → List ℕ
front_sections target unit surfaces member section_2 s1 s2 s4 points values =
    section_of 1 (all_octets (identification_numbers target s1))
    ++ (section_2
    ++ (section_of 3 (grid_octets points s2)
    ++ (section_of 4 (product_octets_by member target s1 (coordinate_list s2) unit surfaces)
    ++ section_of 5 (all_octets (packing_numbers s1 s4 values)))))

-- Sections 6 and 7
abbrev pub bitmap_section : Option (List ℕ) → ℕ → List ℕ
bitmap_section s3 points = section_of 6 (bitmap_octets s3 points)

abbrev pub values_section : List ℕ → ℕ → List ℕ
values_section s4 values = section_of 7 (data_octets s4 values)

-- a message of this discipline and total length, with these sections after Section 0
abbrev pub message_with : ℕ → ℕ → List ℕ → List ℕ
message_with discipline total sections =
    indicator ++ (0 ∷ 0 ∷ discipline ∷ 2 ∷ octets_of 8 total ++ (sections ++ end_mark))

-- the message with these Sections 1 to 5, by Sections 3 and 4 of edition 1; its total length counts Section 0 and
-- the End Section too
abbrev pub whole_message : ℕ → List ℕ → Option (List ℕ) → List ℕ → ℕ → ℕ → List ℕ
whole_message discipline front s3 s4 points values =
    let sections = front ++ (bitmap_section s3 points ++ values_section s4 values) in
    message_with discipline (16 + length sections + 4) sections

-- the message of edition 2 with this parameter, these fixed surfaces, this member of an ensemble
-- and this Section 2
abbrev pub migrated_by : Target → Surfaces → Option Member → List ℕ → List ℕ → List ℕ
migrated_by target surfaces member section_2 message =
    let s1 = identification message in
    let s4 = data_section message in
    let unit = unwrap_or (unit_of s1) no_unit in
    let points = points_of message in
    let values = values_of message in
    whole_message target.discipline
    (front_sections target unit surfaces member section_2 s1 (grid message) s4 points values)
    (bitmap message) s4 points values

-- the message of edition 2, where there is no loss
abbrev pub migrated : Entries → Bool → List ℕ → List ℕ
migrated table keep_local message =
    let s1 = identification message in
    migrated_by (target_of table s1) (unwrap_or (surfaces_of s1) no_surfaces) None (local_section keep_local s1) message

-- by both tables, and by what is chosen of local use
abbrev pub migrated_with : Entries → SurfaceEntries → Local → List ℕ → List ℕ
migrated_with table surfaces local message =
    let s1 = identification message in
    let named = named_in surfaces s1 in
    migrated_by (unwrap_or (target_by table named s1) no_target) (unwrap_or (surfaces_by named s1) no_surfaces)
    (member_by local s1) (local_section_by local s1) message
