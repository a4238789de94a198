-- What a Section 3 becomes.
use Rattle.std.proofs.Common.{◌≡◌, ℕ, ◌<◌, ◌≤◌, None, List, length, inl, ap, sym, ◌∙◌, arith}
use Rattle.grib_bits.specs.Octets.{octets, octet_list, num_on}
use Rattle.grib_base.specs.Rules.{first_fault}
use Rattle.grib_base.specs.declared.profile.Profile.{Profile}
use Rattle.grib_base.specs.declared.profile.Profile.TheVariants.{Stated}
use Rattle.grib2_grids.specs.Grid.{grid_rules, grid_points}
use Rattle.grib2_grids.specs.Opaque.{grid_rules_under}
use Rattle.grib2_grids.proofs.Under.{grid_accepted}
use Rattle.grib_packing.specs.declared.column.Column.{Column}
use Rattle.grib2_message.specs.Assembled.{IsGridUnder}
use Rattle.grib_rescan.specs.declared.points.Area.{Area}
use Rattle.grib_rescan.specs.Scanning.{scanning_of}
use Rattle.grib_rescan.specs.Points.{IsBox, width, height, cropped_points}
use Rattle.grib_rescan.specs.Sections.{IsLatLon, rescanned_section, cropped_section}
use Rattle.grib_rescan.specs.Bounds.{area_within}
use Rattle.grib_rescan.specs.Causes.{CanBeCut}
use Rattle.grib_rescan.proofs.Kept.{as_before, box-points, box-elsewhere}
use Rattle.grib_rescan.proofs.Rows.{rescanned_length, box_length}
use Rattle.grib_rescan.proofs.Accepted.{accepted, rescanned, cropped, has_size}
use Rattle.grib_rescan.proofs.Uncaused.{can_be_rescanned, can_be_cut, has_within}
use Rattle.grib_reorder.specs.declared.edit.GridEdit.{GridEdit}
use Rattle.grib_reorder.specs.declared.edit.GridEdit.TheVariants.{Rescan, Crop, Within}
use Rattle.grib_reorder.specs.Lengths.{as_long}
use Rattle.grib_reorder.specs.Rescanned.{Stands, cause_of, section_of, new_column}

-- the box lies in the grid
pub box_of : (area : Area) (s : List ℕ) → (area.i0 ≤ area.i1) × (area.j0 ≤ area.j1) → CanBeCut area s → IsBox area (octets s 31 34) (octets s 35 38)
box_of area s stands can =
    let columns = stands.0 in
    record {
      columns = columns;
      rows = stands.1;
      first_column = omega (arith, columns, can.last_column);
      last_column = omega (arith, can.last_column);
      last_row = can.last_row;
    }

-- a grid that is edited is one of latitude and longitude
pub lat_lon_of : (edit : GridEdit) (s : List ℕ) → first_fault (grid_rules s) ≡ None → cause_of edit s ≡ None → IsLatLon s
lat_lon_of Rescan s none uncaused = can_be_rescanned Stated s none uncaused
lat_lon_of (Crop area) s none uncaused = (can_be_cut Stated area s none uncaused).lat_lon
lat_lon_of (Within bounds) s none uncaused = (has_within Stated bounds s none uncaused).lat_lon

-- its Section 3 passes the rules of the stated grids, whatever profile it passes
pub stated_rules : (edit : GridEdit) (profile : Profile) (s : List ℕ) → first_fault (grid_rules_under profile s) ≡ None → cause_of edit s ≡ None → first_fault (grid_rules s) ≡ None
stated_rules Rescan profile s none uncaused = accepted s (can_be_rescanned profile s none uncaused)
stated_rules (Crop area) profile s none uncaused = accepted s (can_be_cut profile area s none uncaused).lat_lon
stated_rules (Within bounds) profile s none uncaused = accepted s (has_within profile bounds s none uncaused).lat_lon

number : (s t : List ℕ) (first last : ℕ) → octet_list s first last ≡ octet_list t first last → octets s first last ≡ octets t first last
number s t first last same = ap (num_on 0) same

-- the octets of the head stay
module _ (s : List ℕ) (is : IsLatLon s) where
  pub rescanned_head : (first last : ℕ) → 1 ≤ first → last < 47 → octets (rescanned_section s) first last ≡ octets s first last
  rescanned_head first last some before =
      let order = scanning_of (octets s 72 72) in
      number (rescanned_section s) s first last
      (as_before s is.long order.northward order.westward first last some (inl before) (inl (omega (arith, before))) (inl (omega (arith, before))))

  pub cropped_head : (area : Area) (first last : ℕ) → 1 ≤ first → last < 7 → octets (cropped_section area s) first last ≡ octets s first last
  cropped_head area first last some before =
      number (cropped_section area s) s first last
      (box-elsewhere area s is.long first last some (inl before) (inl (omega (arith, before))) (inl (omega (arith, before))) (inl (omega (arith, before))))

-- no rule refuses it
pub new_rules : (edit : GridEdit) (s : List ℕ) → Stands edit → first_fault (grid_rules s) ≡ None → cause_of edit s ≡ None → first_fault (grid_rules (section_of edit s)) ≡ None
new_rules Rescan s stands none uncaused = accepted (rescanned_section s) (rescanned s (can_be_rescanned Stated s none uncaused))
new_rules (Crop area) s stands none uncaused =
    let can = can_be_cut Stated area s none uncaused in
    accepted (cropped_section area s) (cropped area s can.lat_lon (box_of area s stands can))
new_rules (Within bounds) s stands none uncaused =
    let has = has_within Stated bounds s none uncaused in
    let area = area_within bounds s in
    accepted (cropped_section area s) (cropped area s has.lat_lon has.box)

new_head : (edit : GridEdit) (s : List ℕ) → first_fault (grid_rules s) ≡ None → cause_of edit s ≡ None → (first last : ℕ) → 1 ≤ first → last < 7
    → octets (section_of edit s) first last ≡ octets s first last
new_head Rescan s none uncaused first last some before = rescanned_head s (can_be_rescanned Stated s none uncaused) first last some (omega (arith, before))
new_head (Crop area) s none uncaused first last some before = cropped_head s (can_be_cut Stated area s none uncaused).lat_lon area first last some before
new_head (Within bounds) s none uncaused first last some before =
    cropped_head s (has_within Stated bounds s none uncaused).lat_lon (area_within bounds s) first last some before

pub new_grid : (profile : Profile) (edit : GridEdit) (s : List ℕ) → Stands edit → cause_of edit s ≡ None → IsGridUnder profile s → IsGridUnder profile (section_of edit s)
new_grid profile edit s stands uncaused grid =
    let stated = stated_rules edit profile s grid.rules uncaused in
    let size = as_long edit s (stands, stated, uncaused) in
    record {
      itself = record {
        length_stands = new_head edit s stated uncaused 1 4 (omega arith) (omega arith) ∙ grid.itself.length_stands ∙ sym size;
        least = omega (arith, size, grid.itself.least);
        number_stands = new_head edit s stated uncaused 5 5 (omega arith) (omega arith) ∙ grid.itself.number_stands;
      };
      rules = grid_accepted profile (section_of edit s) (new_rules edit s stands stated uncaused);
    }

cropped_points_of : (area : Area) (s : List ℕ) (column : Column) → IsLatLon s → IsBox area (octets s 31 34) (octets s 35 38)
    → length (cropped_points area (octets s 31 34) (octets s 35 38) column.points) ≡ grid_points (cropped_section area s)
cropped_points_of area s column is box =
    let size = has_size area s is box in
    box_length (octets s 31 34) (octets s 35 38) column.points area.i0 (width area) area.j0 (height area)
    ∙ sym (box-points area s is.long (omega (arith, size.few)))

-- a new column has one entry for each of its points
pub new_points : (edit : GridEdit) (s : List ℕ) (column : Column) → Stands edit → first_fault (grid_rules s) ≡ None → cause_of edit s ≡ None
    → length (new_column edit s column).points ≡ grid_points (section_of edit s)
new_points Rescan s column stands none uncaused =
    let is = can_be_rescanned Stated s none uncaused in
    rescanned_length (scanning_of (octets s 72 72)) (octets s 31 34) (octets s 35 38) column.points ∙ is.product
    ∙ sym (rescanned_head s is 7 10 (omega arith) (omega arith))
new_points (Crop area) s column stands none uncaused =
    let can = can_be_cut Stated area s none uncaused in
    cropped_points_of area s column can.lat_lon (box_of area s stands can)
new_points (Within bounds) s column stands none uncaused =
    let has = has_within Stated bounds s none uncaused in
    cropped_points_of (area_within bounds s) s column has.lat_lon has.box
