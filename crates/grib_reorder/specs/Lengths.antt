-- What a Section 3 becomes is as long as it was.
use Rattle.std.specs.Prelude.{◌≡◌, ℕ, None, List, length}
use Rattle.grib_bits.specs.Octets.{octets}
use Rattle.grib_base.specs.Rules.{first_fault}
use Rattle.grib_base.specs.declared.profile.Profile.TheVariants.{Stated}
use Rattle.grib2_grids.specs.Grid.{grid_rules}
use Rattle.grib_rescan.specs.Scanning.{scanning_of}
use Rattle.grib_rescan.specs.Bounds.{area_within}
use Rattle.grib_rescan.proofs.Kept.{rescanned-length, box-length}
use Rattle.grib_rescan.proofs.Uncaused.{can_be_rescanned, can_be_cut, has_within}
use Rattle.grib_reorder.specs.declared.edit.GridEdit.{GridEdit}
use Rattle.grib_reorder.specs.declared.edit.GridEdit.TheVariants.{Rescan, Crop, Within}
use Rattle.grib_reorder.specs.Rescanned.{Stands, cause_of, section_of}

pub as_long : (edit : GridEdit) (s : List ℕ) → Stands edit × (first_fault (grid_rules s) ≡ None) × (cause_of edit s ≡ None) → length (section_of edit s) ≡ length s
as_long Rescan s h =
    let is = can_be_rescanned Stated s h.1 h.2 in
    let order = scanning_of (octets s 72 72) in
    rescanned-length s is.long order.northward order.westward
as_long (Crop area) s h = box-length area s (can_be_cut Stated area s h.1 h.2).lat_lon.long
as_long (Within bounds) s h = box-length (area_within bounds s) s (has_within Stated bounds s h.1 h.2).lat_lon.long
