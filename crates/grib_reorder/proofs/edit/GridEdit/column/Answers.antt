use Rattle.std.proofs.Common.{◌≡◌, ℕ, ◌*◌, None, sym, ap₂, ◌∙◌, subst}
use Rattle.grib_base.specs.declared.profile.Profile.TheVariants.{Stated}
use Rattle.grib_rescan.proofs.Uncaused.{can_be_cut, can_be_rescanned, has_within}
use Rattle.grib_reorder.specs.declared.edit.GridEdit.{GridEdit}
use Rattle.grib_reorder.specs.Rescanned.{Stands, cause_of}
use Rattle.grib_reorder.proofs.Grids.{box_of}
use Rattle.grib_reorder.proofs.edit.GridEdit.column.Goals as goal

pub rescan_column-requires : goal.rescan_column-requires
rescan_column-requires c =
    let s = c.args.section3.now in
    let uncaused = subst (λ (edit : GridEdit). cause_of edit s ≡ None) c.in-Rescan.is c.requires.uncaused in
    let is = can_be_rescanned Stated s c.requires.accepted uncaused in
    c.requires.length ∙ sym is.product ∙ sym (ap₂ (λ (a b : ℕ). a * b) c.u32_at-ni.ensures c.u32_at-nj.ensures)

pub crop_column-requires-clause-length : goal.crop_column-requires-clause-length
crop_column-requires-clause-length c =
    let s = c.args.section3.now in
    let uncaused = subst (λ (edit : GridEdit). cause_of edit s ≡ None) c.in-Crop.is c.requires.uncaused in
    let can = can_be_cut Stated c.in-Crop.area s c.requires.accepted uncaused in
    c.requires.length ∙ sym can.lat_lon.product ∙ sym (ap₂ (λ (a b : ℕ). a * b) c.u32_at-ni.ensures c.u32_at-nj.ensures)

pub crop_column-requires-clause-within : goal.crop_column-requires-clause-within
crop_column-requires-clause-within c =
    let s = c.args.section3.now in
    let stands = subst Stands c.in-Crop.is c.requires.stands in
    let uncaused = subst (λ (edit : GridEdit). cause_of edit s ≡ None) c.in-Crop.is c.requires.uncaused in
    let can = can_be_cut Stated c.in-Crop.area s c.requires.accepted uncaused in
    let box = box_of c.in-Crop.area s stands can in
    rw (c.u32_at-ni.ensures, c.u32_at-nj.ensures) box

pub crop_column-requires-in-Within-clause-length : goal.crop_column-requires-in-Within-clause-length
crop_column-requires-in-Within-clause-length c =
    let s = c.args.section3.now in
    let uncaused = subst (λ (edit : GridEdit). cause_of edit s ≡ None) c.in-Within.is c.requires.uncaused in
    let has = has_within Stated c.in-Within.bounds s c.requires.accepted uncaused in
    c.requires.length ∙ sym has.lat_lon.product ∙ sym (ap₂ (λ (a b : ℕ). a * b) c.u32_at-ni.ensures c.u32_at-nj.ensures)

pub crop_column-requires-in-Within-clause-within : goal.crop_column-requires-in-Within-clause-within
crop_column-requires-in-Within-clause-within c =
    let s = c.args.section3.now in
    let uncaused = subst (λ (edit : GridEdit). cause_of edit s ≡ None) c.in-Within.is c.requires.uncaused in
    let has = has_within Stated c.in-Within.bounds s c.requires.accepted uncaused in
    rw (c.found.ensures, c.u32_at-ni.ensures, c.u32_at-nj.ensures) has.box

pub found-requires : goal.found-requires
found-requires c =
    let s = c.args.section3.now in
    has_within Stated c.in-Within.bounds s c.requires.accepted (subst (λ (edit : GridEdit). cause_of edit s ≡ None) c.in-Within.is c.requires.uncaused)
