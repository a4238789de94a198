use Rattle.std.proofs.Common.{◌≡◌, ℕ, None, List, IfOk, sym, ap, ◌∙◌, subst}
use Rattle.grib_base.specs.declared.profile.Profile.TheVariants.{Stated}
use Rattle.grib_rescan.specs.declared.points.Area.{Area}
use Rattle.grib_rescan.specs.Sections.{cropped_section}
use Rattle.grib_rescan.proofs.Uncaused.{can_be_cut, has_within, has_points}
use Rattle.grib_reorder.specs.declared.edit.GridEdit.{GridEdit}
use Rattle.grib_reorder.specs.Rescanned.{Stands, cause_of, section_of}
use Rattle.grib_reorder.proofs.Grids.{box_of}
use Rattle.grib_reorder.proofs.edit.GridEdit.section.Goals as goal

pub crop_section-requires-clause-grid : goal.crop_section-requires-clause-grid
crop_section-requires-clause-grid c =
    let s = c.args.section3.now in
    let uncaused = subst (λ (edit : GridEdit). cause_of edit s ≡ None) c.in-Crop.is c.requires.uncaused in
    has_points s (can_be_cut Stated c.in-Crop.area s c.requires.accepted uncaused).lat_lon

pub crop_section-requires-clause-area : goal.crop_section-requires-clause-area
crop_section-requires-clause-area c =
    let s = c.args.section3.now in
    let uncaused = subst (λ (edit : GridEdit). cause_of edit s ≡ None) c.in-Crop.is c.requires.uncaused in
    box_of c.in-Crop.area s (subst Stands c.in-Crop.is c.requires.stands) (can_be_cut Stated c.in-Crop.area s c.requires.accepted uncaused)

pub crop_section-requires-clause-steps : goal.crop_section-requires-clause-steps
crop_section-requires-clause-steps c =
    let s = c.args.section3.now in
    let uncaused = subst (λ (edit : GridEdit). cause_of edit s ≡ None) c.in-Crop.is c.requires.uncaused in
    (can_be_cut Stated c.in-Crop.area s c.requires.accepted uncaused).steps

pub found-requires : goal.found-requires
found-requires c =
    let s = c.args.section3.now in
    has_within Stated c.in-Within.bounds s c.requires.accepted (subst (λ (edit : GridEdit). cause_of edit s ≡ None) c.in-Within.is c.requires.uncaused)

pub crop_section-requires-in-Within-clause-grid : goal.crop_section-requires-in-Within-clause-grid
crop_section-requires-in-Within-clause-grid c =
    let s = c.args.section3.now in
    let uncaused = subst (λ (edit : GridEdit). cause_of edit s ≡ None) c.in-Within.is c.requires.uncaused in
    has_points s (has_within Stated c.in-Within.bounds s c.requires.accepted uncaused).lat_lon

pub crop_section-requires-in-Within-clause-area : goal.crop_section-requires-in-Within-clause-area
crop_section-requires-in-Within-clause-area c =
    let s = c.args.section3.now in
    let uncaused = subst (λ (edit : GridEdit). cause_of edit s ≡ None) c.in-Within.is c.requires.uncaused in
    rw c.found.ensures (has_within Stated c.in-Within.bounds s c.requires.accepted uncaused).box

pub crop_section-requires-in-Within-clause-steps : goal.crop_section-requires-in-Within-clause-steps
crop_section-requires-in-Within-clause-steps c =
    let s = c.args.section3.now in
    let uncaused = subst (λ (edit : GridEdit). cause_of edit s ≡ None) c.in-Within.is c.requires.uncaused in
    (has_within Stated c.in-Within.bounds s c.requires.accepted uncaused).steps

pub returns-in-Within : goal.returns-in-Within
returns-in-Within c =
    let s = c.args.section3.now in
    let same : cropped_section c.found.result s ≡ section_of c.args.self.now s =
    ap (λ (area : Area). cropped_section area s) c.found.ensures ∙ ap (λ (edit : GridEdit). section_of edit s) (sym c.in-Within.is) in
    subst (λ (t : List ℕ). IfOk c.crop_section-in-Within.result (λ new. new.items ≡ t)) same c.crop_section-in-Within.ensures
