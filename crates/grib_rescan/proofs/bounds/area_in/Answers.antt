use Rattle.std.proofs.Common.{ℕ, ℤ, Some, sym, ap, ap₂, ◌∙◌, FitsSigned, w32, to_z, of_z, to_z-of_z, rules}
use Rattle.grib_rescan.specs.declared.bounds.Bounds.{Bounds}
use Rattle.grib_rescan.specs.declared.bounds.Bounds.TheVariants.{Box, Nearest}
use Rattle.grib_rescan.specs.Bounds.{area_in, point_of}
use Rattle.grib_rescan.proofs.bounds.area_in.Goals as goal

pub returns-in-Nearest : goal.returns-in-Nearest
returns-in-Nearest c =
    let s = c.args.section.now in
    let latitude : FitsSigned w32 c.in-Nearest.latitude = search rules in
    let longitude : FitsSigned w32 c.in-Nearest.longitude = search rules in
    ap₂ (λ (i j : ℕ). Some (point_of i j)) c.nearest_column-i.ensures c.nearest_row-j.ensures
    ∙ ap₂ (λ (a o : ℤ). area_in (Nearest a o) s) (to_z-of_z latitude) (to_z-of_z longitude)
    ∙ ap (λ (bounds : Bounds). area_in bounds s) (sym c.in-Nearest.is)

pub returns-in-Box : goal.returns-in-Box
returns-in-Box c =
    let s = c.args.section.now in
    let north : FitsSigned w32 c.in-Box.north = search rules in
    let south : FitsSigned w32 c.in-Box.south = search rules in
    let west : FitsSigned w32 c.in-Box.west = search rules in
    let east : FitsSigned w32 c.in-Box.east = search rules in
    c.box_in.ensures
    ∙ ap₂ (λ (n l : ℤ). area_in (Box n l (to_z w32 (of_z w32 c.in-Box.west)) (to_z w32 (of_z w32 c.in-Box.east))) s) (to_z-of_z north) (to_z-of_z south)
    ∙ ap₂ (λ (w e : ℤ). area_in (Box c.in-Box.north c.in-Box.south w e) s) (to_z-of_z west) (to_z-of_z east)
    ∙ ap (λ (bounds : Bounds). area_in bounds s) (sym c.in-Box.is)
