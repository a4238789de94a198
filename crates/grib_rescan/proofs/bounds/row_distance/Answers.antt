use Rattle.std.proofs.Common.{◌^◌, ◌<◌, ℤ, nat_abs, subst, sym, ◌∙◌, w64, SFits, to_z-of_z}
use Rattle.grib_bits.proofs.OctetNumbers.{AreOctets-known}
use Rattle.grib_rescan.proofs.Corners.{latitude-small}
use Rattle.grib_rescan.proofs.bounds.row_distance.Goals as goal

pub distance_from-requires : goal.distance_from-requires
distance_from-requires c =
    let s = c.args.section.now in
    let fits : SFits w64 c.latitude.result = record { sfits = c.latitude.type_inv } in
    subst (λ (z : ℤ). nat_abs z < 2 ^ 31) (sym (to_z-of_z fits ∙ c.latitude.ensures))
    (latitude-small s c.args.row (AreOctets-known s c.type_inv.section) c.requires.grid c.requires.row c.requires.steps)
