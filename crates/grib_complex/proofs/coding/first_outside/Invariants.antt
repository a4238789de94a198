use Rattle.std.proofs.Common.{◌≡◌, drop}
use Rattle.grib_base.specs.Rules.{first_place}
use Rattle.grib_packing.specs.Misfits.{is_scaled_outside}
use Rattle.grib_simple.specs.Survey.{place_after}
use Rattle.grib_complex.proofs.coding.first_outside.Given as goal

abbrev pub invariant-loop-index : goal.invariant-loop-index
invariant-loop-index l = place_after 0 l.index (is_scaled_outside l.greatest) (drop l.index l.points) ≡ first_place (is_scaled_outside l.greatest) l.points
