-- The form of a field found from the last of its forms to the first, for private functions.
use Rattle.std.specs.Prelude.{ℕ, cond, Option, Some, None, List, [], ◌∷◌, nat_lt}
use Rattle.grib_base.specs.declared.profile.Profile.{Profile}
use Rattle.grib_base.specs.declared.profile.Profile.TheVariants.{Stated, Open}
use Rattle.grib_packing.specs.declared.written.Packed.{Packed}
use Rattle.grib_packing.specs.declared.target.RepackTarget.{RepackTarget}
use Rattle.grib_packing.specs.declared.target.RepackTarget.TheVariants.{Simple, Complex, Spatial, Coded}
use Rattle.grib_least.specs.Least.{size_of, smaller}

-- the packings that a profile has, from the last to the first
abbrev pub trials : Profile → List RepackTarget
trials Stated = Spatial 2 ∷ Spatial 1 ∷ Complex ∷ Simple ∷ []
trials Open = Coded 64 128 ∷ Coded 32 128 ∷ Coded 16 128 ∷ Coded 8 128 ∷ Spatial 2 ∷ Spatial 1 ∷ Complex ∷ Simple ∷ []

-- A form, or the best of its own form and those after it: the form where it has fewer octets than `limit`,
-- those of the own form, and no more than the best.
abbrev pub or_earlier : ℕ → Packed → Packed → Packed
or_earlier limit form best = cond (nat_lt (size_of form) limit) (smaller form best) best

-- the best alone where something fails to fit
abbrev pub or_form : ℕ → Option Packed → Packed → Packed
or_form limit (Some form) best = or_earlier limit form best
or_form limit None best = best
