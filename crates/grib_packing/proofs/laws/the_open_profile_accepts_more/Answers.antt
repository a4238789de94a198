use Rattle.std.proofs.Common.{sym, ◌∙◌}
use Rattle.grib_base.specs.declared.profile.Profile.TheVariants.{Stated, Open}
use Rattle.grib_packing.proofs.OpaquePackings.{opened_under, stated_under}
use Rattle.grib_packing.proofs.laws.the_open_profile_accepts_more.Goals as goal

pub returns-clause-accepts : goal.returns-clause-accepts
returns-clause-accepts c = λ s points none. opened_under Open s points none

pub returns-clause-same : goal.returns-clause-same
returns-clause-same c = λ s points stated. stated_under Open s points stated ∙ sym (stated_under Stated s points stated)
