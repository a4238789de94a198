-- Why a field was not demoted.
use Rattle.std.specs.Prelude.{◌≡◌, Option, Some}
use Rattle.grib_reasons.specs.declared.demotion.Demotion.{Demotion}
use Rattle.grib_demote.specs.declared.demotion.DemoteFault.{DemoteFault}
use Rattle.grib_demote.specs.declared.demotion.DemoteFault.TheVariants.{Lost, Memory}

-- the first loss; that there is no memory says nothing of it
abbrev pub IsDemoteFault : Option Demotion → DemoteFault → Type 0
IsDemoteFault expected (Lost loss) = expected ≡ Some loss
IsDemoteFault expected Memory = Unit {0}
