-- Why a message was not migrated.
use Rattle.std.specs.Prelude.{◌≡◌, Option, Some}
use Rattle.grib_reasons.specs.declared.loss.Loss.{Loss}
use Rattle.grib_migrate.specs.declared.loss.MigrateFault.{MigrateFault}
use Rattle.grib_migrate.specs.declared.loss.MigrateFault.TheVariants.{Lost, Memory}

-- the first loss; that there is no memory says nothing of it
abbrev pub IsMigrateFault : Option Loss → MigrateFault → Type 0
IsMigrateFault expected (Lost loss) = expected ≡ Some loss
IsMigrateFault expected Memory = Unit {0}
