-- A message in another packing or another edition, and why there is none.
use Rattle.std.specs.Prelude.{◌≡◌, ℕ, false, None, List}
use Rattle.grib_packing.specs.Written.{IsTarget}
use Rattle.grib_repack.specs.Repacked.{repacked, repack_misfit}
use Rattle.grib_packing.specs.Targets.{target_of}
use Rattle.grib_repack.specs.Faults.{IsRepackFault}
use Rattle.grib_packing.specs.declared.target.RepackTarget.{RepackTarget}
use Rattle.grib_params.specs.Table.{Entries}
use Rattle.grib_migrate.specs.Losses.{first_loss}
use Rattle.grib_migrate.specs.Migrated.{migrated}
use Rattle.grib_migrate.specs.Answered.{IsMigrateFault}
use Rattle.grib_select.specs.Single.{single_of}
use Rattle.grib_dispatch.specs.declared.reading.Held.{Held}
use Rattle.grib_dispatch.specs.declared.reading.Held.TheVariants.{One, Two}
use Rattle.grib.specs.declared.changing.RepackError.{RepackError}
use Rattle.grib.specs.declared.changing.RepackError.TheVariants as repack
use Rattle.grib.specs.declared.changing.MigrateError.{MigrateError}
use Rattle.grib.specs.declared.changing.MigrateError.TheVariants as migrate
use Rattle.grib.specs.Message.{FieldOf}

-- the octets are the message, of edition 2, in the packing of the target
abbrev pub IsRepacked : RepackTarget → Held → List ℕ → Type 0
IsRepacked target (One message) octets = ⊥
IsRepacked target (Two message) octets =
    IsTarget (target_of target) × (repack_misfit (target_of target) message ≡ None) × (octets ≡ repacked (target_of target) message)

-- and why there are none
abbrev pub IsRepackError : RepackTarget → Held → RepackError → Type 0
IsRepackError target (One message) repack.EditionOne = Unit {0}
IsRepackError target (One message) repack.NoPacking = ⊥
IsRepackError target (One message) (repack.Misfit fault) = ⊥
IsRepackError target (Two message) repack.EditionOne = ⊥
IsRepackError target (Two message) repack.NoPacking = IsTarget (target_of target) → ⊥
IsRepackError target (Two message) (repack.Misfit fault) = IsTarget (target_of target) × IsRepackFault (repack_misfit (target_of target) message) fault

-- a field alone
abbrev pub alone_in : Held → ℕ → Held
alone_in (One message) number = One message
alone_in (Two message) number = Two (single_of message number)

abbrev pub alone : FieldOf → Held
alone field = alone_in field.message field.number

-- the octets are the message, of edition 1, as one of edition 2
abbrev pub IsMigrated : Entries → Held → List ℕ → Type 0
IsMigrated table (One message) octets = (first_loss table false message ≡ None) × (octets ≡ migrated table false message)
IsMigrated table (Two message) octets = ⊥

-- and why there are none
abbrev pub IsMigrateError : Entries → Held → MigrateError → Type 0
IsMigrateError table (One message) migrate.EditionTwo = ⊥
IsMigrateError table (One message) (migrate.Loss fault) = IsMigrateFault (first_loss table false message) fault
IsMigrateError table (Two message) migrate.EditionTwo = Unit {0}
IsMigrateError table (Two message) (migrate.Loss fault) = ⊥
