-- What comes of a message that is not changed.
use Rattle.std.specs.Prelude.{◌≡◌, ℕ, Some}
use Rattle.std.specs.declared.option.Option.{Option}
use Rattle.grib_reasons.specs.declared.cause.Cause.{Cause}
use Rattle.grib_reasons.specs.declared.cause.Cause.TheVariants as causes
use Rattle.grib_repack.specs.declared.fault.RepackFault.{RepackFault}
use Rattle.grib_repack.specs.declared.fault.RepackFault.TheVariants as faults
use Rattle.grib_migrate.specs.declared.loss.MigrateFault.{MigrateFault}
use Rattle.grib_migrate.specs.declared.loss.MigrateFault.TheVariants as unmigrated
use Rattle.grib_demote.specs.declared.demotion.DemoteFault.{DemoteFault}
use Rattle.grib_demote.specs.declared.demotion.DemoteFault.TheVariants as undemoted
use Rattle.grib_select.specs.declared.changing.SetFault.{SetFault}
use Rattle.grib_select.specs.declared.changing.SetFault.TheVariants as unset
use Rattle.grib1_select.specs.declared.changing.SetFault1.{SetFault1}
use Rattle.grib1_select.specs.declared.changing.SetFault1.TheVariants as unset1
use Rattle.grib_command.specs.declared.answered.Answered.{Answered}
use Rattle.grib_command.specs.declared.answered.Answered.TheVariants.{Whole, Kept, WriteFault, ShelfFault, Memory}

-- what comes of a message that is not repacked
abbrev pub answered_by : RepackFault → Answered
answered_by (faults.SecondaryMissing field point) = Kept (causes.SecondaryMissing field point)
answered_by (faults.OutOfRange field point) = Kept (causes.OutOfRange field point)
answered_by (faults.DifferenceRange field) = Kept (causes.DifferenceRange field)
answered_by (faults.OutputTooLong length) = Kept (causes.OutputTooLong length)
answered_by faults.Memory = Memory

-- what comes of a message in which no key is set
abbrev pub answered_unset : SetFault → Answered
answered_unset (unset.KeyRange key) = Kept (causes.KeyRange key)
answered_unset (unset.KeyAbsent field key) = Kept (causes.KeyAbsent field key)
answered_unset unset.Memory = Memory

-- what comes of a message of edition 1 in which no key is set
abbrev pub answered_unset1 : SetFault1 → Answered
answered_unset1 (unset1.KeyRange key) = Kept (causes.KeyRange1 key)
answered_unset1 unset1.Memory = Memory

-- what comes of a message that is not migrated
abbrev pub answered_lost : MigrateFault → Answered
answered_lost (unmigrated.Lost loss) = Kept (causes.Lost loss)
answered_lost unmigrated.Memory = Memory

-- what comes of a message of which this field is not demoted
abbrev pub answered_undemoted : ℕ → DemoteFault → Answered
answered_undemoted field (undemoted.Lost loss) = Kept (causes.Demoted field loss)
answered_undemoted field undemoted.Memory = Memory

-- a message with this cause is kept by it, or there was no memory
abbrev pub IsKept : Option Cause → Answered → Type 0
IsKept cause (Whole written) = ⊥
IsKept cause (Kept own) = cause ≡ Some own
IsKept cause WriteFault = ⊥
IsKept cause ShelfFault = ⊥
IsKept cause Memory = Unit {0}
