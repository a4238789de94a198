-- What the verdict on a message says of one that was not read.
use Rattle.std.specs.Prelude.{◌≡◌}
use Rattle.grib_base.specs.declared.fault.ReadFault.{ReadFault}
use Rattle.grib_base.specs.declared.fault.ReadFault.TheVariants.{Refused, Memory}
use Rattle.grib2_sections.specs.Verdict as verdicts
use Rattle.grib2_sections.specs.Verdict.{Verdict}

-- a refusal is the one of the verdict; where there is no memory, nothing is said of it
abbrev pub IsVerdict : Verdict → ReadFault → Type 0
IsVerdict verdict (Refused fault) = verdict ≡ verdicts.Refused fault
IsVerdict verdict Memory = Unit {0}
