-- What is known while Section 3 is written, for private functions.
use Rattle.std.specs.Prelude.{◌≡◌, ℕ, Option, Some, None, List, ◌++◌, Result, Ok, Err}
use Rattle.grib_bits.specs.declared.adding.Number.{Number}
use Rattle.grib_bits.specs.Encoding.{all_octets}
use Rattle.grib_reasons.specs.declared.loss.Loss.{Loss}
use Rattle.grib_migrate.specs.declared.loss.MigrateFault.{MigrateFault}
use Rattle.grib_migrate.specs.Answered.{IsMigrateFault}

-- these are the numbers, where none of them is lost
abbrev pub AreNumbers : Result (List Number) Loss → Option Loss → List Number → Type 0
AreNumbers (Ok found) loss numbers = (loss ≡ None) × (found ≡ numbers)
AreNumbers (Err found) loss numbers = loss ≡ Some found

-- these numbers were added, where no number is lost
abbrev pub IsGridPart : Result (Unit {0}) MigrateFault → Option Loss → List ℕ → List ℕ → List Number → Type 0
IsGridPart (Ok _) loss old new numbers = (loss ≡ None) × (new ≡ old ++ all_octets numbers)
IsGridPart (Err fault) loss old new numbers = IsMigrateFault loss fault
