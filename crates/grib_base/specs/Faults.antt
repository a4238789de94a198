-- Why something was not read.
use Rattle.std.specs.Prelude.{◌≡◌, Option, Some, None, Result, MatchResult}
use Rattle.grib_base.specs.declared.fault.Fault.{Fault}
use Rattle.grib_base.specs.declared.fault.ReadFault.{ReadFault}
use Rattle.grib_base.specs.declared.fault.ReadFault.TheVariants.{Refused, Memory}

-- the refusal of the first rule that fails; where there is no memory, nothing is said of the rules
abbrev pub IsReadFault : Option Fault → ReadFault → Type 0
IsReadFault expected (Refused fault) = expected ≡ Some fault
IsReadFault expected Memory = Unit {0}

-- rules were tried: none fails, or the refusal is that of the first that fails
abbrev pub AreTried : {A : Type 0} → Option Fault → Result A ReadFault → Type 0
AreTried expected result = MatchResult result (λ _. expected ≡ None) (IsReadFault expected)
