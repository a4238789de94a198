-- What a verdict says of its refusal.
use Rattle.std.proofs.Common.{◌≡◌, ℕ, Option, Some, None, refl}
use Rattle.grib_base.specs.declared.fault.Fault.{Fault}
use Rattle.grib2_sections.specs.Verdict.{Accepted, Refused}
use Rattle.grib1_sections.specs.Acceptance.{verdict_by}

pub accepted_none : (fault : Option Fault) (stated total : ℕ) → verdict_by fault stated ≡ Accepted total → (fault ≡ None) × (stated ≡ total)
accepted_none (Some fault) stated total e = cc
accepted_none None stated total e = (refl, cc)

pub none_accepted : (fault : Option Fault) (stated : ℕ) → fault ≡ None → verdict_by fault stated ≡ Accepted stated
none_accepted fault stated e = rw e

pub refused_some : (found : Option Fault) (stated : ℕ) (fault : Fault) → verdict_by found stated ≡ Refused fault → found ≡ Some fault
refused_some (Some found) stated fault e = cc
refused_some None stated fault e = cc

pub some_refused : (found : Option Fault) (stated : ℕ) (fault : Fault) → found ≡ Some fault → verdict_by found stated ≡ Refused fault
some_refused found stated fault e = rw e
