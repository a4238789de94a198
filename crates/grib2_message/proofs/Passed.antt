-- What follows a verdict that accepts.
use Rattle.std.proofs.Common.{◌≡◌, ℕ, Bool, true, false, ◌⊎◌, Option, Some, None, refl, inl, inr}
use Rattle.grib_base.specs.declared.fault.Fault.{Fault}
use Rattle.grib_base.specs.Rules.{choose}
pub use Rattle.grib_base.proofs.Passing.{AllPass, passes_from_none, none_from_passes}
use Rattle.grib2_sections.specs.Verdict.{Verdict, Accepted}
use Rattle.grib2_message.specs.Acceptance.{unless_refused}

-- what comes after a place that does not refuse is accepted
pub unless_tells : (fault : Option Fault) (next : Unit {0} → Verdict) (total : ℕ) → unless_refused fault next ≡ Accepted total
    → (fault ≡ None) × (next tt ≡ Accepted total)
unless_tells (Some fault) next total e = cc
unless_tells None next total e = (refl, e)

-- what is said at a place: refused, or accepted where the message ends there, or whatever comes after
abbrev pub at_mark : Option Fault → Bool → ℕ → (Unit {0} → Verdict) → Verdict
at_mark fault ends total next = unless_refused fault (λ _. choose ends (λ _. Accepted total) next)

-- an End Section ends what is accepted; elsewhere what comes after is accepted
pub mark_tells : (fault : Option Fault) (ends : Bool) (stated : ℕ) (next : Unit {0} → Verdict) (total : ℕ)
    → at_mark fault ends stated next ≡ Accepted total
    → (fault ≡ None) × (((ends ≡ true) × (stated ≡ total)) ⊎ ((ends ≡ false) × (next tt ≡ Accepted total)))
mark_tells (Some fault) ends stated next total e = cc
mark_tells None true stated next total e = (refl, inl (refl, cc))
mark_tells None false stated next total e = (refl, inr (refl, e))

-- where nothing is refused, what comes after is the verdict
pub unless_none : (fault : Option Fault) (next : Unit {0} → Verdict) → fault ≡ None → unless_refused fault next ≡ next tt
unless_none fault next e = rw e

-- an End Section that is not refused is accepted
pub mark_ends : (fault : Option Fault) (ends : Bool) (stated : ℕ) (next : Unit {0} → Verdict)
    → fault ≡ None → ends ≡ true → at_mark fault ends stated next ≡ Accepted stated
mark_ends fault ends stated next e on = rw (e, on)

-- where no End Section stands and nothing is refused, what comes after is the verdict
pub mark_goes : (fault : Option Fault) (ends : Bool) (stated : ℕ) (next : Unit {0} → Verdict)
    → fault ≡ None → ends ≡ false → at_mark fault ends stated next ≡ next tt
mark_goes fault ends stated next e off = rw (e, off)
