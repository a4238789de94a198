-- What decides acceptance: rules that are tried in their order, as the tables of docs/PROFILE.md list
-- them. The first rule whose test holds gives the refusal. The rules of a section count its octets from 1,
-- and the place of the section is added once.
use Rattle.std.specs.Prelude.{ℕ, zero, suc, Bool, true, false, cond, Option, Some, None, option_map, List, [], ◌∷◌, ◌+◌, ◌-◌, position}
use Rattle.std.specs.Option.{option_map_or}
use Rattle.grib_base.specs.declared.fault.Fault.{Fault}
use Rattle.grib_base.specs.declared.fault.Reason.{Reason}

-- a refusal at this octet, for this reason, with this detail
abbrev pub refusal : ℕ → Reason → ℕ → Fault
refusal octet reason detail = record { octet = octet; reason = reason; detail = detail }

-- a test, and the refusal that it gives where it holds
pub record Rule : Type 0 where
  pub fails : Bool
  pub fault : Fault

abbrev pub rule : Bool → ℕ → Reason → ℕ → Rule
rule fails octet reason detail = record { fails = fails; fault = refusal octet reason detail }

-- the refusal of the first rule that fails
abbrev pub first_fault : List Rule → Option Fault
first_fault [] = None
first_fault (r ∷ rules) = cond r.fails (Some r.fault) (first_fault rules)

-- a refusal within a section that begins at octet `start` of the message, as one of the message
abbrev pub fault_at : ℕ → Fault → Fault
fault_at start fault = refusal (start + (fault.octet - 1)) fault.reason fault.detail

abbrev pub located : ℕ → Option Fault → Option Fault
located start fault = option_map (fault_at start) fault

-- the refusal of the first rule of such a section that fails
abbrev pub first_fault_at : ℕ → List Rule → Option Fault
first_fault_at start rules = located start (first_fault rules)

-- the rules of the second list are tried only where no rule of the first fails
abbrev pub or_then : Option Fault → (Unit {0} → List Rule) → Option Fault
or_then (Some fault) later = Some fault
or_then None later = first_fault (later tt)

-- a choice of which only one side is computed
abbrev pub choose : {A : Type 0} → Bool → (Unit {0} → A) → (Unit {0} → A) → A
choose true here there = here tt
choose false here there = there tt

-- what is found, else what is looked for later, and not looked for elsewhere
abbrev pub or_later : {A : Type 0} → Option A → (Unit {0} → Option A) → Option A
or_later (Some found) later = Some found
or_later None later = later tt

-- what is found first of n numbers, from i on
abbrev pub first_among : {A : Type 0} → (ℕ → Option A) → ℕ → ℕ → Option A
first_among each zero i = None
first_among each (suc n) i = or_later (each i) (λ _. first_among each n (i + 1))

-- the place, from 1, of the first element that passes the test, else 0
abbrev pub first_place : {A : Type 0} → (A → Bool) → List A → ℕ
first_place test xs = option_map_or (λ n. n + 1) (position test xs) 0
