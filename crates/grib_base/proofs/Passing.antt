-- Rules that pass, rules that are tried in parts, and refusals that are handed on.
use Rattle.std.proofs.Common.{◌≡◌, ℕ, Bool, true, false, cond, Option, Some, None, List, [], ◌∷◌, ◌++◌, refl, sym, ap, ◌∙◌, subst}
use Rattle.std.specs.Prelude.{Result, Ok, Err, IsErrAnd, MatchResult}
pub use Rattle.grib_bits.proofs.Logic.{second_fails}
use Rattle.grib_bits.proofs.Logic.{none_of_two, none_from_two}
use Rattle.grib_base.specs.declared.fault.Fault.{Fault}
use Rattle.grib_base.specs.declared.fault.ReadFault.{ReadFault}
use Rattle.grib_base.specs.declared.fault.ReadFault.TheVariants.{Refused}
use Rattle.grib_base.specs.Faults.{IsReadFault}
use Rattle.grib_base.specs.Rules.{Rule, first_fault, first_fault_at, located}

-- no rule's test holds
abbrev pub AllPass : List Rule → Type 0
AllPass [] = Unit {0}
AllPass (r ∷ rules) = (r.fails ≡ false) × AllPass rules

-- where no rule refuses, no rule's test holds
pub passes_from_none : (rules : List Rule) → first_fault rules ≡ None → AllPass rules
passes_from_none [] e = tt
passes_from_none (r ∷ rules) e =
    let both = none_of_two r.fails r.fault (first_fault rules) e in
    (both.0, passes_from_none rules both.1)

-- where no rule's test holds, no rule refuses
pub none_from_passes : (rules : List Rule) → AllPass rules → first_fault rules ≡ None
none_from_passes [] p = refl
none_from_passes (r ∷ rules) p = none_from_two r.fails r.fault (first_fault rules) p.0 (none_from_passes rules p.1)

-- ---- a refusal within a section is one of the message

pub none-located : (start : ℕ) (fault : Option Fault) → located start fault ≡ None → fault ≡ None
none-located start (Some fault) e = cc
none-located start None e = refl

pub located-none : (start : ℕ) (fault : Option Fault) → fault ≡ None → located start fault ≡ None
located-none start fault e = rw e

-- ---- rules that are tried in parts

skip_none : (b : Bool) (x : Fault) (rest more last : Option Fault) → cond b (Some x) rest ≡ None → (rest ≡ None → more ≡ last) → cond b (Some x) more ≡ last
skip_none true x rest more last h go = cc
skip_none false x rest more last h go = go h

-- where no rule of the first part fails, the second decides
pub first_passed : (xs ys : List Rule) → first_fault xs ≡ None → first_fault (xs ++ ys) ≡ first_fault ys
first_passed [] ys h = refl
first_passed (r ∷ xs) ys h = skip_none r.fails r.fault (first_fault xs) (first_fault (xs ++ ys)) (first_fault ys) h (first_passed xs ys)

keep_some : (start : ℕ) (b : Bool) (x f : Fault) (rest more : Option Fault) → located start (cond b (Some x) rest) ≡ Some f
    → (located start rest ≡ Some f → located start more ≡ Some f) → located start (cond b (Some x) more) ≡ Some f
keep_some start true x f rest more h go = h
keep_some start false x f rest more h go = go h

-- a rule of the first part that fails decides
pub first_failed : (start : ℕ) (xs ys : List Rule) (f : Fault) → first_fault_at start xs ≡ Some f → first_fault_at start (xs ++ ys) ≡ Some f
first_failed start [] ys f h = cc
first_failed start (r ∷ xs) ys f h = keep_some start r.fails r.fault f (first_fault xs) (first_fault (xs ++ ys)) h (first_failed start xs ys f)

module _ (start : ℕ) (first second third : List Rule) (passed : first_fault first ≡ None) where
  pub second_failed : (f : Fault) → first_fault_at start second ≡ Some f → first_fault_at start (first ++ (second ++ third)) ≡ Some f
  second_failed f h =
      ap (located start) (first_passed first (second ++ third) passed) ∙ first_failed start second third f h

-- ---- what `?` carries on

-- an error
pub carried : {T E : Type 0} (P : T → Type 0) (Q : E → Type 0) (result : Result T E) (error : E) → IsErrAnd result (λ e. e ≡ error) → Q error → MatchResult result P Q
carried P Q (Ok value) error is known = absurd is
carried P Q (Err e) error is known = subst Q (sym is) known

-- a refusal that it made of a rule's fault
pub refused : {V : Type 0} (P : V → Type 0) (r : Result V ReadFault) (fault : Fault) (first : Option Fault) → IsErrAnd r (λ e. e ≡ Refused fault) → first ≡ Some fault
    → MatchResult r P (IsReadFault first)
refused P r fault first h is = let Refusal : ReadFault → Type 0 = IsReadFault first in carried P Refusal r (Refused fault) h is
