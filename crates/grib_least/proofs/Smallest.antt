-- Lemmas on the first of the smallest forms.
use Rattle.std.proofs.Common.{◌≡◌, ℕ, ◌+◌, ◌≤◌, ◌<◌, ◌⊎◌, Bool, true, false, cond, nat_lt, min, Option, Some, None, unwrap_or, List, [], ◌∷◌, All, inl, inr, refl, sym, ap, ◌∙◌, arith, subst, lt-ltb, le-ltb, ltb-false}
use Rattle.std.specs.List.{cons_option, filter_map}
use Rattle.std.proofs.lemmas.Bool.{ltb-true, cases_lt}
use Rattle.std.proofs.lemmas.List.Elements.{All-nil, All-cons}
use Rattle.grib_base.specs.declared.profile.Profile.{Profile}
use Rattle.grib_base.specs.declared.profile.Profile.TheVariants.{Stated, Open}
use Rattle.grib_packing.specs.Misfits.{Target, Misfit}
use Rattle.grib_packing.specs.Written.{IsBlocks, IsTarget}
use Rattle.grib_packing.specs.declared.written.Packed.{Packed}
use Rattle.grib_repack.specs.Repacked.{HasPacking}
use Rattle.grib_least.specs.Least.{targets, unless_misfit, size_of, smaller, smallest}
use Rattle.grib_least.specs.Earlier.{or_earlier, or_form}

-- ---- what is so of each form is so of the smallest

abbrev pub Each : (Packed → Type 0) → List Packed → Type 0
Each P [] = Unit {0}
Each P (form ∷ later) = P form × Each P later

-- targets of packings that a profile has
abbrev AreTargets : Profile → List Target → Type 0
AreTargets profile [] = Unit {0}
AreTargets profile (target ∷ later) = (IsTarget target × HasPacking profile target) × AreTargets profile later

pub of_blocks : (block : ℕ) → (block ≡ 8) ⊎ ((block ≡ 16) ⊎ ((block ≡ 32) ⊎ (block ≡ 64))) → IsBlocks block 128
of_blocks block is = (is, omega arith, omega arith)

are_targets : (profile : Profile) → AreTargets profile (targets profile)
are_targets Stated = ((tt, tt), ((tt, tt), ((inl refl, tt), ((inr refl, tt), tt))))
are_targets Open = (
  (tt, tt),
  (
    (tt, tt),
    (
      (inl refl, tt),
      (
        (inr refl, tt),
        (
          (of_blocks 8 (inl refl), tt),
          (
            (of_blocks 16 (inr (inl refl)), tt),
            (
              (of_blocks 32 (inr (inr (inl refl))), tt),
              ((of_blocks 64 (inr (inr (inr refl))), tt), tt),
            ),
          ),
        ),
      ),
    ),
  ),
)

smaller_of : (P : Packed → Type 0) (best form : Packed) → P best → P form → P (smaller best form)
smaller_of P best form here there = go (nat_lt (size_of form) (size_of best)) where
  go : (b : Bool) → P (cond b form best)
  go true = there
  go false = here

pub smallest_of : (P : Packed → Type 0) (best : Packed) (later : List Packed) → P best → Each P later → P (smallest best later)
smallest_of P best [] here each = here
smallest_of P best (form ∷ later) here each = smallest_of P (smaller best form) later (smaller_of P best form here each.0) each.1

each_here : (P : Packed → Type 0) (form : Option Packed) (later : List Packed) → ((p : Packed) → form ≡ Some p → P p) → Each P later → Each P (cons_option form later)
each_here P (Some form) later here each = (here form refl, each)
each_here P None later here each = each

each_of : (profile : Profile) (P : Packed → Type 0) (f : Target → Option Packed)
    → ((target : Target) → IsTarget target → HasPacking profile target → (p : Packed) → f target ≡ Some p → P p)
    → (those : List Target) → AreTargets profile those → Each P (filter_map f those)
each_of profile P f each [] are = tt
each_of profile P f each (target ∷ those) are =
    each_here P (f target) (filter_map f those) (each target are.0.0 are.0.1) (each_of profile P f each those are.1)

pub each_packed : (profile : Profile) (P : Packed → Type 0) (f : Target → Option Packed)
    → ((target : Target) → IsTarget target → HasPacking profile target → (p : Packed) → f target ≡ Some p → P p)
    → Each P (filter_map f (targets profile))
each_packed profile P f each = each_of profile P f each (targets profile) (are_targets profile)

-- ---- it is the smallest

smaller_least : (best form : Packed) → (size_of (smaller best form) ≤ size_of best) × (size_of (smaller best form) ≤ size_of form)
smaller_least best form = go (nat_lt (size_of form) (size_of best)) refl where
  go : (b : Bool) → nat_lt (size_of form) (size_of best) ≡ b → (size_of (cond b form best) ≤ size_of best) × (size_of (cond b form best) ≤ size_of form)
  go true e = let low = ltb-true (size_of form) (size_of best) e in (omega (arith, low), omega arith)
  go false e = let high = ltb-false (size_of form) (size_of best) e in (omega arith, omega (arith, high))

pub smallest_least : (best : Packed) (later : List Packed) → (size_of (smallest best later) ≤ size_of best) × Each (λ form. size_of (smallest best later) ≤ size_of form) later
smallest_least best [] = (omega arith, tt)
smallest_least best (form ∷ later) =
    let here = smaller_least best form in
    let rest = smallest_least (smaller best form) later in
    (omega (arith, here.0, rest.0), (omega (arith, here.1, rest.0), rest.1))

-- no smaller one takes its place
smaller_stays : (best form : Packed) → size_of best ≤ size_of form → smaller best form ≡ best
smaller_stays best form low = ap (λ (b : Bool). cond b form best) (le-ltb (size_of form) (size_of best) low)

pub smallest_stays : (best : Packed) (later : List Packed) → Each (λ form. size_of best ≤ size_of form) later → smallest best later ≡ best
smallest_stays best [] each = refl
smallest_stays best (form ∷ later) each =
    ap (λ (x : Packed). smallest x later) (smaller_stays best form each.0) ∙ smallest_stays best later each.1

-- ---- from the last form to the first

-- a smaller one takes its place
smaller_taken : (best form : Packed) → size_of form < size_of best → smaller best form ≡ form
smaller_taken best form low = ap (λ (b : Bool). cond b form best) (lt-ltb (size_of form) (size_of best) low)

-- one form more
more_forms : (own form first : Packed) (later : List Packed) → size_of form ≤ size_of own
    → ((other : Packed) → size_of form ≤ size_of other → smallest form later ≡ smaller form (smallest other later))
    → smallest (smaller form first) later ≡ smaller form (smallest (smaller own first) later)
more_forms own form first later low rest = elim (cases_lt (size_of first) (size_of form)) [
  | inl less ↦
      let least = (smallest_least first later).0 in
      ap (λ (x : Packed). smallest x later) (smaller_taken form first less)
      ∙ sym (ap (λ (x : Packed). smaller form (smallest x later)) (smaller_taken own first (omega (arith, less, low)))
      ∙ smaller_taken form (smallest first later) (omega (arith, less, least)))
  | inr more ↦
      let here : smallest (smaller form first) later ≡ smallest form later = ap (λ (x : Packed). smallest x later) (smaller_stays form first more) in
      elim (cases_lt (size_of first) (size_of own)) [
        | inl less ↦ here ∙ rest first more ∙ sym (ap (λ (x : Packed). smaller form (smallest x later)) (smaller_taken own first less))
        | inr kept ↦ here ∙ rest own low ∙ sym (ap (λ (x : Packed). smaller form (smallest x later)) (smaller_stays own first kept))
      ]
]

-- a form in place of one that has as many octets or more
in_place : (own form : Packed) (later : List Packed) → size_of form ≤ size_of own → smallest form later ≡ smaller form (smallest own later)
in_place own form [] low = sym (smaller_stays form own low)
in_place own form (first ∷ later) low = more_forms own form first later low (λ other below. in_place other form later below)

before_later : (own form : Packed) (later : List Packed) → smallest own (form ∷ later) ≡ or_earlier (size_of own) form (smallest own later)
before_later own form later = elim (cases_lt (size_of form) (size_of own)) [
  | inl less ↦
      ap (λ (x : Packed). smallest x later) (smaller_taken own form less)
      ∙ in_place own form later (omega (arith, less))
      ∙ sym (ap (λ (b : Bool). cond b (smaller form (smallest own later)) (smallest own later)) (lt-ltb (size_of form) (size_of own) less))
  | inr more ↦
      ap (λ (x : Packed). smallest x later) (smaller_stays own form more)
      ∙ sym (ap (λ (b : Bool). cond b (smaller form (smallest own later)) (smallest own later)) (le-ltb (size_of form) (size_of own) more))
]

one_before : (own : Packed) (form : Option Packed) (later : List Packed) → smallest own (cons_option form later) ≡ or_form (size_of own) form (smallest own later)
one_before own (Some form) later = before_later own form later
one_before own None later = refl

-- the best of a form and those after it, told from the last of them on
abbrev pub from_last : (Target → Option Packed) → ℕ → List Target → Packed → Packed
from_last f limit [] own = own
from_last f limit (target ∷ later) own = or_form limit (f target) (from_last f limit later own)

pub smallest_from_last : (f : Target → Option Packed) (own : Packed) (those : List Target)
    → smallest own (filter_map f those) ≡ from_last f (size_of own) those own
smallest_from_last f own [] = refl
smallest_from_last f own (target ∷ later) =
    one_before own (f target) (filter_map f later) ∙ ap (or_form (size_of own) (f target)) (smallest_from_last f own later)

-- a form that has too many octets is left out
pub left_out : (limit : ℕ) (form best : Packed) → min limit (size_of best + 1) ≤ size_of form → or_earlier limit form best ≡ best
left_out limit form best most = elim (cases_lt (size_of form) limit) [
  | inl less ↦
      ap (λ (b : Bool). cond b (smaller form best) best) (lt-ltb (size_of form) limit less)
      ∙ smaller_taken form best (omega (arith, most, less))
  | inr more ↦ ap (λ (b : Bool). cond b (smaller form best) best) (le-ltb (size_of form) limit more)
]

-- ---- each packing is tried

first_of : (P : Packed → Type 0) (form : Option Packed) (later : List Packed) (p : Packed) → form ≡ Some p → Each P (cons_option form later) → P p
first_of P (Some form) later p is each = subst P (ap (λ (o : Option Packed). unwrap_or o form) is) each.0
first_of P None later p is each = absurd (cc)

rest_of : (P : Packed → Type 0) (form : Option Packed) (later : List Packed) → Each P (cons_option form later) → Each P later
rest_of P (Some form) later each = each.1
rest_of P None later each = each

pub are_tried : (P : Packed → Type 0) (f : Target → Option Packed) (those : List Target) → Each P (filter_map f those)
    → All (λ target. (p : Packed) → f target ≡ Some p → P p) those
are_tried P f [] each = All-nil (λ target. (p : Packed) → f target ≡ Some p → P p)
are_tried P f (target ∷ later) each =
    All-cons (λ target. (p : Packed) → f target ≡ Some p → P p) target later
    (λ p is. first_of P (f target) (filter_map f later) p is each) (are_tried P f later (rest_of P (f target) (filter_map f later) each))

-- a form that counts
pub counts : (misfit : Option Misfit) (form p : Packed) → unless_misfit misfit form ≡ Some p → (misfit ≡ None) × (form ≡ p)
counts (Some misfit) form p is = absurd (cc)
counts None form p is = (refl, ap (λ (o : Option Packed). unwrap_or o form) is)

pub that_fits : (misfit : Option Misfit) (form : Packed) → misfit ≡ None → unless_misfit misfit form ≡ Some form
that_fits misfit form none = ap (λ (o : Option Misfit). unless_misfit o form) none
