-- What is written of a group tells its codes.
use Rattle.std.proofs.Common.{◌≡◌, ℕ, zero, suc, ◌+◌, ◌-◌, ◌^◌, ◌<◌, ◌≤◌, ◌⊎◌, inl, inr, Bool, true, false, ◌&&◌, cond, List, eqb, refl, sym, ap, ◌∙◌, arith, eq-eqb, ne_eqb, pow_mono}
use Rattle.std.specs.List.{list_any}
use Rattle.std.proofs.lemmas.Bool.{cond-false, eqb-true, cases_lt}
use Rattle.grib_base.specs.declared.code.Code.{Code}
use Rattle.grib_base.specs.declared.code.Code.TheVariants.{Present, Primary, Secondary}
use Rattle.grib_packing.specs.declared.layout.Layout.{Layout}
use Rattle.grib_packing.specs.declared.group.Group.{Group}
use Rattle.grib_packing.specs.Groups.{code_of, marked}
use Rattle.grib_packing.specs.Groupings.{digits, width_of, greatest, smallest, present_codes, is_present, is_primary, is_secondary}
use Rattle.grib_packing.specs.Packed.{reference_of, packed_number}
use Rattle.grib_codes.specs.Span.{IsTold}
use Rattle.grib_codes.proofs.Spans.{width_by, width_of-by, reference_by, reference_of-by}
use Rattle.grib_packing.proofs.Digits.{digits-lt, digits-some}
use Rattle.grib_codes.proofs.Bounds.{IsWithin}
use Rattle.grib_groups.proofs.Packable.{width-numbers, reference-numbers}

-- ---- marks

number_marked : (k n top : ℕ) (c : Code) → n + k < top → k ≤ 2 → marked k n top c ≡ c
number_marked zero n top c below few = refl
number_marked (suc zero) n top c below few = rw (ne_eqb (n + 1) top (λ e. omega arith)) refl
number_marked (suc (suc zero)) n top c below few = rw (ne_eqb (n + 1) top (λ e. omega arith), ne_eqb (n + 2) top (λ e. omega arith)) refl
number_marked (suc (suc (suc k))) n top c below few = absurd (omega arith)

primary_marked : (k n top : ℕ) (c : Code) → n + 1 ≡ top → 1 ≤ k → k ≤ 2 → marked k n top c ≡ Primary
primary_marked zero n top c is some few = absurd (omega arith)
primary_marked (suc zero) n top c is some few = rw (eq-eqb (n + 1) top is) refl
primary_marked (suc (suc zero)) n top c is some few = rw (eq-eqb (n + 1) top is) refl
primary_marked (suc (suc (suc k))) n top c is some few = absurd (omega arith)

secondary_marked : (k n top : ℕ) (c : Code) → n + 2 ≡ top → 2 ≤ k → k ≤ 2 → marked k n top c ≡ Secondary
secondary_marked zero n top c is some few = absurd (omega arith)
secondary_marked (suc zero) n top c is some few = absurd (omega arith)
secondary_marked (suc (suc zero)) n top c is some few = rw (ne_eqb (n + 1) top (λ e. omega arith), eq-eqb (n + 2) top is) refl
secondary_marked (suc (suc (suc k))) n top c is some few = absurd (omega arith)

-- ---- a group with a width

module _ (layout : Layout) (run : List Code) (few : layout.management ≤ 2) (small : greatest (present_codes run) + layout.management < 2 ^ 32) where
  module _ (w r n : ℕ) (is_width : w ≡ width_of layout.management run) (is_reference : r ≡ reference_of layout.reference_bits run) (some : 0 < w) where
    abbrev group : Group
    group = record { reference = r; width = w; count = n }

    by_number : (p : ℕ) → code_of layout group p ≡ marked layout.management p (2 ^ w) (Present (r + p))
    by_number p =
        cond-false (eqb w 0) (marked layout.management r (2 ^ layout.reference_bits) (Present r)) (marked layout.management p (2 ^ w) (Present (r + p)))
        (ne_eqb w 0 (λ e. omega arith))

    two : 2 ≤ 2 ^ w
    two = let power : 2 ^ 1 ≤ 2 ^ w = pow_mono some in power

    pub wide_back : (code : Code) → IsWithin (smallest (present_codes run)) (greatest (present_codes run)) (list_any is_present run) (list_any is_primary run) (list_any is_secondary run) code
        → IsTold layout.management code → code_of layout group (packed_number w r code) ≡ code
    wide_back (Present m) h told =
        let lo = smallest (present_codes run) in
        let hi = greatest (present_codes run) in
        let width = width-numbers layout.management w run is_width some h.2 in
        let reference = reference-numbers layout.reference_bits run h.2 in
        let power : 2 ^ w ≡ 2 ^ digits (hi - lo + layout.management) = ap (λ x. 2 ^ x) width in
        let fits = digits-lt (hi - lo + layout.management) (omega arith) in
        let below : m - r + layout.management < 2 ^ w = omega (arith, is_reference, reference, h.0, h.1, power, fits) in
        let same : r + (m - r) ≡ m = omega (arith, is_reference, reference, h.0) in
        by_number (m - r) ∙ number_marked layout.management (m - r) (2 ^ w) (Present (r + (m - r))) below few ∙ ap Present same
    wide_back Primary h told =
        by_number (2 ^ w - 1) ∙ primary_marked layout.management (2 ^ w - 1) (2 ^ w) (Present (r + (2 ^ w - 1))) (omega (arith, two)) told few
    wide_back Secondary h told =
        by_number (2 ^ w - 2) ∙ secondary_marked layout.management (2 ^ w - 2) (2 ^ w) (Present (r + (2 ^ w - 2))) (omega (arith, two)) told few

  -- ---- a group of width 0
  zero_digits : (n : ℕ) → n < 2 ^ 32 → digits n ≡ 0 → n ≡ 0
  zero_digits n below none = elim (cases_lt 0 n) [ inl some ↦ absurd (omega (arith, digits-some n below some, none)) | inr past ↦ omega arith ]

  module _ (r n : ℕ) (is_width : width_of layout.management run ≡ 0) (is_reference : r ≡ reference_of layout.reference_bits run)
      (fits : greatest (present_codes run) + layout.management < 2 ^ layout.reference_bits) where
    abbrev same_group : Group
    same_group = record { reference = r; width = 0; count = n }

    by_kinds : width_by (list_any is_present run) (list_any is_primary run) (list_any is_secondary run) (smallest (present_codes run)) (greatest (present_codes run)) layout.management ≡ 0
    by_kinds = sym (width_of-by layout.management run) ∙ is_width

    reference_kinds : r ≡ reference_by (list_any is_present run) (list_any is_primary run) (list_any is_secondary run) (smallest (present_codes run)) layout.reference_bits
    reference_kinds = is_reference ∙ reference_of-by layout.reference_bits run

    -- where a number stands, all are the least
    flat : (q s : Bool) (lo hi j : ℕ) → hi + j < 2 ^ 32 → width_by true q s lo hi j ≡ 0 → hi ≤ lo
    flat true s lo hi j below none = omega (arith, zero_digits (hi - lo + j) (omega arith) none)
    flat false true lo hi j below none = omega (arith, zero_digits (hi - lo + j) (omega arith) none)
    flat false false lo hi j below none =
        elim (eqb hi lo) as (λ b. eqb hi lo ≡ b → cond b 0 (digits (hi - lo + j)) ≡ 0 → hi ≤ lo) [
          | true ↦ λ e h. omega (arith, eqb-true hi lo e)
          | false ↦ λ e h. omega (arith, zero_digits (hi - lo + j) (omega arith) h)
        ] refl none

    -- where a mark stands, no number does, and no other mark
    marks_alone : (p q s : Bool) (lo hi j : ℕ) → hi + j < 2 ^ 32 → 1 ≤ j → width_by p q s lo hi j ≡ 0 → (q ≡ true) ⊎ (s ≡ true)
        → (p ≡ false) × ((q && s) ≡ false)
    marks_alone true true s lo hi j below some none why = absurd (omega (arith, zero_digits (hi - lo + j) (omega arith) none))
    marks_alone true false true lo hi j below some none why = absurd (omega (arith, zero_digits (hi - lo + j) (omega arith) none))
    marks_alone true false false lo hi j below some none (inl e) = cc
    marks_alone true false false lo hi j below some none (inr e) = cc
    marks_alone false true true lo hi j below some none why = absurd (omega arith)
    marks_alone false true false lo hi j below some none why = (refl, refl)
    marks_alone false false s lo hi j below some none why = (refl, refl)

    primary_reference : (p q s : Bool) (lo b : ℕ) → p ≡ false → q ≡ true → (q && s) ≡ false → reference_by p q s lo b ≡ 2 ^ b - 1
    primary_reference true q s lo b e f g = cc
    primary_reference false false s lo b e f g = cc
    primary_reference false true true lo b e f g = cc
    primary_reference false true false lo b e f g = refl

    secondary_reference : (p q s : Bool) (lo b : ℕ) → p ≡ false → s ≡ true → (q && s) ≡ false → reference_by p q s lo b ≡ 2 ^ b - 2
    secondary_reference true q s lo b e f g = cc
    secondary_reference false q false lo b e f g = cc
    secondary_reference false true true lo b e f g = cc
    secondary_reference false false true lo b e f g = refl

    present_flat : (p q s : Bool) (lo hi j : ℕ) → p ≡ true → hi + j < 2 ^ 32 → width_by p q s lo hi j ≡ 0 → hi ≤ lo
    present_flat true q s lo hi j e below none = flat q s lo hi j below none
    present_flat false q s lo hi j e below none = cc

    pub same_back : (code : Code) → IsWithin (smallest (present_codes run)) (greatest (present_codes run)) (list_any is_present run) (list_any is_primary run) (list_any is_secondary run) code
        → IsTold layout.management code → code_of layout same_group 0 ≡ code
    same_back (Present m) h told =
        let lo = smallest (present_codes run) in
        let hi = greatest (present_codes run) in
        let level : hi ≤ lo = present_flat _ _ _ lo hi layout.management h.2 small by_kinds in
        let reference : r ≡ lo = is_reference ∙ reference-numbers layout.reference_bits run h.2 in
        let same : r ≡ m = omega (arith, reference, level, h.0, h.1) in
        number_marked layout.management r (2 ^ layout.reference_bits) (Present r) (omega (arith, fits, same, h.1)) few ∙ ap Present same
    same_back Primary h told =
        let alone = marks_alone _ _ _ _ _ layout.management small told by_kinds (inl h) in
        let reference : r ≡ 2 ^ layout.reference_bits - 1 = reference_kinds ∙ primary_reference _ _ _ _ layout.reference_bits alone.0 h alone.1 in
        primary_marked layout.management r (2 ^ layout.reference_bits) (Present r) (omega (arith, reference, fits)) told few
    same_back Secondary h told =
        let alone = marks_alone _ _ _ _ _ layout.management small (omega (arith, told)) by_kinds (inr h) in
        let reference : r ≡ 2 ^ layout.reference_bits - 2 = reference_kinds ∙ secondary_reference _ _ _ _ layout.reference_bits alone.0 h alone.1 in
        secondary_marked layout.management r (2 ^ layout.reference_bits) (Present r) (omega (arith, reference, fits, told)) told few
