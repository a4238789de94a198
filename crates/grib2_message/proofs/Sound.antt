-- What is known of sections that no rule refused, after one more.
use Rattle.std.proofs.Common.{◌≡◌, ◌≢◌, ℕ, ◌+◌, ◌≤◌, Bool, cond, ◌&&◌, Option, Some, None, is_some, IsSome, List, [], ◌∷◌, get_or, ◌==◌, inl, inr, refl, sym, ap, ap₂, ◌∙◌, arith, zero-add, eq-eqb, ne_eqb}
use Rattle.std.proofs.lemmas.Bool.{cases_eq}
use Rattle.std.proofs.lemmas.List.Sums.{sum_by-cons}
use Rattle.grib_base.specs.declared.profile.Profile.{Profile}
use Rattle.grib_base.specs.declared.fault.Fault.{Fault}
use Rattle.grib_base.specs.Rules.{first_fault, located, choose}
use Rattle.grib2_sections.specs.Frame.{Placed, section_number}
use Rattle.grib2_sections.specs.Identification.{identification_rules}
use Rattle.grib2_grids.specs.Grid.{grid_points}
use Rattle.grib2_grids.specs.Opaque.{grid_rules_under}
use Rattle.grib2_products.specs.Opaque.{product_rules_under}
use Rattle.grib2_products.proofs.Under.{product_first, product_few}
use Rattle.grib_bitmap.specs.Mask.{bitmap_indicator, bitmap_rules, mask_of, own_mask}
use Rattle.grib_packing.specs.Packing.{value_count}
use Rattle.grib_packing.specs.Entries.{packing_fault_under, data_fault}
use Rattle.grib2_message.specs.View.{is_numbered, last_number, section_in_force, octets_in_force, points_in_force, earlier_bitmap, bitmap_mask, earlier_mask, mask_in_force, section_count}
use Rattle.grib2_message.specs.Acceptance.{no_rules, section_fault_under, contents_faults}
use Rattle.grib2_message.specs.Kept.{AreSound, begun}
use Rattle.grib2_message.proofs.Latest.{in_force_same, in_force_other, octets_same, octets_other}
use Rattle.grib2_message.proofs.Order.{Follows, next, skips, again, in_range, one_below, begun_none}
use Rattle.grib2_message.proofs.Bitmaps.{mask_alone, rules_alone}

pub none_located : (start : ℕ) (o : Option Fault) → located start o ≡ None → o ≡ None
none_located start None none = refl
none_located start (Some f) none = absurd (cc)

-- the refusal of a section by its number
pub fault_of : (profile : Profile) (before : List Placed) (s : Placed) (n : ℕ) → section_number s.octets ≡ n → section_fault_under profile before s ≡ get_or (contents_faults profile) n no_rules before s
fault_of profile before s n e = ap (λ (k : ℕ). get_or (contents_faults profile) k no_rules before s) e

module _ (s : Placed) (before : List Placed) where
  -- the earlier bitmap after one more section
  pub earlier_own : section_number s.octets ≡ 6 → bitmap_indicator s.octets ≡ 0 → earlier_mask (s ∷ before) ≡ Some (own_mask s.octets (points_in_force before))
  earlier_own six own =
      ap₂ (λ (a b : Bool). bitmap_mask (choose (a && b) (λ _. s ∷ before) (λ _. earlier_bitmap before)))
      (eq-eqb (section_number s.octets) 6 six) (eq-eqb (bitmap_indicator s.octets) 0 own)

  pub earlier_kept : section_number s.octets ≢ 6 → earlier_mask (s ∷ before) ≡ earlier_mask before
  earlier_kept other =
      ap (λ (a : Bool). bitmap_mask (choose (a && (bitmap_indicator s.octets == 0)) (λ _. s ∷ before) (λ _. earlier_bitmap before)))
      (ne_eqb (section_number s.octets) 6 other)

  pub earlier_not_own : section_number s.octets ≡ 6 → bitmap_indicator s.octets ≢ 0 → earlier_mask (s ∷ before) ≡ earlier_mask before
  earlier_not_own six other =
      ap₂ (λ (a b : Bool). bitmap_mask (choose (a && b) (λ _. s ∷ before) (λ _. earlier_bitmap before)))
      (eq-eqb (section_number s.octets) 6 six) (ne_eqb (bitmap_indicator s.octets) 0 other)

  pub bitmap_own : section_number s.octets ≡ 6 → bitmap_indicator s.octets ≡ 0 → earlier_bitmap (s ∷ before) ≡ s ∷ before
  bitmap_own six own =
      ap₂ (λ (a b : Bool). choose (a && b) (λ _. s ∷ before) (λ _. earlier_bitmap before))
      (eq-eqb (section_number s.octets) 6 six) (eq-eqb (bitmap_indicator s.octets) 0 own)

  pub bitmap_kept : section_number s.octets ≢ 6 → earlier_bitmap (s ∷ before) ≡ earlier_bitmap before
  bitmap_kept other =
      ap (λ (a : Bool). choose (a && (bitmap_indicator s.octets == 0)) (λ _. s ∷ before) (λ _. earlier_bitmap before))
      (ne_eqb (section_number s.octets) 6 other)

  pub bitmap_not_own : section_number s.octets ≡ 6 → bitmap_indicator s.octets ≢ 0 → earlier_bitmap (s ∷ before) ≡ earlier_bitmap before
  bitmap_not_own six other =
      ap₂ (λ (a b : Bool). choose (a && b) (λ _. s ∷ before) (λ _. earlier_bitmap before))
      (eq-eqb (section_number s.octets) 6 six) (ne_eqb (bitmap_indicator s.octets) 0 other)

  pub mask_here : section_number s.octets ≡ 6 → mask_in_force (s ∷ before) ≡ mask_of s.octets (points_in_force before) (earlier_mask before)
  mask_here six =
      ap (λ (a : Bool). choose a (λ _. mask_of s.octets (points_in_force before) (earlier_mask before)) (λ _. mask_in_force before))
      (eq-eqb (section_number s.octets) 6 six)

  pub mask_kept : section_number s.octets ≢ 6 → mask_in_force (s ∷ before) ≡ mask_in_force before
  mask_kept other =
      ap (λ (a : Bool). choose a (λ _. mask_of s.octets (points_in_force before) (earlier_mask before)) (λ _. mask_in_force before))
      (ne_eqb (section_number s.octets) 6 other)

  pub points_kept : section_number s.octets ≢ 3 → points_in_force (s ∷ before) ≡ points_in_force before
  points_kept other = ap grid_points (octets_other s before 3 other)

  pub count_same : (k : ℕ) → section_number s.octets ≡ k → section_count k (s ∷ before) ≡ 1 + section_count k before
  count_same k e =
      sum_by-cons (λ t. cond (is_numbered k t) 1 0) s before
      ∙ ap (λ (b : Bool). cond b 1 0 + section_count k before) (eq-eqb (section_number s.octets) k e)

  pub count_other : (k : ℕ) → section_number s.octets ≢ k → section_count k (s ∷ before) ≡ section_count k before
  count_other k ne =
      sum_by-cons (λ t. cond (is_numbered k t) 1 0) s before
      ∙ ap (λ (b : Bool). cond b 1 0 + section_count k before) (ne_eqb (section_number s.octets) k ne)
      ∙ zero-add (section_count k before)

-- ---- the parts

module _ (profile : Profile) (s : Placed) (before : List Placed) (h : AreSound profile before) (f : Follows (last_number before) (section_number s.octets)) (accepted : section_fault_under profile before s ≡ None) where
  -- the refusal by its number, which is none
  accepted_as : (n : ℕ) → section_number s.octets ≡ n → get_or (contents_faults profile) n no_rules before s ≡ None
  accepted_as n e = sym (fault_of profile before s n e) ∙ accepted

  below : (k : ℕ) → 1 ≤ k → k ≤ section_number s.octets → k ≢ 2 → section_number s.octets ≢ k → k ≤ last_number before
  below k low high two other =
      elim f [
        | next e l ↦ (let ne : k ≢ section_number s.octets = λ same. other (sym same) in omega arith)
        | skips a b ↦ (let ne : k ≢ section_number s.octets = λ same. other (sym same) in omega arith)
        | again a b c ↦ omega arith
      ]

  present_after : (k : ℕ) → 1 ≤ k → k ≤ section_number s.octets → k ≢ 2 → IsSome (section_in_force k (s ∷ before))
  present_after k low high two = elim (cases_eq (section_number s.octets) k) [
    | inl same ↦ ap is_some (in_force_same s before k same)
    | inr other ↦ ap is_some (in_force_other s before k other) ∙ h.present k low (below k low high two other) two
  ]

  grid_after : 3 ≤ section_number s.octets → first_fault (grid_rules_under profile (octets_in_force 3 (s ∷ before))) ≡ None
  grid_after high = elim (cases_eq (section_number s.octets) 3) [
    | inl same ↦
        ap (λ (x : List ℕ). first_fault (grid_rules_under profile x)) (octets_same s before 3 same)
        ∙ none_located s.start (first_fault (grid_rules_under profile s.octets)) (accepted_as 3 same)
    | inr other ↦
        ap (λ (x : List ℕ). first_fault (grid_rules_under profile x)) (octets_other s before 3 other)
        ∙ h.grid (below 3 (omega arith) high (λ same. absurd (omega arith)) other)
  ]

  identification_after : 1 ≤ section_number s.octets → first_fault (identification_rules (octets_in_force 1 (s ∷ before))) ≡ None
  identification_after high = elim (cases_eq (section_number s.octets) 1) [
    | inl same ↦
        ap (λ (x : List ℕ). first_fault (identification_rules x)) (octets_same s before 1 same)
        ∙ none_located s.start (first_fault (identification_rules s.octets)) (accepted_as 1 same)
    | inr other ↦
        ap (λ (x : List ℕ). first_fault (identification_rules x)) (octets_other s before 1 other)
        ∙ h.identification (below 1 (omega arith) high (λ same. absurd (omega arith)) other)
  ]

  product_after : 4 ≤ section_number s.octets → first_fault (product_rules_under profile (octets_in_force 4 (s ∷ before)) 1) ≡ None
  product_after high = elim (cases_eq (section_number s.octets) 4) [
    | inl same ↦
        ap (λ (x : List ℕ). first_fault (product_rules_under profile x 1)) (octets_same s before 4 same)
        ∙ product_first profile s.octets (section_count 4 before + 1)
        (none_located s.start (first_fault (product_rules_under profile s.octets (section_count 4 before + 1))) (accepted_as 4 same))
    | inr other ↦
        ap (λ (x : List ℕ). first_fault (product_rules_under profile x 1)) (octets_other s before 4 other)
        ∙ h.product (below 4 (omega arith) high (λ same. absurd (omega arith)) other)
  ]

  packing_after : 5 ≤ section_number s.octets → packing_fault_under profile (octets_in_force 5 (s ∷ before)) (points_in_force (s ∷ before)) ≡ None
  packing_after high =
      let points = points_kept s before (λ same. absurd (omega arith)) in
      elim (cases_eq (section_number s.octets) 5) [
        | inl same ↦
            ap₂ (λ (x : List ℕ) (p : ℕ). packing_fault_under profile x p) (octets_same s before 5 same) points
            ∙ none_located s.start (packing_fault_under profile s.octets (points_in_force before)) (accepted_as 5 same)
        | inr other ↦
            ap₂ (λ (x : List ℕ) (p : ℕ). packing_fault_under profile x p) (octets_other s before 5 other) points
            ∙ h.packing (below 5 (omega arith) high (λ same. absurd (omega arith)) other)
      ]

  -- the rules of Section 6 and its mask, by the earlier bitmap after it
  rules_of : Option (List Bool) → List ℕ → ℕ → ℕ → Option Fault
  rules_of earlier x points values = first_fault (bitmap_rules x points values earlier)

  same_rules : (x y : List ℕ) (p q v w : ℕ) (earlier later : Option (List Bool)) → x ≡ y → p ≡ q → v ≡ w → earlier ≡ later
      → first_fault (bitmap_rules x p v earlier) ≡ first_fault (bitmap_rules y q w later)
  same_rules x y p q v w earlier later ex ep ev ee = λ i. first_fault (bitmap_rules (ex i) (ep i) (ev i) (ee i))

  same_mask : (x y : List ℕ) (p q : ℕ) (earlier later : Option (List Bool)) → x ≡ y → p ≡ q → earlier ≡ later → mask_of x p earlier ≡ mask_of y q later
  same_mask x y p q earlier later ex ep ee = λ i. mask_of (ex i) (ep i) (ee i)

  bitmap_after : 6 ≤ section_number s.octets
      → first_fault (bitmap_rules (octets_in_force 6 (s ∷ before)) (points_in_force (s ∷ before)) (value_count (octets_in_force 5 (s ∷ before))) (earlier_mask (s ∷ before))) ≡ None
  bitmap_after high =
      let points = points_kept s before (λ same. absurd (omega arith)) in
      let values = ap value_count (octets_other s before 5 (λ same. absurd (omega arith))) in
      elim (cases_eq (section_number s.octets) 6) [
        | inl same ↦
            let none : first_fault (bitmap_rules s.octets (points_in_force before) (value_count (octets_in_force 5 before)) (earlier_mask before)) ≡ None =
            none_located s.start _ (accepted_as 6 same) in
            elim (cases_eq (bitmap_indicator s.octets) 0) [
              | inl own ↦
                  let not_254 : bitmap_indicator s.octets ≢ 254 = λ e. absurd (omega arith) in
                  same_rules _ _ _ _ _ _ (earlier_mask (s ∷ before)) (earlier_mask (s ∷ before)) (octets_same s before 6 same) points values refl
                  ∙ rules_alone s.octets (points_in_force before) (value_count (octets_in_force 5 before)) not_254 (earlier_mask (s ∷ before)) (earlier_mask before)
                  ∙ none
              | inr other ↦
                  same_rules _ _ _ _ _ _ _ _ (octets_same s before 6 same) points values (earlier_not_own s before same other) ∙ none
            ]
        | inr other ↦
            same_rules _ _ _ _ _ _ _ _ (octets_other s before 6 other) points values (earlier_kept s before other)
            ∙ h.bitmap (below 6 (omega arith) high (λ same. absurd (omega arith)) other)
      ]

  mask_after : 6 ≤ section_number s.octets
      → mask_in_force (s ∷ before) ≡ mask_of (octets_in_force 6 (s ∷ before)) (points_in_force (s ∷ before)) (earlier_mask (s ∷ before))
  mask_after high =
      let points = points_kept s before (λ same. absurd (omega arith)) in
      elim (cases_eq (section_number s.octets) 6) [
        | inl same ↦
            elim (cases_eq (bitmap_indicator s.octets) 0) [
              | inl own ↦
                  let not_254 : bitmap_indicator s.octets ≢ 254 = λ e. absurd (omega arith) in
                  mask_here s before same
                  ∙ mask_alone s.octets (points_in_force before) 0 not_254 (earlier_mask before) (earlier_mask (s ∷ before))
                  ∙ sym (same_mask _ _ _ _ (earlier_mask (s ∷ before)) (earlier_mask (s ∷ before)) (octets_same s before 6 same) points refl)
              | inr other ↦
                  mask_here s before same
                  ∙ sym (same_mask _ _ _ _ _ _ (octets_same s before 6 same) points (earlier_not_own s before same other))
            ]
        | inr other ↦
            mask_kept s before other
            ∙ h.mask (below 6 (omega arith) high (λ same. absurd (omega arith)) other)
            ∙ sym (same_mask _ _ _ _ _ _ (octets_other s before 6 other) points (earlier_kept s before other))
      ]

  values_after : 7 ≤ section_number s.octets → data_fault (octets_in_force 5 (s ∷ before)) (octets_in_force 7 (s ∷ before)) ≡ None
  values_after high =
      let seven : section_number s.octets ≡ 7 = (let r = in_range (last_number before) (section_number s.octets) f in omega arith) in
      ap₂ data_fault (octets_other s before 5 (λ same. absurd (omega arith))) (octets_same s before 7 seven)
      ∙ none_located s.start (data_fault (octets_in_force 5 before) s.octets) (accepted_as 7 seven)

  -- a product that is not refused is not the 4,097th
  few_after : section_count 4 (s ∷ before) ≤ 4096
  few_after = elim (cases_eq (section_number s.octets) 4) [
    | inl same ↦
        let ne = product_few profile s.octets (section_count 4 before + 1) (none_located s.start _ (accepted_as 4 same)) in
        let count = count_same s before 4 same in
        let few : section_count 4 before ≤ 4096 = h.few in
        let other : section_count 4 before ≢ 4096 = λ e. ne (omega arith) in
        omega arith
    | inr other ↦ (let count = count_other s before 4 other in let few : section_count 4 before ≤ 4096 = h.few in omega arith)
  ]

  counted_after : section_count 4 (s ∷ before) ≡ section_count 7 (s ∷ before) + begun (section_number s.octets)
  counted_after =
      let n = section_number s.octets in
      let last = last_number before in
      let c : section_count 4 before ≡ section_count 7 before + begun last = h.counted in
      let r = in_range last n f in
      elim (cases_eq n 4) [
        | inl four ↦
            let a = count_same s before 4 four in
            let b = count_other s before 7 (λ same. absurd (omega arith)) in
            let now : begun n ≡ 1 = ap begun four in
            let was : begun last ≡ 0 = elim f [
              | next e l ↦ begun_none last (λ same. absurd (omega arith)) (λ same. absurd (omega arith)) (λ same. absurd (omega arith))
              | skips x y ↦ begun_none last (λ same. absurd (omega arith)) (λ same. absurd (omega arith)) (λ same. absurd (omega arith))
              | again x y z ↦ begun_none last (λ same. absurd (omega arith)) (λ same. absurd (omega arith)) (λ same. absurd (omega arith))
            ] in
            omega arith
        | inr not_4 ↦
            let a = count_other s before 4 not_4 in
            elim (cases_eq n 7) [
              | inl seven ↦
                  let b = count_same s before 7 seven in
                  let six : last ≡ 6 = (let e = one_below last n f (omega arith) in omega arith) in
                  let now : begun n ≡ 0 = ap begun seven in
                  let was : begun last ≡ 1 = ap begun six in
                  omega arith
              | inr not_7 ↦
                  let b = count_other s before 7 not_7 in
                  let same : begun n ≡ begun last = elim (cases_eq n 5) [
                    | inl five ↦ ap begun five ∙ sym (ap begun (let x : last ≡ 4 = (let e = one_below last n f (omega arith) in omega arith) in x))
                    | inr not_5 ↦ elim (cases_eq n 6) [
                      | inl six ↦ ap begun six ∙ sym (ap begun (let x : last ≡ 5 = (let e = one_below last n f (omega arith) in omega arith) in x))
                      | inr not_6 ↦
                          begun_none n not_4 not_5 not_6
                          ∙ sym (elim f [
                            | next e l ↦ begun_none last (λ same. absurd (omega arith)) (λ same. absurd (omega arith)) (λ same. absurd (omega arith))
                            | skips x y ↦ begun_none last (λ same. absurd (omega arith)) (λ same. absurd (omega arith)) (λ same. absurd (omega arith))
                            | again x y z ↦ begun_none last (λ same. absurd (omega arith)) (λ same. absurd (omega arith)) (λ same. absurd (omega arith))
                          ])
                    ]
                  ] in
                  omega arith
            ]
      ]

  pub sound_after : AreSound profile (s ∷ before)
  sound_after = record {
    present = present_after;
    identification = identification_after;
    grid = grid_after;
    product = product_after;
    packing = packing_after;
    bitmap = bitmap_after;
    mask = mask_after;
    values = values_after;
    counted = counted_after;
    few = few_after;
  }

-- nothing came yet
pub sound_none : (profile : Profile) → AreSound profile []
sound_none profile = record {
  present = λ k low high two. absurd (omega arith);
  identification = λ h. absurd (omega arith);
  grid = λ h. absurd (omega arith);
  product = λ h. absurd (omega arith);
  packing = λ h. absurd (omega arith);
  bitmap = λ h. absurd (omega arith);
  mask = λ h. absurd (omega arith);
  values = λ h. absurd (omega arith);
  counted = refl;
  few = omega arith;
}
