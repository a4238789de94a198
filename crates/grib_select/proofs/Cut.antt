-- The sections of a field, one after another, as a message of their own.
use Rattle.std.proofs.Common.{◌≡◌, ◌≢◌, ℕ, ◌+◌, Bool, true, false, not, cond, IsTrue, ◌==◌, Option, Some, None, is_none, unwrap_or, List, [], ◌∷◌, length, get_or, replicate, inl, inr, refl, sym, ap, ◌∙◌, arith, subst, eq-eqb, eqb-true}
use Rattle.std.specs.List.{count_by}
use Rattle.std.proofs.lemmas.Bool.{cases_eq, not-false}
use Rattle.grib_bits.specs.Octets.{StatesItself}
use Rattle.grib_base.specs.Rules.{first_fault, located}
use Rattle.grib_bitmap.specs.Mask.{bitmap_indicator, bitmap_rules, mask_of, own_mask, present_count}
use Rattle.grib_packing.specs.Packing.{value_count}
use Rattle.grib_packing.specs.Entries.{packing_fault_under, data_fault}
use Rattle.grib_base.specs.declared.profile.Profile.{Profile}
use Rattle.grib2_sections.specs.Frame.{Placed, placed_at, section_number, may_follow, may_end}
use Rattle.grib2_grids.specs.Grid.{grid_points}
use Rattle.grib2_grids.specs.Opaque.{grid_rules_under}
use Rattle.grib2_products.specs.Opaque.{product_rules_under}
use Rattle.grib2_message.specs.View.{is_numbered, last_number, octets_in_force, points_in_force, earlier_bitmap, first_octets, own_bitmap, bitmap_mask, earlier_mask, mask_in_force, section_count}
use Rattle.grib2_message.specs.Acceptance.{no_rules, contents_faults}
use Rattle.grib2_message.specs.Grammar.{IsSection, AreSections}
use Rattle.grib2_message.specs.Fields.{sections_up_to_field}
use Rattle.grib2_message.proofs.Passed.{passes_from_none}
use Rattle.grib2_message.proofs.Walk.{second_fails}
use Rattle.grib2_message.proofs.Latest.{octets_same, octets_other, own_alone, own_repeated}
use Rattle.grib2_message.proofs.Bitmaps.{mask_alone, rules_alone, mask_from_own, own_tells}
use Rattle.grib2_message.proofs.Sound.{none_located, fault_of, earlier_kept, earlier_not_own, bitmap_own, bitmap_kept, bitmap_not_own, mask_here, mask_kept, points_kept, count_other}
use Rattle.grib2_message.proofs.Placing.{placed_from}
use Rattle.grib2_message.proofs.Ways.{up_here, up_other}
use Rattle.grib_select.proofs.Accepted.{AreAccepted, sound_of, part_itself, count_7, count_none}

-- ---- the bitmap with the bits of a field

-- the last Section 6 with bits of its own
pub record EarlierBitmap (profile : Profile) (before : List Placed) : Type 0 where
  pub first : Placed
  pub rest : List Placed
  pub is : earlier_bitmap before ≡ first ∷ rest
  pub own : bitmap_indicator first.octets ≡ 0
  pub section : IsSection profile rest first.start first.octets
  pub numbered : section_number first.octets ≡ 6

behind : (profile : Profile) (s : Placed) (before : List Placed) → earlier_bitmap (s ∷ before) ≡ earlier_bitmap before → EarlierBitmap profile before → EarlierBitmap profile (s ∷ before)
behind profile s before e r = record { first = r.first; rest = r.rest; is = e ∙ r.is; own = r.own; section = r.section; numbered = r.numbered }

pub earlier_accepted : (profile : Profile) (before : List Placed) → AreAccepted profile before → earlier_mask before ≢ None → EarlierBitmap profile before
earlier_accepted profile [] h some = absurd (some refl)
earlier_accepted profile (s ∷ before) h some =
    elim (cases_eq (section_number s.octets) 6) [
      | inl six ↦ elim (cases_eq (bitmap_indicator s.octets) 0) [
        | inl own ↦ record { first = s; rest = before; is = bitmap_own s before six own; own = own; section = h.0; numbered = six }
        | inr other ↦ behind profile s before (bitmap_not_own s before six other) (earlier_accepted profile before h.1 (λ none. some (earlier_not_own s before six other ∙ none)))
      ]
      | inr other ↦ behind profile s before (bitmap_kept s before other) (earlier_accepted profile before h.1 (λ none. some (earlier_kept s before other ∙ none)))
    ]

-- it needs no other section for its mask, which is that of the field
pub record StandsAlone (before : List Placed) (b : List ℕ) : Type 0 where
  pub itself : StatesItself 6 b
  pub alone : bitmap_indicator b ≢ 254
  pub rules : first_fault (bitmap_rules b (points_in_force before) (value_count (octets_in_force 5 before)) None) ≡ None
  pub mask : mask_of b (points_in_force before) None ≡ mask_in_force before

module _ (profile : Profile) (before : List Placed) (h : AreAccepted profile before) (ends : last_number before ≡ 7) where
  alone_in_force : bitmap_indicator (octets_in_force 6 before) ≢ 254 → StandsAlone before (octets_in_force 6 before)
  alone_in_force other =
      let s = octets_in_force 6 before in
      let points = points_in_force before in
      let values = value_count (octets_in_force 5 before) in
      let sound = sound_of profile before h in
      record {
        itself = part_itself profile 6 before h (omega arith) (omega (arith, ends)) (λ e. absurd (omega arith));
        alone = other;
        rules = rules_alone s points values other None (earlier_mask before) ∙ sound.bitmap (omega (arith, ends));
        mask = mask_alone s points 0 other None (earlier_mask before) ∙ sym (sound.mask (omega (arith, ends)));
      }

  there_is : bitmap_indicator (octets_in_force 6 before) ≡ 254 → earlier_mask before ≢ None
  there_is repeats none =
      let s = octets_in_force 6 before in
      let rules = passes_from_none (bitmap_rules s (points_in_force before) (value_count (octets_in_force 5 before)) (earlier_mask before)) ((sound_of profile before h).bitmap (omega (arith, ends))) in
      let off : is_none (earlier_mask before) ≡ false = second_fails (bitmap_indicator s == 254) (is_none (earlier_mask before)) rules.1.1.0 (eq-eqb _ 254 repeats) in
      let on : is_none (earlier_mask before) ≡ true = ap is_none none in
      absurd (cc)

  alone_earlier : bitmap_indicator (octets_in_force 6 before) ≡ 254 → (e : EarlierBitmap profile before) → StandsAlone before e.first.octets
  alone_earlier repeats e =
      let s = octets_in_force 6 before in
      let points = points_in_force before in
      let values = value_count (octets_in_force 5 before) in
      let sound = sound_of profile before h in
      let none : first_fault (bitmap_rules s points values (earlier_mask before)) ≡ None = sound.bitmap (omega (arith, ends)) in
      let rules = passes_from_none (bitmap_rules s points values (earlier_mask before)) none in
      let b = e.first.octets in
      let its_points = points_in_force e.rest in
      let its_values = value_count (octets_in_force 5 e.rest) in
      let mask_is : earlier_mask before ≡ Some (own_mask b its_points) = ap bitmap_mask e.is in
      let other : bitmap_indicator b ≢ 254 = λ same. absurd (omega (arith, e.own)) in
      let its_rules : first_fault (bitmap_rules b its_points its_values None) ≡ None =
      rules_alone b its_points its_values other None (earlier_mask e.rest)
      ∙ none_located e.first.start (first_fault (bitmap_rules b its_points its_values (earlier_mask e.rest)))
      (sym (fault_of profile e.rest e.first 6 e.numbered) ∙ e.section.rules_hold) in
      let told = own_tells b its_points its_values e.own its_rules in
      let force : mask_of s points (earlier_mask before) ≡ unwrap_or (earlier_mask before) [] =
      ap (λ (i : ℕ). cond (i == 255) (replicate points true) (cond (i == 254) (unwrap_or (earlier_mask before) []) (own_mask s points))) repeats in
      let held : unwrap_or (earlier_mask before) [] ≡ own_mask b its_points = ap (λ (o : Option (List Bool)). unwrap_or o []) mask_is in
      let size : length (unwrap_or (earlier_mask before) []) ≡ points =
      eqb-true _ points (not-false (length (unwrap_or (earlier_mask before) []) == points)
      (second_fails (bitmap_indicator s == 254) (not (length (unwrap_or (earlier_mask before) []) == points)) rules.1.1.1.1.0 (eq-eqb _ 254 repeats))) in
      let present : present_count (mask_of s points (earlier_mask before)) ≡ values = eqb-true _ _ (not-false _ rules.1.1.1.1.1.0) in
      let same_points : its_points ≡ points = sym told.0 ∙ ap length (sym held) ∙ size in
      let same_values : its_values ≡ values = sym told.1 ∙ ap present_count (sym (force ∙ held)) ∙ present in
      record {
        itself = record { length_stands = e.section.length_stands; least = e.section.least; number_stands = e.numbered };
        alone = other;
        rules = sym (λ i. first_fault (bitmap_rules b (same_points i) (same_values i) None)) ∙ its_rules;
        mask = mask_from_own b points e.own None ∙ ap (own_mask b) (sym same_points) ∙ sym (sound.mask (omega (arith, ends)) ∙ force ∙ held);
      }

  pub stands_alone : StandsAlone before (own_bitmap before)
  stands_alone = elim (cases_eq (bitmap_indicator (octets_in_force 6 before)) 254) [
    | inl repeats ↦
        let e = earlier_accepted profile before h (there_is repeats) in
        subst (λ b. StandsAlone before b) (sym (own_repeated before repeats ∙ ap first_octets e.is)) (alone_earlier repeats e)
    | inr other ↦ subst (λ b. StandsAlone before b) (sym (own_alone before other)) (alone_in_force other)
  ]

-- ---- Sections 3 to 7 of a field after Section 1 or 2

pub stands_here : (profile : Profile) (before : List Placed) (q n : ℕ) (s : List ℕ) → StatesItself n s → IsTrue (may_follow (last_number before) n)
    → get_or (contents_faults profile) n no_rules before (placed_at q s) ≡ None → IsSection profile before q s
stands_here profile before q n s itself follows rules = record {
  length_stands = itself.length_stands;
  least = itself.least;
  follows = ap (may_follow (last_number before)) itself.number_stands ∙ follows;
  rules_hold = fault_of profile before (placed_at q s) n itself.number_stands ∙ rules;
}

-- sections that no rule refuses
pub record Parts (profile : Profile) (p3 p4 p5 p6 p7 : List ℕ) : Type 0 where
  pub itself_3 : StatesItself 3 p3
  pub itself_4 : StatesItself 4 p4
  pub itself_5 : StatesItself 5 p5
  pub itself_6 : StatesItself 6 p6
  pub itself_7 : StatesItself 7 p7
  pub grid : first_fault (grid_rules_under profile p3) ≡ None
  pub product : first_fault (product_rules_under profile p4 1) ≡ None
  pub packing : packing_fault_under profile p5 (grid_points p3) ≡ None
  pub alone : bitmap_indicator p6 ≢ 254
  pub bitmap : first_fault (bitmap_rules p6 (grid_points p3) (value_count p5) None) ≡ None
  pub values : data_fault p5 p7 ≡ None

-- what is in force at the end of the field
abbrev pub all_parts : List Placed → ℕ → List ℕ → List ℕ → List ℕ → List ℕ → List ℕ → List Placed
all_parts head q p3 p4 p5 p6 p7 =
    placed_at (q + length p3 + length p4 + length p5 + length p6) p7 ∷ placed_at (q + length p3 + length p4 + length p5) p6
    ∷ placed_at (q + length p3 + length p4) p5 ∷ placed_at (q + length p3) p4 ∷ placed_at q p3 ∷ head

module _ (profile : Profile) (head : List Placed) (q : ℕ) (p3 p4 p5 p6 p7 : List ℕ) (h : Parts profile p3 p4 p5 p6 p7) where
  -- the places
  abbrev q4 : ℕ
  q4 = q + length p3

  abbrev q5 : ℕ
  q5 = q + length p3 + length p4

  abbrev q6 : ℕ
  q6 = q + length p3 + length p4 + length p5

  abbrev q7 : ℕ
  q7 = q + length p3 + length p4 + length p5 + length p6

  abbrev s3 : Placed
  s3 = placed_at q p3

  abbrev s4 : Placed
  s4 = placed_at q4 p4

  abbrev s5 : Placed
  s5 = placed_at q5 p5

  abbrev s6 : Placed
  s6 = placed_at q6 p6

  abbrev s7 : Placed
  s7 = placed_at q7 p7

  is_not : (n k : ℕ) (s : List ℕ) → StatesItself n s → n ≢ k → section_number s ≢ k
  is_not n k s itself other same = other (sym itself.number_stands ∙ same)

  points_4 : points_in_force (s4 ∷ s3 ∷ head) ≡ grid_points p3
  points_4 = points_kept s4 (s3 ∷ head) (is_not 4 3 p4 h.itself_4 (λ e. absurd (omega arith))) ∙ ap grid_points (octets_same s3 head 3 h.itself_3.number_stands)

  points_5 : points_in_force (s5 ∷ s4 ∷ s3 ∷ head) ≡ grid_points p3
  points_5 = points_kept s5 (s4 ∷ s3 ∷ head) (is_not 5 3 p5 h.itself_5 (λ e. absurd (omega arith))) ∙ points_4

  five_5 : octets_in_force 5 (s5 ∷ s4 ∷ s3 ∷ head) ≡ p5
  five_5 = octets_same s5 (s4 ∷ s3 ∷ head) 5 h.itself_5.number_stands

  five_6 : octets_in_force 5 (s6 ∷ s5 ∷ s4 ∷ s3 ∷ head) ≡ p5
  five_6 = octets_other s6 (s5 ∷ s4 ∷ s3 ∷ head) 5 (is_not 6 5 p6 h.itself_6 (λ e. absurd (omega arith))) ∙ five_5

  pub five_all : octets_in_force 5 (all_parts head q p3 p4 p5 p6 p7) ≡ p5
  five_all = octets_other s7 (s6 ∷ s5 ∷ s4 ∷ s3 ∷ head) 5 (is_not 7 5 p7 h.itself_7 (λ e. absurd (omega arith))) ∙ five_6

  pub seven_all : octets_in_force 7 (all_parts head q p3 p4 p5 p6 p7) ≡ p7
  seven_all = octets_same s7 (s6 ∷ s5 ∷ s4 ∷ s3 ∷ head) 7 h.itself_7.number_stands

  pub mask_all : mask_in_force (all_parts head q p3 p4 p5 p6 p7) ≡ mask_of p6 (grid_points p3) None
  mask_all =
      mask_kept s7 (s6 ∷ s5 ∷ s4 ∷ s3 ∷ head) (is_not 7 6 p7 h.itself_7 (λ e. absurd (omega arith)))
      ∙ mask_here s6 (s5 ∷ s4 ∷ s3 ∷ head) h.itself_6.number_stands
      ∙ ap (λ (points : ℕ). mask_of p6 points (earlier_mask (s5 ∷ s4 ∷ s3 ∷ head))) points_5
      ∙ mask_alone p6 (grid_points p3) 0 h.alone (earlier_mask (s5 ∷ s4 ∷ s3 ∷ head)) None

  after : (n m : ℕ) (s : List ℕ) → StatesItself n s → may_follow n m ≡ true → IsTrue (may_follow (section_number s) m)
  after n m s itself e = ap (λ (k : ℕ). may_follow k m) itself.number_stands ∙ e

  pub parts_follow : IsTrue (may_follow (last_number head) 3) → section_count 4 head ≡ 0 → AreSections profile head q (p3 ∷ p4 ∷ p5 ∷ p6 ∷ p7 ∷ [])
  parts_follow follows none =
      let count : section_count 4 (s3 ∷ head) + 1 ≡ 1 =
      ap (λ (n : ℕ). n + 1) (count_other s3 head 4 (is_not 3 4 p3 h.itself_3 (λ e. absurd (omega arith))) ∙ none) in (
        stands_here profile head q 3 p3 h.itself_3 follows (ap (located q) h.grid),
        (
          stands_here profile (s3 ∷ head) q4 4 p4 h.itself_4 (after 3 4 p3 h.itself_3 refl)
              (ap (λ (n : ℕ). located q4 (first_fault (product_rules_under profile p4 n))) count ∙ ap (located q4) h.product),
          (
            stands_here profile (s4 ∷ s3 ∷ head) q5 5 p5 h.itself_5 (after 4 5 p4 h.itself_4 refl)
                (ap (λ (n : ℕ). located q5 (packing_fault_under profile p5 n)) points_4 ∙ ap (located q5) h.packing),
            (
              stands_here profile (s5 ∷ s4 ∷ s3 ∷ head) q6 6 p6 h.itself_6 (after 5 6 p5 h.itself_5 refl)
                  (ap (located q6)
                  ((λ i. first_fault (bitmap_rules p6 (points_5 i) (value_count (five_5 i)) (earlier_mask (s5 ∷ s4 ∷ s3 ∷ head))))
                  ∙ rules_alone p6 (grid_points p3) (value_count p5) h.alone (earlier_mask (s5 ∷ s4 ∷ s3 ∷ head)) None ∙ h.bitmap)),
              (
                stands_here profile (s6 ∷ s5 ∷ s4 ∷ s3 ∷ head) q7 7 p7 h.itself_7 (after 6 7 p6 h.itself_6 refl)
                    (ap (located q7) (ap (λ x. data_fault x p7) five_6 ∙ h.values)),
                ap may_end h.itself_7.number_stands,
              ),
            ),
          ),
        ),
      )

  -- the sections with their places
  abbrev found : List Placed
  found = placed_from q (p3 ∷ p4 ∷ p5 ∷ p6 ∷ p7 ∷ [])

  pub up_to_end : sections_up_to_field 1 head found ≡ all_parts head q p3 p4 p5 p6 p7
  up_to_end =
      up_other s3 head (s4 ∷ s5 ∷ s6 ∷ s7 ∷ []) 0 (is_not 3 7 p3 h.itself_3 (λ e. absurd (omega arith)))
      ∙ up_other s4 (s3 ∷ head) (s5 ∷ s6 ∷ s7 ∷ []) 0 (is_not 4 7 p4 h.itself_4 (λ e. absurd (omega arith)))
      ∙ up_other s5 (s4 ∷ s3 ∷ head) (s6 ∷ s7 ∷ []) 0 (is_not 5 7 p5 h.itself_5 (λ e. absurd (omega arith)))
      ∙ up_other s6 (s5 ∷ s4 ∷ s3 ∷ head) (s7 ∷ []) 0 (is_not 6 7 p6 h.itself_6 (λ e. absurd (omega arith)))
      ∙ up_here s7 (s6 ∷ s5 ∷ s4 ∷ s3 ∷ head) [] h.itself_7.number_stands

  pub one_end : count_by (is_numbered 7) found ≡ 1
  one_end =
      count_none s3 (s4 ∷ s5 ∷ s6 ∷ s7 ∷ []) (is_not 3 7 p3 h.itself_3 (λ e. absurd (omega arith)))
      ∙ count_none s4 (s5 ∷ s6 ∷ s7 ∷ []) (is_not 4 7 p4 h.itself_4 (λ e. absurd (omega arith)))
      ∙ count_none s5 (s6 ∷ s7 ∷ []) (is_not 5 7 p5 h.itself_5 (λ e. absurd (omega arith)))
      ∙ count_none s6 (s7 ∷ []) (is_not 6 7 p6 h.itself_6 (λ e. absurd (omega arith)))
      ∙ count_7 s7 [] h.itself_7.number_stands
