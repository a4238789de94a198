-- Sections of a message with one field, which pass their rules, follow one another.
use Rattle.std.proofs.Common.{◌≡◌, ◌≢◌, ℕ, ◌+◌, ◌≤◌, ◌==◌, Bool, true, false, count_by, Option, None, List, [], ◌∷◌, length, refl, ap, ap₂, ◌∙◌, sym, arith, eq-eqb, ne_eqb}
use Rattle.grib_bits.specs.Octets.{StatesItself}
use Rattle.grib_base.specs.Rules.{first_fault, located}
use Rattle.grib_bitmap.specs.Mask.{bitmap_rules, mask_of}
use Rattle.grib_packing.specs.Packing.{value_count}
use Rattle.grib_packing.specs.Entries.{packing_fault_under, data_fault}
use Rattle.grib_base.specs.declared.profile.Profile.TheVariants.{Stated}
use Rattle.grib2_sections.specs.Frame.{Placed, placed_at, section_number, may_follow, may_end}
use Rattle.grib2_grids.specs.Grid.{grid_rules, grid_points}
use Rattle.grib2_products.specs.Product.{product_rules}
use Rattle.grib2_message.specs.Grammar.{IsSection, AreSections}
use Rattle.grib2_message.specs.View.{is_numbered, last_number, octets_in_force, points_in_force, earlier_mask, mask_in_force, section_count}
use Rattle.grib2_message.specs.Fields.{sections_up_to_field}
use Rattle.grib2_message.proofs.Latest.{octets_same, octets_other}
use Rattle.grib2_message.proofs.Placing.{placed_from}
use Rattle.grib2_message.proofs.Sound.{fault_of, mask_here, mask_kept, points_kept, count_other}

-- Sections 3 to 7 of a field, which no rule refuses, whatever bitmap stands before
pub record FieldPasses (s3 s4 s5 s6 s7 : List ℕ) : Type 0 where
  pub itself_3 : StatesItself 3 s3
  pub itself_4 : StatesItself 4 s4
  pub itself_5 : StatesItself 5 s5
  pub itself_6 : StatesItself 6 s6
  pub itself_7 : StatesItself 7 s7
  pub grid : first_fault (grid_rules s3) ≡ None
  pub product : first_fault (product_rules s4 1) ≡ None
  pub packing : packing_fault_under Stated s5 (grid_points s3) ≡ None
  pub bitmap : (earlier : Option (List Bool)) → first_fault (bitmap_rules s6 (grid_points s3) (value_count s5) earlier) ≡ None
  pub values : data_fault s5 s7 ≡ None

-- sections before the first Section 3
pub record ComesFirst (before : List Placed) : Type 0 where
  pub follows : may_follow (last_number before) 3 ≡ true
  pub none_yet : section_count 4 before ≡ 0

-- ---- the sections with their places, and those before each

module _ (before : List Placed) (start : ℕ) (s3 s4 s5 s6 s7 : List ℕ) where
  abbrev pub before_4 : List Placed
  before_4 = placed_at start s3 ∷ before

  abbrev pub before_5 : List Placed
  before_5 = placed_at (start + length s3) s4 ∷ placed_at start s3 ∷ before

  abbrev pub before_6 : List Placed
  before_6 = placed_at (start + length s3 + length s4) s5 ∷ placed_at (start + length s3) s4 ∷ placed_at start s3 ∷ before

  abbrev pub before_7 : List Placed
  before_7 =
      placed_at (start + length s3 + length s4 + length s5) s6 ∷ placed_at (start + length s3 + length s4) s5 ∷ placed_at (start + length s3) s4
      ∷ placed_at start s3 ∷ before

  abbrev pub all_7 : List Placed
  all_7 =
      placed_at (start + length s3 + length s4 + length s5 + length s6) s7 ∷ placed_at (start + length s3 + length s4 + length s5) s6
      ∷ placed_at (start + length s3 + length s4) s5 ∷ placed_at (start + length s3) s4 ∷ placed_at start s3 ∷ before

-- ---- what is in force before each

module _ (before : List Placed) (start : ℕ) (s3 s4 s5 s6 s7 : List ℕ) (first : ComesFirst before) (parts : FieldPasses s3 s4 s5 s6 s7) where
  none_4 : section_count 4 (before_4 before start s3 s4 s5 s6 s7) ≡ 0
  none_4 = count_other (placed_at start s3) before 4 (λ same. omega (arith, parts.itself_3.number_stands, same)) ∙ first.none_yet

  points_5 : points_in_force (before_5 before start s3 s4 s5 s6 s7) ≡ grid_points s3
  points_5 =
      points_kept (placed_at (start + length s3) s4) (before_4 before start s3 s4 s5 s6 s7) (λ same. omega (arith, parts.itself_4.number_stands, same))
      ∙ ap grid_points (octets_same (placed_at start s3) before 3 parts.itself_3.number_stands)

  points_6 : points_in_force (before_6 before start s3 s4 s5 s6 s7) ≡ grid_points s3
  points_6 =
      points_kept (placed_at (start + length s3 + length s4) s5) (before_5 before start s3 s4 s5 s6 s7) (λ same. omega (arith, parts.itself_5.number_stands, same))
      ∙ points_5

  representation_6 : octets_in_force 5 (before_6 before start s3 s4 s5 s6 s7) ≡ s5
  representation_6 = octets_same (placed_at (start + length s3 + length s4) s5) (before_5 before start s3 s4 s5 s6 s7) 5 parts.itself_5.number_stands

  representation_7 : octets_in_force 5 (before_7 before start s3 s4 s5 s6 s7) ≡ s5
  representation_7 =
      octets_other (placed_at (start + length s3 + length s4 + length s5) s6) (before_6 before start s3 s4 s5 s6 s7) 5 (λ same. omega (arith, parts.itself_6.number_stands, same))
      ∙ representation_6

-- ---- the sections follow one another

module _ (before : List Placed) (start : ℕ) (s3 s4 s5 s6 s7 : List ℕ) (first : ComesFirst before) (parts : FieldPasses s3 s4 s5 s6 s7) where
  is_3 : IsSection Stated before start s3
  is_3 = record {
    length_stands = parts.itself_3.length_stands;
    least = parts.itself_3.least;
    follows = ap (may_follow (last_number before)) parts.itself_3.number_stands ∙ first.follows;
    rules_hold = fault_of Stated before (placed_at start s3) 3 parts.itself_3.number_stands ∙ ap (located start) parts.grid;
  }

  is_4 : IsSection Stated (before_4 before start s3 s4 s5 s6 s7) (start + length s3) s4
  is_4 =
      let place = start + length s3 in
      let b = before_4 before start s3 s4 s5 s6 s7 in record {
        length_stands = parts.itself_4.length_stands;
        least = parts.itself_4.least;
        follows = ap₂ may_follow parts.itself_3.number_stands parts.itself_4.number_stands;
        rules_hold = fault_of Stated b (placed_at place s4) 4 parts.itself_4.number_stands
            ∙ ap (λ (n : ℕ). located place (first_fault (product_rules s4 (n + 1)))) (none_4 before start s3 s4 s5 s6 s7 first parts)
            ∙ ap (located place) parts.product;
      }

  is_5 : IsSection Stated (before_5 before start s3 s4 s5 s6 s7) (start + length s3 + length s4) s5
  is_5 =
      let place = start + length s3 + length s4 in
      let b = before_5 before start s3 s4 s5 s6 s7 in record {
        length_stands = parts.itself_5.length_stands;
        least = parts.itself_5.least;
        follows = ap₂ may_follow parts.itself_4.number_stands parts.itself_5.number_stands;
        rules_hold = fault_of Stated b (placed_at place s5) 5 parts.itself_5.number_stands
            ∙ ap (λ (points : ℕ). located place (packing_fault_under Stated s5 points)) (points_5 before start s3 s4 s5 s6 s7 first parts)
            ∙ ap (located place) parts.packing;
      }

  is_6 : IsSection Stated (before_6 before start s3 s4 s5 s6 s7) (start + length s3 + length s4 + length s5) s6
  is_6 =
      let place = start + length s3 + length s4 + length s5 in
      let b = before_6 before start s3 s4 s5 s6 s7 in
      let earlier = earlier_mask b in record {
        length_stands = parts.itself_6.length_stands;
        least = parts.itself_6.least;
        follows = ap₂ may_follow parts.itself_5.number_stands parts.itself_6.number_stands;
        rules_hold = fault_of Stated b (placed_at place s6) 6 parts.itself_6.number_stands
            ∙ ap₂ (λ (points : ℕ) (s : List ℕ). located place (first_fault (bitmap_rules s6 points (value_count s) earlier)))
            (points_6 before start s3 s4 s5 s6 s7 first parts) (representation_6 before start s3 s4 s5 s6 s7 first parts)
            ∙ ap (located place) (parts.bitmap earlier);
      }

  is_7 : IsSection Stated (before_7 before start s3 s4 s5 s6 s7) (start + length s3 + length s4 + length s5 + length s6) s7
  is_7 =
      let place = start + length s3 + length s4 + length s5 + length s6 in
      let b = before_7 before start s3 s4 s5 s6 s7 in record {
        length_stands = parts.itself_7.length_stands;
        least = parts.itself_7.least;
        follows = ap₂ may_follow parts.itself_6.number_stands parts.itself_7.number_stands;
        rules_hold = fault_of Stated b (placed_at place s7) 7 parts.itself_7.number_stands
            ∙ ap (λ (s : List ℕ). located place (data_fault s s7)) (representation_7 before start s3 s4 s5 s6 s7 first parts)
            ∙ ap (located place) parts.values;
      }

module _ (before : List Placed) (start : ℕ) (s3 s4 s5 s6 s7 : List ℕ) (first : ComesFirst before) (parts : FieldPasses s3 s4 s5 s6 s7) where
  pub field_follows : AreSections Stated before start (s3 ∷ s4 ∷ s5 ∷ s6 ∷ s7 ∷ [])
  field_follows = (
    is_3 before start s3 s4 s5 s6 s7 first parts,
    (
      is_4 before start s3 s4 s5 s6 s7 first parts,
      (
        is_5 before start s3 s4 s5 s6 s7 first parts,
        (is_6 before start s3 s4 s5 s6 s7 first parts, (is_7 before start s3 s4 s5 s6 s7 first parts, ap may_end parts.itself_7.number_stands)),
      ),
    ),
  )

-- ---- its only field

pub not_last : (number : ℕ) (s : List ℕ) → StatesItself number s → number ≢ 7 → (section_number s == 7) ≡ false
not_last number s itself other = ne_eqb (section_number s) 7 (λ same. other (sym itself.number_stands ∙ same))

module _ (before : List Placed) (start : ℕ) (s3 s4 s5 s6 s7 : List ℕ) (parts : FieldPasses s3 s4 s5 s6 s7) where
  last_7 : (section_number s7 == 7) ≡ true
  last_7 = eq-eqb (section_number s7) 7 parts.itself_7.number_stands

  not_3 : (section_number s3 == 7) ≡ false
  not_3 = not_last 3 s3 parts.itself_3 (λ same. omega (arith, same))

  not_4 : (section_number s4 == 7) ≡ false
  not_4 = not_last 4 s4 parts.itself_4 (λ same. omega (arith, same))

  not_5 : (section_number s5 == 7) ≡ false
  not_5 = not_last 5 s5 parts.itself_5 (λ same. omega (arith, same))

  not_6 : (section_number s6 == 7) ≡ false
  not_6 = not_last 6 s6 parts.itself_6 (λ same. omega (arith, same))

  pub one_last : count_by (is_numbered 7) (placed_from start (s3 ∷ s4 ∷ s5 ∷ s6 ∷ s7 ∷ [])) ≡ 1
  one_last = rw (not_3, not_4, not_5, not_6, last_7) refl

  pub up_to_last : sections_up_to_field 1 before (placed_from start (s3 ∷ s4 ∷ s5 ∷ s6 ∷ s7 ∷ [])) ≡ all_7 before start s3 s4 s5 s6 s7
  up_to_last = rw (not_3, not_4, not_5, not_6, last_7) refl

-- ---- its parts

module _ (before : List Placed) (start : ℕ) (s3 s4 s5 s6 s7 : List ℕ) (first : ComesFirst before) (parts : FieldPasses s3 s4 s5 s6 s7) where
  pub mask_stands : mask_in_force (all_7 before start s3 s4 s5 s6 s7) ≡ mask_of s6 (grid_points s3) (earlier_mask (before_6 before start s3 s4 s5 s6 s7))
  mask_stands =
      mask_kept (placed_at (start + length s3 + length s4 + length s5 + length s6) s7) (before_7 before start s3 s4 s5 s6 s7) (λ same. omega (arith, parts.itself_7.number_stands, same))
      ∙ mask_here (placed_at (start + length s3 + length s4 + length s5) s6) (before_6 before start s3 s4 s5 s6 s7) parts.itself_6.number_stands
      ∙ ap (λ (points : ℕ). mask_of s6 points (earlier_mask (before_6 before start s3 s4 s5 s6 s7))) (points_6 before start s3 s4 s5 s6 s7 first parts)

  pub packing_stands : octets_in_force 5 (all_7 before start s3 s4 s5 s6 s7) ≡ s5
  packing_stands =
      octets_other (placed_at (start + length s3 + length s4 + length s5 + length s6) s7) (before_7 before start s3 s4 s5 s6 s7) 5 (λ same. omega (arith, parts.itself_7.number_stands, same))
      ∙ representation_7 before start s3 s4 s5 s6 s7 first parts

  pub values_stand : octets_in_force 7 (all_7 before start s3 s4 s5 s6 s7) ≡ s7
  values_stand = octets_same (placed_at (start + length s3 + length s4 + length s5 + length s6) s7) (before_7 before start s3 s4 s5 s6 s7) 7 parts.itself_7.number_stands

  -- what stands before Section 5
  before_packing : (k : ℕ) → k ≤ 4 → octets_in_force k (all_7 before start s3 s4 s5 s6 s7) ≡ octets_in_force k (before_5 before start s3 s4 s5 s6 s7)
  before_packing k few =
      octets_other (placed_at (start + length s3 + length s4 + length s5 + length s6) s7) (before_7 before start s3 s4 s5 s6 s7) k (λ same. omega (arith, parts.itself_7.number_stands, same, few))
      ∙ octets_other (placed_at (start + length s3 + length s4 + length s5) s6) (before_6 before start s3 s4 s5 s6 s7) k (λ same. omega (arith, parts.itself_6.number_stands, same, few))
      ∙ octets_other (placed_at (start + length s3 + length s4) s5) (before_5 before start s3 s4 s5 s6 s7) k (λ same. omega (arith, parts.itself_5.number_stands, same, few))

  pub product_stands : octets_in_force 4 (all_7 before start s3 s4 s5 s6 s7) ≡ s4
  product_stands =
      before_packing 4 (omega arith) ∙ octets_same (placed_at (start + length s3) s4) (before_4 before start s3 s4 s5 s6 s7) 4 parts.itself_4.number_stands

  pub grid_stands : octets_in_force 3 (all_7 before start s3 s4 s5 s6 s7) ≡ s3
  grid_stands =
      before_packing 3 (omega arith)
      ∙ octets_other (placed_at (start + length s3) s4) (before_4 before start s3 s4 s5 s6 s7) 3 (λ same. omega (arith, parts.itself_4.number_stands, same))
      ∙ octets_same (placed_at start s3) before 3 parts.itself_3.number_stands

  pub front_stands : (k : ℕ) → k ≤ 2 → octets_in_force k (all_7 before start s3 s4 s5 s6 s7) ≡ octets_in_force k before
  front_stands k few =
      before_packing k (omega (arith, few))
      ∙ octets_other (placed_at (start + length s3) s4) (before_4 before start s3 s4 s5 s6 s7) k (λ same. omega (arith, parts.itself_4.number_stands, same, few))
      ∙ octets_other (placed_at start s3) before k (λ same. omega (arith, parts.itself_3.number_stands, same, few))
