-- A message with one field, with or without a Section 2, whose sections pass their rules, is accepted.
use Rattle.std.proofs.Common.{◌≡◌, ℕ, ◌+◌, ◌≤◌, ◌==◌, Bool, true, false, count_by, Option, None, List, [], ◌∷◌, length, refl, ap, ap₂, ◌∙◌, sym, subst, arith, length-append, append-nil}
use Rattle.std.specs.List.{concat}
use Rattle.grib_bits.specs.Octets.{StatesItself}
use Rattle.grib_bits.proofs.Encoding.{num_on-octets_of}
use Rattle.grib_base.specs.Rules.{first_fault, located}
use Rattle.grib_bitmap.specs.Mask.{mask_of}
use Rattle.grib_packing.specs.Entries.{column_from}
use Rattle.grib_base.specs.declared.profile.Profile.TheVariants.{Stated}
use Rattle.grib2_sections.specs.Head.{end_mark}
use Rattle.grib2_sections.specs.Frame.{Placed, placed_at, section_number, may_follow}
use Rattle.grib2_sections.specs.Identification.{identification_rules}
use Rattle.grib2_grids.specs.Grid.{grid_points}
use Rattle.grib2_message.specs.Acceptance.{verdict_2}
use Rattle.grib2_message.specs.Grammar.{IsSection, AreSections, Grammar2}
use Rattle.grib2_message.specs.Message.{IsMessage}
use Rattle.grib2_message.specs.View.{is_numbered, octets_in_force, mask_in_force, earlier_mask, section_count}
use Rattle.grib2_message.specs.Fields.{field_count, sections_up_to_field, field_sections, part_octets, column_of}
use Rattle.grib2_message.proofs.Latest.{octets_same, octets_other}
use Rattle.grib2_message.proofs.Placing.{placed_from}
use Rattle.grib2_message.proofs.Sound.{fault_of, count_other}
use Rattle.grib2_message.proofs.Whole.{grammar_accepted, sections_alone}
use Rattle.grib_migrate.specs.Migrated.{message_with}
use Rattle.grib_migrate_law.proofs.OneField.{FieldPasses, ComesFirst, before_6, all_7, field_follows, not_last, one_last, up_to_last, mask_stands, packing_stands, values_stand, product_stands, grid_stands, front_stands}

-- Sections 1 and 2, which no rule refuses
pub record FrontPasses (s1 s2 : List ℕ) : Type 0 where
  pub itself_1 : StatesItself 1 s1
  pub itself_2 : StatesItself 2 s2
  pub identification : first_fault (identification_rules s1) ≡ None

-- the sections, with Section 2 or without it
abbrev pub sections_with : Bool → List ℕ → List ℕ → List ℕ → List ℕ → List ℕ → List ℕ → List ℕ → List (List ℕ)
sections_with true s1 s2 s3 s4 s5 s6 s7 = s1 ∷ s2 ∷ s3 ∷ s4 ∷ s5 ∷ s6 ∷ s7 ∷ []
sections_with false s1 s2 s3 s4 s5 s6 s7 = s1 ∷ s3 ∷ s4 ∷ s5 ∷ s6 ∷ s7 ∷ []

-- those before Section 3, and where Section 3 begins
abbrev pub front_with : Bool → List ℕ → List ℕ → List Placed
front_with true s1 s2 = placed_at (17 + length s1) s2 ∷ placed_at 17 s1 ∷ []
front_with false s1 s2 = placed_at 17 s1 ∷ []

abbrev pub start_with : Bool → List ℕ → List ℕ → ℕ
start_with true s1 s2 = 17 + length s1 + length s2
start_with false s1 s2 = 17 + length s1

module _ (s1 s2 : List ℕ) (passes : FrontPasses s1 s2) where
  count_1 : section_count 4 (placed_at 17 s1 ∷ []) ≡ 0
  count_1 = count_other (placed_at 17 s1) [] 4 (λ same. omega (arith, passes.itself_1.number_stands, same))

  pub front_first : (has : Bool) → ComesFirst (front_with has s1 s2)
  front_first true = record {
    follows = ap (λ (n : ℕ). may_follow n 3) passes.itself_2.number_stands;
    none_yet = count_other (placed_at (17 + length s1) s2) (placed_at 17 s1 ∷ []) 4 (λ same. omega (arith, passes.itself_2.number_stands, same)) ∙ count_1;
  }
  front_first false = record { follows = ap (λ (n : ℕ). may_follow n 3) passes.itself_1.number_stands; none_yet = count_1 }

  first_1 : (has : Bool) → octets_in_force 1 (front_with has s1 s2) ≡ s1
  first_1 true =
      octets_other (placed_at (17 + length s1) s2) (placed_at 17 s1 ∷ []) 1 (λ same. omega (arith, passes.itself_2.number_stands, same))
      ∙ octets_same (placed_at 17 s1) [] 1 passes.itself_1.number_stands
  first_1 false = octets_same (placed_at 17 s1) [] 1 passes.itself_1.number_stands

  first_2 : octets_in_force 2 (front_with true s1 s2) ≡ s2
  first_2 = octets_same (placed_at (17 + length s1) s2) (placed_at 17 s1 ∷ []) 2 passes.itself_2.number_stands

  is_1 : IsSection Stated [] 17 s1
  is_1 = record {
    length_stands = passes.itself_1.length_stands;
    least = passes.itself_1.least;
    follows = ap (may_follow 0) passes.itself_1.number_stands;
    rules_hold = fault_of Stated [] (placed_at 17 s1) 1 passes.itself_1.number_stands ∙ ap (located 17) passes.identification;
  }

  is_2 : IsSection Stated (placed_at 17 s1 ∷ []) (17 + length s1) s2
  is_2 = record {
    length_stands = passes.itself_2.length_stands;
    least = passes.itself_2.least;
    follows = ap₂ may_follow passes.itself_1.number_stands passes.itself_2.number_stands;
    rules_hold = fault_of Stated (placed_at 17 s1 ∷ []) (placed_at (17 + length s1) s2) 2 passes.itself_2.number_stands;
  }

module _ (s1 s2 s3 s4 s5 s6 s7 : List ℕ) (front : FrontPasses s1 s2) (parts : FieldPasses s3 s4 s5 s6 s7) where
  pub sections_follow : (has : Bool) → AreSections Stated [] 17 (sections_with has s1 s2 s3 s4 s5 s6 s7)
  sections_follow true =
      (is_1 s1 s2 front, (is_2 s1 s2 front, field_follows (front_with true s1 s2) (start_with true s1 s2) s3 s4 s5 s6 s7 (front_first s1 s2 front true) parts))
  sections_follow false =
      (is_1 s1 s2 front, field_follows (front_with false s1 s2) (start_with false s1 s2) s3 s4 s5 s6 s7 (front_first s1 s2 front false) parts)

  not_1 : (section_number s1 == 7) ≡ false
  not_1 = not_last 1 s1 front.itself_1 (λ same. omega (arith, same))

  not_2 : (section_number s2 == 7) ≡ false
  not_2 = not_last 2 s2 front.itself_2 (λ same. omega (arith, same))

  pub one_in_all : (has : Bool) → count_by (is_numbered 7) (placed_from 17 (sections_with has s1 s2 s3 s4 s5 s6 s7)) ≡ 1
  one_in_all true = rw (not_1, not_2) (one_last (front_with true s1 s2) (start_with true s1 s2) s3 s4 s5 s6 s7 parts)
  one_in_all false = rw not_1 (one_last (front_with false s1 s2) (start_with false s1 s2) s3 s4 s5 s6 s7 parts)

  pub up_to_all : (has : Bool) → sections_up_to_field 1 [] (placed_from 17 (sections_with has s1 s2 s3 s4 s5 s6 s7))
      ≡ all_7 (front_with has s1 s2) (start_with has s1 s2) s3 s4 s5 s6 s7
  up_to_all true = rw (not_1, not_2) (up_to_last (front_with true s1 s2) (start_with true s1 s2) s3 s4 s5 s6 s7 parts)
  up_to_all false = rw not_1 (up_to_last (front_with false s1 s2) (start_with false s1 s2) s3 s4 s5 s6 s7 parts)

-- ---- the message

abbrev pub message_of : ℕ → Bool → List ℕ → List ℕ → List ℕ → List ℕ → List ℕ → List ℕ → List ℕ → List ℕ
message_of discipline has s1 s2 s3 s4 s5 s6 s7 =
    let rest = concat (sections_with has s1 s2 s3 s4 s5 s6 s7) in message_with discipline (16 + length rest + 4) rest

length-message : (discipline : ℕ) (has : Bool) (s1 s2 s3 s4 s5 s6 s7 : List ℕ)
    → length (message_of discipline has s1 s2 s3 s4 s5 s6 s7) ≡ 20 + length (concat (sections_with has s1 s2 s3 s4 s5 s6 s7))
length-message discipline has s1 s2 s3 s4 s5 s6 s7 =
    omega (arith, length-append (concat (sections_with has s1 s2 s3 s4 s5 s6 s7)) end_mark)

module _ (discipline : ℕ) (has : Bool) (s1 s2 s3 s4 s5 s6 s7 : List ℕ) (front : FrontPasses s1 s2) (parts : FieldPasses s3 s4 s5 s6 s7)
    (short : length (concat (sections_with has s1 s2 s3 s4 s5 s6 s7)) ≤ 268435000) where
  in_grammar : Grammar2 (message_of discipline has s1 s2 s3 s4 s5 s6 s7) (sections_with has s1 s2 s3 s4 s5 s6 s7)
  in_grammar =
      let rest = concat (sections_with has s1 s2 s3 s4 s5 s6 s7) in
      let whole = length-message discipline has s1 s2 s3 s4 s5 s6 s7 in
      record {
        joined = refl;
        indicated = refl;
        edition_stands = refl;
        total_stands = num_on-octets_of 8 (16 + length rest + 4) (omega (arith, short)) ∙ omega (arith, whole);
        least = omega (arith, whole);
        most = omega (arith, whole, short);
        sections_follow = sections_follow s1 s2 s3 s4 s5 s6 s7 front parts has;
      }

module _ (discipline : ℕ) (has : Bool) (s1 s2 s3 s4 s5 s6 s7 : List ℕ) (front : FrontPasses s1 s2) (parts : FieldPasses s3 s4 s5 s6 s7)
    (short : length (concat (sections_with has s1 s2 s3 s4 s5 s6 s7)) ≤ 268435000) (m : List ℕ) (is : m ≡ message_of discipline has s1 s2 s3 s4 s5 s6 s7) where
  grammar : Grammar2 m (sections_with has s1 s2 s3 s4 s5 s6 s7)
  grammar =
      subst (λ (octets : List ℕ). Grammar2 octets (sections_with has s1 s2 s3 s4 s5 s6 s7)) (sym is)
      (in_grammar discipline has s1 s2 s3 s4 s5 s6 s7 front parts short)

  pub whole_is_message : IsMessage m
  whole_is_message =
      let g = grammar in
      record {
        indicated = g.indicated;
        edition_stands = g.edition_stands;
        accepted = ap verdict_2 (sym (append-nil m)) ∙ grammar_accepted Stated m [] (sections_with has s1 s2 s3 s4 s5 s6 s7) g;
      }

  pub whole_one_field : field_count m ≡ 1
  whole_one_field =
      ap (count_by (is_numbered 7)) (sections_alone Stated m (sections_with has s1 s2 s3 s4 s5 s6 s7) grammar)
      ∙ one_in_all s1 s2 s3 s4 s5 s6 s7 front parts has

  in_force : field_sections m 1 ≡ all_7 (front_with has s1 s2) (start_with has s1 s2) s3 s4 s5 s6 s7
  in_force =
      ap (sections_up_to_field 1 []) (sections_alone Stated m (sections_with has s1 s2 s3 s4 s5 s6 s7) grammar)
      ∙ up_to_all s1 s2 s3 s4 s5 s6 s7 front parts has

  pub whole_identification : part_octets m 1 1 ≡ s1
  whole_identification =
      ap (octets_in_force 1) in_force ∙ front_stands (front_with has s1 s2) (start_with has s1 s2) s3 s4 s5 s6 s7 (front_first s1 s2 front has) parts 1 (omega arith)
      ∙ first_1 s1 s2 front has

  pub whole_local : has ≡ true → part_octets m 1 2 ≡ s2
  whole_local there =
      ap (octets_in_force 2) in_force ∙ front_stands (front_with has s1 s2) (start_with has s1 s2) s3 s4 s5 s6 s7 (front_first s1 s2 front has) parts 2 (omega arith)
      ∙ ap (λ (b : Bool). octets_in_force 2 (front_with b s1 s2)) there ∙ first_2 s1 s2 front

  pub whole_grid : part_octets m 1 3 ≡ s3
  whole_grid = ap (octets_in_force 3) in_force ∙ grid_stands (front_with has s1 s2) (start_with has s1 s2) s3 s4 s5 s6 s7 (front_first s1 s2 front has) parts

  pub whole_product : part_octets m 1 4 ≡ s4
  whole_product = ap (octets_in_force 4) in_force ∙ product_stands (front_with has s1 s2) (start_with has s1 s2) s3 s4 s5 s6 s7 (front_first s1 s2 front has) parts

  pub whole_column : (mask : List Bool) → ((earlier : Option (List Bool)) → mask_of s6 (grid_points s3) earlier ≡ mask) → column_of m 1 ≡ column_from s5 mask s7
  whole_column mask stands =
      let before = front_with has s1 s2 in
      let start = start_with has s1 s2 in
      let first = front_first s1 s2 front has in
      let F = all_7 before start s3 s4 s5 s6 s7 in
      ap (λ (f : List Placed). column_from (octets_in_force 5 f) (mask_in_force f) (octets_in_force 7 f)) in_force
      ∙ ap (λ (s : List ℕ). column_from s (mask_in_force F) (octets_in_force 7 F)) (packing_stands before start s3 s4 s5 s6 s7 first parts)
      ∙ ap (λ (own : List Bool). column_from s5 own (octets_in_force 7 F))
      (mask_stands before start s3 s4 s5 s6 s7 first parts ∙ stands (earlier_mask (before_6 before start s3 s4 s5 s6 s7)))
      ∙ ap (column_from s5 mask) (values_stand before start s3 s4 s5 s6 s7 first parts)
