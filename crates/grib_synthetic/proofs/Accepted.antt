-- A message with the sections of a packing behind the made ones is accepted.
use Rattle.std.proofs.Common.{◌≡◌, ◌≢◌, ℕ, ◌+◌, ◌*◌, ◌≤◌, ◌==◌, Bool, true, false, count_by, List, [], ◌∷◌, ◌++◌, length, refl, ap, ap₂, ◌∙◌, sym, subst, arith, length-append, append-nil, eq-eqb, ne_eqb}
use Rattle.std.specs.List.{concat}
use Rattle.grib_bits.specs.Octets.{StatesItself}
use Rattle.grib_base.specs.Rules.{first_fault, located}
use Rattle.grib_bitmap.specs.Mask.{bitmap_rules, mask_of}
use Rattle.grib_packing.specs.declared.column.Column.{Column}
use Rattle.grib_packing.specs.Packing.{value_count}
use Rattle.grib_packing.specs.Entries.{packing_fault_under, is_stated_packing, data_fault, column_from}
use Rattle.grib_packing.proofs.OpaquePackings.{accepted_stated}
use Rattle.grib_packing.specs.Laws.{UnpackTo}
use Rattle.grib_base.specs.declared.profile.Profile.TheVariants.{Stated}
use Rattle.grib2_sections.specs.Frame.{Placed, placed_at, section_number, may_follow, may_end}
use Rattle.grib2_sections.specs.Head.{end_mark}
use Rattle.grib_bits.proofs.Encoding.{num_on-octets_of}
use Rattle.grib2_message.specs.Acceptance.{verdict_2}
use Rattle.grib2_message.specs.Grammar.{IsSection, AreSections, Grammar2}
use Rattle.grib2_message.specs.Message.{IsMessage}
use Rattle.grib2_message.specs.View.{is_numbered, octets_in_force, points_in_force, earlier_mask, mask_in_force}
use Rattle.grib2_message.specs.Fields.{field_count, sections_up_to_field, field_sections, part_octets, column_of}
use Rattle.grib2_message.proofs.Latest.{octets_same, octets_other}
use Rattle.grib2_message.proofs.Placing.{placed_from}
use Rattle.grib2_message.proofs.Sound.{fault_of, mask_here, mask_kept, points_kept}
use Rattle.grib2_message.proofs.Whole.{grammar_accepted, sections_alone}
use Rattle.grib_packing.specs.declared.written.Packed.{Packed}
use Rattle.grib_synthetic.specs.Made.{MayBeMade, made_identification, made_grid, made_product, sections_with, message_with}
use Rattle.grib_synthetic.proofs.Grid.{points_stand, grid_passes}

abbrev pub packed_parts : List ℕ → List ℕ → List ℕ → Packed
packed_parts s5 s6 s7 = record { section5 = s5; section6 = s6; section7 = s7 }

abbrev pub sections_of_parts : ℕ → ℕ → List ℕ → List ℕ → List ℕ → List (List ℕ)
sections_of_parts ni nj s5 s6 s7 = sections_with ni nj (packed_parts s5 s6 s7)

abbrev pub message_of_parts : ℕ → ℕ → List ℕ → List ℕ → List ℕ → List ℕ
message_of_parts ni nj s5 s6 s7 = message_with ni nj (packed_parts s5 s6 s7)

-- what is known of the sections of a packing
pub record Parts (ni nj : ℕ) (column : Column) (s5 s6 s7 : List ℕ) : Type 0 where
  pub long : length column.points ≡ ni * nj
  pub itself_5 : StatesItself 5 s5
  pub itself_6 : StatesItself 6 s6
  pub itself_7 : StatesItself 7 s7
  pub stated : is_stated_packing s5 ≡ true
  pub back : UnpackTo column s5 s6 s7
  pub short : length s5 + length s6 + length s7 ≤ 268435000

-- ---- the sections with their places, and those before each

module _ (ni nj : ℕ) (s5 s6 s7 : List ℕ) where
  abbrev pub before_5 : List Placed
  before_5 = placed_at 110 made_product ∷ placed_at 38 (made_grid ni nj) ∷ placed_at 17 made_identification ∷ []

  abbrev pub placed_7 : Placed
  placed_7 = placed_at (144 + length s5 + length s6) s7

  abbrev pub before_6 : List Placed
  before_6 = placed_at 144 s5 ∷ placed_at 110 made_product ∷ placed_at 38 (made_grid ni nj) ∷ placed_at 17 made_identification ∷ []

  abbrev pub before_7 : List Placed
  before_7 = placed_at (144 + length s5) s6 ∷ placed_at 144 s5 ∷ placed_at 110 made_product ∷ placed_at 38 (made_grid ni nj) ∷ placed_at 17 made_identification ∷ []

-- ---- the sections follow one another

is_identification : IsSection Stated [] 17 made_identification
is_identification = record { length_stands = refl; least = omega arith; follows = refl; rules_hold = refl }

module _ (seed ni nj : ℕ) (may : MayBeMade seed ni nj) where
  is_grid : IsSection Stated (placed_at 17 made_identification ∷ []) 38 (made_grid ni nj)
  is_grid = record { length_stands = refl; least = omega arith; follows = refl; rules_hold = ap (located 38) (grid_passes seed ni nj may) }

is_product : (ni nj : ℕ) → IsSection Stated (placed_at 38 (made_grid ni nj) ∷ placed_at 17 made_identification ∷ []) 110 made_product
is_product ni nj = record { length_stands = refl; least = omega arith; follows = refl; rules_hold = refl }

module _ (seed ni nj : ℕ) (column : Column) (s5 s6 s7 : List ℕ) (may : MayBeMade seed ni nj) (parts : Parts ni nj column s5 s6 s7) where
  -- the points in force
  points_5 : points_in_force (before_5 ni nj s5 s6 s7) ≡ length column.points
  points_5 = points_stand seed ni nj may ∙ sym parts.long

  other : (n k : ℕ) (s : List ℕ) → section_number s ≡ n → n ≢ k → section_number s ≢ k
  other n k s is differs same = differs (sym is ∙ same)

module _ (seed ni nj : ℕ) (column : Column) (s5 s6 s7 : List ℕ) (may : MayBeMade seed ni nj) (parts : Parts ni nj column s5 s6 s7) where
  points_6 : points_in_force (before_6 ni nj s5 s6 s7) ≡ length column.points
  points_6 =
      points_kept (placed_at 144 s5) (before_5 ni nj s5 s6 s7) (λ same. omega (arith, parts.itself_5.number_stands, same))
      ∙ points_5 seed ni nj column s5 s6 s7 may parts

  representation_6 : octets_in_force 5 (before_6 ni nj s5 s6 s7) ≡ s5
  representation_6 = octets_same (placed_at 144 s5) (before_5 ni nj s5 s6 s7) 5 parts.itself_5.number_stands

module _ (seed ni nj : ℕ) (column : Column) (s5 s6 s7 : List ℕ) (may : MayBeMade seed ni nj) (parts : Parts ni nj column s5 s6 s7) where
  representation_7 : octets_in_force 5 (before_7 ni nj s5 s6 s7) ≡ s5
  representation_7 =
      octets_other (placed_at (144 + length s5) s6) (before_6 ni nj s5 s6 s7) 5 (λ same. omega (arith, parts.itself_6.number_stands, same))
      ∙ representation_6 seed ni nj column s5 s6 s7 may parts

  is_5 : IsSection Stated (before_5 ni nj s5 s6 s7) 144 s5
  is_5 = record {
    length_stands = parts.itself_5.length_stands;
    least = parts.itself_5.least;
    follows = ap (may_follow 4) parts.itself_5.number_stands;
    rules_hold = fault_of Stated (before_5 ni nj s5 s6 s7) (placed_at 144 s5) 5 parts.itself_5.number_stands
        ∙ ap (λ (points : ℕ). located 144 (packing_fault_under Stated s5 points)) (points_5 seed ni nj column s5 s6 s7 may parts)
        ∙ ap (located 144) (accepted_stated Stated s5 (length column.points) parts.stated parts.back.representation);
  }

  is_6 : IsSection Stated (before_6 ni nj s5 s6 s7) (144 + length s5) s6
  is_6 =
      let before = before_6 ni nj s5 s6 s7 in
      let place = 144 + length s5 in
      let earlier = earlier_mask before in record {
        length_stands = parts.itself_6.length_stands;
        least = parts.itself_6.least;
        follows = ap₂ may_follow parts.itself_5.number_stands parts.itself_6.number_stands;
        rules_hold = fault_of Stated before (placed_at place s6) 6 parts.itself_6.number_stands
            ∙ ap₂ (λ (points : ℕ) (s : List ℕ). located place (first_fault (bitmap_rules s6 points (value_count s) earlier)))
            (points_6 seed ni nj column s5 s6 s7 may parts) (representation_6 seed ni nj column s5 s6 s7 may parts)
            ∙ ap (located place) (parts.back.bitmap earlier);
      }

module _ (seed ni nj : ℕ) (column : Column) (s5 s6 s7 : List ℕ) (may : MayBeMade seed ni nj) (parts : Parts ni nj column s5 s6 s7) where
  is_7 : IsSection Stated (before_7 ni nj s5 s6 s7) (144 + length s5 + length s6) s7
  is_7 =
      let before = before_7 ni nj s5 s6 s7 in
      let place = 144 + length s5 + length s6 in record {
        length_stands = parts.itself_7.length_stands;
        least = parts.itself_7.least;
        follows = ap₂ may_follow parts.itself_6.number_stands parts.itself_7.number_stands;
        rules_hold = fault_of Stated before (placed_at place s7) 7 parts.itself_7.number_stands
            ∙ ap (λ (s : List ℕ). located place (data_fault s s7)) (representation_7 seed ni nj column s5 s6 s7 may parts)
            ∙ ap (located place) parts.back.values;
      }

module _ (seed ni nj : ℕ) (column : Column) (s5 s6 s7 : List ℕ) (may : MayBeMade seed ni nj) (parts : Parts ni nj column s5 s6 s7) where
  sections_follow : AreSections Stated [] 17 (sections_of_parts ni nj s5 s6 s7)
  sections_follow = (
    is_identification,
    (
      is_grid seed ni nj may,
      (
        is_product ni nj,
        (
          is_5 seed ni nj column s5 s6 s7 may parts,
          (is_6 seed ni nj column s5 s6 s7 may parts, (is_7 seed ni nj column s5 s6 s7 may parts, ap may_end parts.itself_7.number_stands)),
        ),
      ),
    ),
  )

-- ---- the message

-- its length, by the lengths of the parts
length-rest : (ni nj : ℕ) (s5 s6 s7 : List ℕ) → length (concat (sections_of_parts ni nj s5 s6 s7)) ≡ 127 + length s5 + length s6 + length s7
length-rest ni nj s5 s6 s7 =
    omega (arith, length-append s5 (s6 ++ (s7 ++ [])), length-append s6 (s7 ++ []), length-append s7 [])

length-message : (ni nj : ℕ) (s5 s6 s7 : List ℕ) → length (message_of_parts ni nj s5 s6 s7) ≡ 147 + length s5 + length s6 + length s7
length-message ni nj s5 s6 s7 =
    let rest = concat (sections_of_parts ni nj s5 s6 s7) in
    omega (arith, length-rest ni nj s5 s6 s7, length-append rest end_mark)

module _ (seed ni nj : ℕ) (column : Column) (s5 s6 s7 : List ℕ) (may : MayBeMade seed ni nj) (parts : Parts ni nj column s5 s6 s7) where
  pub in_grammar : Grammar2 (message_of_parts ni nj s5 s6 s7) (sections_of_parts ni nj s5 s6 s7)
  in_grammar =
      let rest = concat (sections_of_parts ni nj s5 s6 s7) in
      let long = length-rest ni nj s5 s6 s7 in
      let whole = length-message ni nj s5 s6 s7 in
      record {
        joined = refl;
        indicated = refl;
        edition_stands = refl;
        total_stands = num_on-octets_of 8 (16 + length rest + 4) (omega (arith, long, parts.short)) ∙ omega (arith, long, whole);
        least = omega (arith, whole);
        most = omega (arith, whole, parts.short);
        sections_follow = sections_follow seed ni nj column s5 s6 s7 may parts;
      }

-- ---- its only field

module _ (seed ni nj : ℕ) (column : Column) (s5 s6 s7 : List ℕ) (may : MayBeMade seed ni nj) (parts : Parts ni nj column s5 s6 s7) where
  not_last_5 : (section_number s5 == 7) ≡ false
  not_last_5 = ne_eqb (section_number s5) 7 (λ same. omega (arith, parts.itself_5.number_stands, same))

  not_last_6 : (section_number s6 == 7) ≡ false
  not_last_6 = ne_eqb (section_number s6) 7 (λ same. omega (arith, parts.itself_6.number_stands, same))

  last_7 : (section_number s7 == 7) ≡ true
  last_7 = eq-eqb (section_number s7) 7 parts.itself_7.number_stands

module _ (seed ni nj : ℕ) (column : Column) (s5 s6 s7 : List ℕ) (may : MayBeMade seed ni nj) (parts : Parts ni nj column s5 s6 s7) where
  one_last : count_by (is_numbered 7) (placed_from 17 (sections_of_parts ni nj s5 s6 s7)) ≡ 1
  one_last = rw (
    not_last_5 seed ni nj column s5 s6 s7 may parts,
    not_last_6 seed ni nj column s5 s6 s7 may parts,
    last_7 seed ni nj column s5 s6 s7 may parts,
  ) refl

  up_to_last : sections_up_to_field 1 [] (placed_from 17 (sections_of_parts ni nj s5 s6 s7)) ≡ placed_7 ni nj s5 s6 s7 ∷ before_7 ni nj s5 s6 s7
  up_to_last = rw (
    not_last_5 seed ni nj column s5 s6 s7 may parts,
    not_last_6 seed ni nj column s5 s6 s7 may parts,
    last_7 seed ni nj column s5 s6 s7 may parts,
  ) refl

module _ (seed ni nj : ℕ) (column : Column) (s5 s6 s7 : List ℕ) (may : MayBeMade seed ni nj) (parts : Parts ni nj column s5 s6 s7) where
  mask_stands : mask_in_force (placed_7 ni nj s5 s6 s7 ∷ before_7 ni nj s5 s6 s7) ≡ mask_of s6 (length column.points) (earlier_mask (before_6 ni nj s5 s6 s7))
  mask_stands =
      mask_kept (placed_7 ni nj s5 s6 s7) (before_7 ni nj s5 s6 s7) (λ same. omega (arith, parts.itself_7.number_stands, same))
      ∙ mask_here (placed_at (144 + length s5) s6) (before_6 ni nj s5 s6 s7) parts.itself_6.number_stands
      ∙ ap (λ (points : ℕ). mask_of s6 points (earlier_mask (before_6 ni nj s5 s6 s7))) (points_6 seed ni nj column s5 s6 s7 may parts)

  packing_stands : octets_in_force 5 (placed_7 ni nj s5 s6 s7 ∷ before_7 ni nj s5 s6 s7) ≡ s5
  packing_stands =
      octets_other (placed_7 ni nj s5 s6 s7) (before_7 ni nj s5 s6 s7) 5 (λ same. omega (arith, parts.itself_7.number_stands, same))
      ∙ representation_7 seed ni nj column s5 s6 s7 may parts

  values_stand : octets_in_force 7 (placed_7 ni nj s5 s6 s7 ∷ before_7 ni nj s5 s6 s7) ≡ s7
  values_stand = octets_same (placed_7 ni nj s5 s6 s7) (before_7 ni nj s5 s6 s7) 7 parts.itself_7.number_stands

module _ (seed ni nj : ℕ) (column : Column) (s5 s6 s7 : List ℕ) (may : MayBeMade seed ni nj) (parts : Parts ni nj column s5 s6 s7)
    (m : List ℕ) (is : m ≡ message_of_parts ni nj s5 s6 s7) where
  pub grammar : Grammar2 m (sections_of_parts ni nj s5 s6 s7)
  grammar = subst (λ (octets : List ℕ). Grammar2 octets (sections_of_parts ni nj s5 s6 s7)) (sym is) (in_grammar seed ni nj column s5 s6 s7 may parts)

module _ (seed ni nj : ℕ) (column : Column) (s5 s6 s7 : List ℕ) (may : MayBeMade seed ni nj) (parts : Parts ni nj column s5 s6 s7)
    (m : List ℕ) (is : m ≡ message_of_parts ni nj s5 s6 s7) where
  pub is_message : IsMessage m
  is_message =
      let g = grammar seed ni nj column s5 s6 s7 may parts m is in
      record {
        indicated = g.indicated;
        edition_stands = g.edition_stands;
        accepted = ap verdict_2 (sym (append-nil m)) ∙ grammar_accepted Stated m [] (sections_of_parts ni nj s5 s6 s7) g;
      }

  pub one_field : field_count m ≡ 1
  one_field =
      ap (count_by (is_numbered 7)) (sections_alone Stated m (sections_of_parts ni nj s5 s6 s7) (grammar seed ni nj column s5 s6 s7 may parts m is))
      ∙ one_last seed ni nj column s5 s6 s7 may parts

  in_force : field_sections m 1 ≡ placed_7 ni nj s5 s6 s7 ∷ before_7 ni nj s5 s6 s7
  in_force =
      ap (sections_up_to_field 1 []) (sections_alone Stated m (sections_of_parts ni nj s5 s6 s7) (grammar seed ni nj column s5 s6 s7 may parts m is))
      ∙ up_to_last seed ni nj column s5 s6 s7 may parts

module _ (seed ni nj : ℕ) (column : Column) (s5 s6 s7 : List ℕ) (may : MayBeMade seed ni nj) (parts : Parts ni nj column s5 s6 s7)
    (m : List ℕ) (is : m ≡ message_of_parts ni nj s5 s6 s7) where
  pub its_column : column_of m 1 ≡ column
  its_column =
      let F = placed_7 ni nj s5 s6 s7 ∷ before_7 ni nj s5 s6 s7 in
      let earlier = earlier_mask (before_6 ni nj s5 s6 s7) in
      ap (λ (f : List Placed). column_from (octets_in_force 5 f) (mask_in_force f) (octets_in_force 7 f)) (in_force seed ni nj column s5 s6 s7 may parts m is)
      ∙ ap (λ (s : List ℕ). column_from s (mask_in_force F) (octets_in_force 7 F)) (packing_stands seed ni nj column s5 s6 s7 may parts)
      ∙ ap (λ (mask : List Bool). column_from s5 mask (octets_in_force 7 F)) (mask_stands seed ni nj column s5 s6 s7 may parts)
      ∙ ap (column_from s5 (mask_of s6 (length column.points) earlier)) (values_stand seed ni nj column s5 s6 s7 may parts)
      ∙ parts.back.column_stands earlier

  pub its_packing : part_octets m 1 5 ≡ s5
  its_packing =
      ap (octets_in_force 5) (in_force seed ni nj column s5 s6 s7 may parts m is) ∙ packing_stands seed ni nj column s5 s6 s7 may parts
