-- The sections of a message with other Sections 3, 5, 6 and 7 may follow one another, and each field has its part.
use Rattle.std.proofs.Common.{◌≡◌, ◌≢◌, ℕ, zero, suc, ◌+◌, ◌<◌, ◌≤◌, Bool, cond, Option, Some, None, List, [], ◌∷◌, length, get_or, slice_get, ◌==◌, inl, inr, refl, sym, ap, ap₂, ◌∙◌, arith, subst, eq-eqb, ne_eqb, eqb-true}
use Rattle.std.specs.List.{count_by}
use Rattle.std.proofs.lemmas.Bool.{cases_eq}
use Rattle.std.proofs.lemmas.Option.{same_Some, slice_get_within}
use Rattle.grib_bits.specs.Octets.{StatesItself}
use Rattle.grib_base.specs.declared.profile.Profile.{Profile}
use Rattle.grib_base.specs.declared.fault.Fault.{Fault}
use Rattle.grib_base.specs.Rules.{first_fault, located}
use Rattle.grib2_sections.specs.Frame.{Placed, placed_at, section_number, may_end}
use Rattle.grib2_sections.specs.Identification.{identification_rules}
use Rattle.grib2_grids.specs.Grid.{grid_points}
use Rattle.grib2_grids.specs.Opaque.{grid_rules_under}
use Rattle.grib2_grids.proofs.Under.{grid_header_length}
use Rattle.grib2_products.specs.Opaque.{product_rules_under}
use Rattle.grib_bitmap.specs.Mask.{bitmap_indicator, bitmap_rules, mask_of}
use Rattle.grib_packing.specs.Packing.{value_count}
use Rattle.grib_packing.specs.Entries.{packing_fault_under, data_fault}
use Rattle.grib_packing.specs.declared.written.Packed.{Packed}
use Rattle.grib2_message.specs.View.{is_numbered, last_number, octets_in_force, points_in_force, earlier_mask, mask_in_force, section_count}
use Rattle.grib2_message.specs.Acceptance.{section_fault_under, contents_faults, no_rules}
use Rattle.grib2_message.specs.Fields.{sections_up_to_field}
use Rattle.grib2_message.specs.Grammar.{IsSection, AreSections}
use Rattle.grib2_message.specs.Assembled.{in_place_with, replaced_with, IsGridUnder, PartsPassUnder}
use Rattle.grib2_message.specs.Kept.{AreSound}
use Rattle.grib2_message.proofs.Along.{Along, MayReplace, replaces, last_along, count_along, octets_along}
use Rattle.grib2_message.proofs.Bitmaps.{mask_alone}
use Rattle.grib2_message.proofs.Latest.{octets_same, octets_other}
use Rattle.grib2_message.proofs.Order.{Follows, next, skips, again, follows_tells, in_range, one_below}
use Rattle.grib2_message.proofs.Placing.{placed_from}
use Rattle.grib2_message.proofs.Sound.{none_located, fault_of, mask_here, mask_kept, points_kept, count_same, count_other, sound_after}
use Rattle.grib2_message.proofs.Ways.{up_here, up_more, up_other}

-- t has the number of s, in Sections 1, 2 and 4 its octets, and in Section 3 what `grid` makes of them
pub record Fits (grid : List ℕ → List ℕ) (s t : Placed) : Type 0 where
  pub numbered : section_number t.octets ≡ section_number s.octets
  pub kept : section_number s.octets ≤ 4 → section_number s.octets ≢ 3 → t.octets ≡ s.octets
  pub grid_is : section_number s.octets ≡ 3 → t.octets ≡ grid s.octets

pub fits_number : (grid : List ℕ → List ℕ) (s t : Placed) → Fits grid s t → section_number t.octets ≡ section_number s.octets
fits_number grid s t h = h.numbered

-- so Sections 1, 2 and 4 in force are the same
pub octets_kept : (grid : List ℕ → List ℕ) (k : ℕ) → k ≤ 4 → k ≢ 3 → (before others : List Placed) → Along (Fits grid) before others
    → octets_in_force k others ≡ octets_in_force k before
octets_kept grid k low other before others h =
    octets_along (Fits grid) (fits_number grid) k (λ xs ys. ys ≡ xs) refl
    (λ s t fits e. fits.kept (let small : section_number s.octets ≤ 4 = omega arith in small) (λ three. other (sym e ∙ three))) before others h

-- and of a Section 3 in force is made what is in force there
pub grid_in_force : (grid : List ℕ → List ℕ) (before others : List Placed) → Along (Fits grid) before others → 1 ≤ length (octets_in_force 3 before)
    → octets_in_force 3 others ≡ grid (octets_in_force 3 before)
grid_in_force grid before others h some =
    octets_along (Fits grid) (fits_number grid) 3 (λ xs ys. 1 ≤ length xs → ys ≡ grid xs) (λ none. absurd (omega (arith, none)))
    (λ s t fits e some. fits.grid_is e) before others h some

-- where no rule refused a section, there is one after Section 3
pub some_grid : (profile : Profile) (before : List Placed) → AreSound profile before → 3 ≤ last_number before → 1 ≤ length (octets_in_force 3 before)
some_grid profile before sound low =
    let long : 14 ≤ length (octets_in_force 3 before) = grid_header_length profile (octets_in_force 3 before) (sound.grid low) in
    omega (arith, long)

pub points_new : (profile : Profile) (grid : List ℕ → List ℕ) (before others : List Placed) → Along (Fits grid) before others → AreSound profile before → 3 ≤ last_number before
    → points_in_force others ≡ grid_points (grid (octets_in_force 3 before))
points_new profile grid before others h sound low = ap grid_points (grid_in_force grid before others h (some_grid profile before sound low))

-- what of a part is in force within its field
pub record InPart (part : Packed) (others : List Placed) : Type 0 where
  pub packing : 5 ≤ last_number others → last_number others ≤ 6 → octets_in_force 5 others ≡ part.section5
  pub bitmap : last_number others ≡ 6 → octets_in_force 6 others ≡ part.section6
  pub mask : last_number others ≡ 6 → mask_in_force others ≡ mask_of part.section6 (points_in_force others) None

abbrev pub InParts : List Packed → List Placed → Type 0
InParts [] others = Unit {0}
InParts (part ∷ parts) others = InPart part others

-- and at its end
pub record HasPart (part : Packed) (others : List Placed) : Type 0 where
  pub packing : octets_in_force 5 others ≡ part.section5
  pub bitmap : octets_in_force 6 others ≡ part.section6
  pub values : octets_in_force 7 others ≡ part.section7
  pub mask : mask_in_force others ≡ mask_of part.section6 (points_in_force others) None

-- nothing is said of a part but within its field
pub outside : (parts : List Packed) (others : List Placed) → (5 ≤ last_number others → last_number others ≤ 6 → ⊥) → InParts parts others
outside [] others never = tt
outside (part ∷ parts) others never = record {
  packing = λ low high. absurd (never low high);
  bitmap = λ six. absurd (never (omega arith) (omega arith));
  mask = λ six. absurd (never (omega arith) (omega arith));
}

-- ---- what stands in place of a section, by its number

module _ (grid : List ℕ → List ℕ) (part : Packed) (parts : List Packed) (s : List ℕ) where
  by_number : ℕ → List ℕ
  by_number n = cond (n == 3) (grid s) (cond (n == 5) part.section5 (cond (n == 6) part.section6 (cond (n == 7) part.section7 s)))

  in_place_3 : section_number s ≡ 3 → in_place_with grid (part ∷ parts) s ≡ grid s
  unfolding by_number
  in_place_3 e = ap by_number e

  in_place_5 : section_number s ≡ 5 → in_place_with grid (part ∷ parts) s ≡ part.section5
  unfolding by_number
  in_place_5 e = ap by_number e

  in_place_6 : section_number s ≡ 6 → in_place_with grid (part ∷ parts) s ≡ part.section6
  unfolding by_number
  in_place_6 e = ap by_number e

  in_place_7 : section_number s ≡ 7 → in_place_with grid (part ∷ parts) s ≡ part.section7
  unfolding by_number
  in_place_7 e = ap by_number e

  in_place_other : section_number s ≤ 4 → section_number s ≢ 3 → in_place_with grid (part ∷ parts) s ≡ s
  in_place_other low other =
      let n = section_number s in
      λ i. cond (ne_eqb n 3 other i) (grid s)
      (cond (ne_eqb n 5 (λ e. absurd (omega arith)) i) part.section5
      (cond (ne_eqb n 6 (λ e. absurd (omega arith)) i) part.section6 (cond (ne_eqb n 7 (λ e. absurd (omega arith)) i) part.section7 s)))

-- a number is 1, 2 or 4, or 3, 5, 6 or 7
data Kind (n : ℕ) : Type 0 where
  below_5 : n ≤ 4 → n ≢ 3 → Kind n
  is_3 : n ≡ 3 → Kind n
  is_5 : n ≡ 5 → Kind n
  is_6 : n ≡ 6 → Kind n
  is_7 : n ≡ 7 → Kind n

kind_of : (n : ℕ) → n ≤ 7 → Kind n
kind_of n high = elim (cases_eq n 5) [
  | inl e ↦ is_5 e
  | inr not_5 ↦ elim (cases_eq n 6) [
    | inl e ↦ is_6 e
    | inr not_6 ↦ elim (cases_eq n 7) [
      | inl e ↦ is_7 e
      | inr not_7 ↦ elim (cases_eq n 3) [ inl e ↦ is_3 e | inr not_3 ↦ below_5 (omega arith) not_3 ]
    ]
  ]
]

-- rules that do not refuse do not refuse elsewhere
none_anywhere : (start at : ℕ) (o : Option Fault) → located start o ≡ None → located at o ≡ None
none_anywhere start at o none = ap (located at) (none_located start o none)

-- ---- the rules of Sections 1, 2 and 4, which rest on no other section

module _ (profile : Profile) (grid : List ℕ → List ℕ) (before others : List Placed) (q p : ℕ) (s : List ℕ) (along : Along (Fits grid) before others) (none : section_fault_under profile before (placed_at q s) ≡ None) where
  as_number : (n : ℕ) → section_number s ≡ n → get_or (contents_faults profile) n no_rules before (placed_at q s) ≡ None
  as_number n e = sym (fault_of profile before (placed_at q s) n e) ∙ none

  rules_1 : section_number s ≡ 1 → section_fault_under profile others (placed_at p s) ≡ None
  rules_1 e = fault_of profile others (placed_at p s) 1 e ∙ none_anywhere q p (first_fault (identification_rules s)) (as_number 1 e)

  rules_2 : section_number s ≡ 2 → section_fault_under profile others (placed_at p s) ≡ None
  rules_2 e = fault_of profile others (placed_at p s) 2 e

  -- a Section 3 passes its rules
  pub grid_passes : section_number s ≡ 3 → first_fault (grid_rules_under profile s) ≡ None
  grid_passes e = none_located q (first_fault (grid_rules_under profile s)) (as_number 3 e)

  rules_4 : section_number s ≡ 4 → section_fault_under profile others (placed_at p s) ≡ None
  rules_4 e =
      fault_of profile others (placed_at p s) 4 e
      ∙ ap (λ (n : ℕ). located p (first_fault (product_rules_under profile s (n + 1)))) (count_along (Fits grid) (fits_number grid) 4 before others along)
      ∙ none_anywhere q p (first_fault (product_rules_under profile s (section_count 4 before + 1))) (as_number 4 e)

  -- they do not refuse s elsewhere, after sections that go along those before it
  pub rules_elsewhere : 1 ≤ section_number s → section_number s ≤ 4 → section_number s ≢ 3 → section_fault_under profile others (placed_at p s) ≡ None
  rules_elsewhere low high not_3 = elim (cases_eq (section_number s) 1) [
    | inl e ↦ rules_1 e
    | inr not_1 ↦ elim (cases_eq (section_number s) 2) [
      | inl e ↦ rules_2 e
      | inr not_2 ↦ rules_4 (omega arith)
    ]
  ]

-- ---- one section

-- a section that states itself may stand in place of one with its number, where no rule refuses it
may_replace : (profile : Profile) (others : List Placed) (p : ℕ) (s t : List ℕ) (n : ℕ) → section_number s ≡ n → StatesItself n t → section_fault_under profile others (placed_at p t) ≡ None
    → MayReplace profile others p s t
may_replace profile others p s t n e itself none = record {
  length_stands = itself.length_stands;
  least = itself.least;
  numbered = itself.number_stands ∙ sym e;
  rules_hold = none;
}

-- what is so of a section and what stands in its place, after the sections before
record Goes (profile : Profile) (grid : List ℕ → List ℕ) (part : Packed) (before others : List Placed) (q p : ℕ) (s t : List ℕ) : Type 0 where
  may : MayReplace profile others p s t
  fits : Fits grid (placed_at q s) (placed_at p t)
  within : section_number s ≢ 7 → InPart part (placed_at p t ∷ others)
  ends : section_number s ≡ 7 → HasPart part (placed_at p t ∷ others)

-- the indicator of the bitmap of a part is not 254
not_repeated : (profile : Profile) (part : Packed) (points : ℕ) → PartsPassUnder profile points part → bitmap_indicator part.section6 ≢ 254
not_repeated profile part points pass e = elim pass.alone [ inl own ↦ absurd (omega arith) | inr all ↦ absurd (omega arith) ]

module _ (profile : Profile) (grid : List ℕ → List ℕ) (part : Packed) (before others : List Placed) (q p : ℕ) (s : List ℕ) (is : IsSection profile before q s) (along : Along (Fits grid) before others)
    (in_part : InPart part others) (sound : AreSound profile before) (becomes : section_number s ≡ 3 → IsGridUnder profile s → IsGridUnder profile (grid s))
    (pass : 4 ≤ last_number before → last_number before ≤ 6 → PartsPassUnder profile (grid_points (grid (octets_in_force 3 before))) part) where
  follows : Follows (last_number before) (section_number s)
  follows = follows_tells (last_number before) (section_number s) is.follows

  last : last_number others ≡ last_number before
  last = last_along (Fits grid) (fits_number grid) before others along

  -- Sections 1, 2 and 4 stay
  goes_other : section_number s ≤ 4 → section_number s ≢ 3 → Goes profile grid part before others q p s s
  goes_other low not_3 =
      let range = in_range (last_number before) (section_number s) follows in
      record {
        may = record {
          length_stands = is.length_stands;
          least = is.least;
          numbered = refl;
          rules_hold = rules_elsewhere profile grid before others q p s along is.rules_hold range.0 low not_3;
        };
        fits = record { numbered = refl; kept = λ e other. refl; grid_is = λ three. absurd (not_3 three) };
        within = λ e. record {
          packing = λ a b. absurd (omega arith);
          bitmap = λ a. absurd (omega arith);
          mask = λ a. absurd (omega arith);
        };
        ends = λ e. absurd (omega arith);
      }

  -- Section 3 is what `grid` makes of it
  goes_3 : section_number s ≡ 3 → Goes profile grid part before others q p s (grid s)
  goes_3 e =
      let is_grid : IsGridUnder profile s = record {
        itself = record { length_stands = is.length_stands; least = is.least; number_stands = e };
        rules = grid_passes profile grid before others q p s along is.rules_hold e;
      } in
      let new = becomes e is_grid in
      let number : section_number (grid s) ≡ 3 = new.itself.number_stands in
      let none : located p (first_fault (grid_rules_under profile (grid s))) ≡ None = ap (located p) new.rules in
      record {
        may = may_replace profile others p s (grid s) 3 e new.itself (fault_of profile others (placed_at p (grid s)) 3 number ∙ none);
        fits = record { numbered = number ∙ sym e; kept = λ low other. absurd (other e); grid_is = λ three. refl };
        within = λ other. record {
          packing = λ a b. absurd (omega (arith, number));
          bitmap = λ a. absurd (omega (arith, number));
          mask = λ a. absurd (omega (arith, number));
        };
        ends = λ seven. absurd (omega arith);
      }

  last_below : (n : ℕ) → section_number s ≡ n → 5 ≤ n → last_number before + 1 ≡ n
  last_below n e high = sym (one_below (last_number before) (section_number s) follows (omega arith)) ∙ e

  goes_5 : section_number s ≡ 5 → Goes profile grid part before others q p s part.section5
  goes_5 e =
      let four = last_below 5 e (omega arith) in
      let ok = pass (omega arith) (omega arith) in
      let t = placed_at p part.section5 in
      let number : section_number part.section5 ≡ 5 = ok.itself_5.number_stands in
      let none : located p (packing_fault_under profile part.section5 (points_in_force others)) ≡ None =
      ap (λ (n : ℕ). located p (packing_fault_under profile part.section5 n)) (points_new profile grid before others along sound (omega arith)) ∙ ap (located p) ok.packing in
      record {
        may = may_replace profile others p s part.section5 5 e ok.itself_5 (fault_of profile others t 5 number ∙ none);
        fits = record { numbered = number ∙ sym e; kept = λ low other. absurd (omega arith); grid_is = λ three. absurd (omega arith) };
        within = λ other. record {
          packing = λ a b. octets_same t others 5 number;
          bitmap = λ six. absurd (omega arith);
          mask = λ six. absurd (omega arith);
        };
        ends = λ seven. absurd (omega arith);
      }

  goes_6 : section_number s ≡ 6 → Goes profile grid part before others q p s part.section6
  goes_6 e =
      let below = last_below 6 e (omega arith) in
      let ok = pass (omega arith) (omega arith) in
      let t = placed_at p part.section6 in
      let number : section_number part.section6 ≡ 6 = ok.itself_6.number_stands in
      let section5 : octets_in_force 5 others ≡ part.section5 = in_part.packing (omega (arith, last)) (omega (arith, last)) in
      let points = points_new profile grid before others along sound (omega arith) in
      let none : located p (first_fault (bitmap_rules part.section6 (points_in_force others) (value_count (octets_in_force 5 others)) (earlier_mask others))) ≡ None =
      ap₂ (λ (n : ℕ) (xs : List ℕ). located p (first_fault (bitmap_rules part.section6 n (value_count xs) (earlier_mask others)))) points section5
      ∙ ap (located p) (ok.bitmap (earlier_mask others)) in
      let other_than : (k : ℕ) → 6 ≢ k → section_number t.octets ≢ k = λ k ne same. ne (sym number ∙ same) in
      record {
        may = may_replace profile others p s part.section6 6 e ok.itself_6 (fault_of profile others t 6 number ∙ none);
        fits = record { numbered = number ∙ sym e; kept = λ low other. absurd (omega arith); grid_is = λ three. absurd (omega arith) };
        within = λ other. record {
          packing = λ a b. octets_other t others 5 (other_than 5 (λ same. absurd (omega arith))) ∙ section5;
          bitmap = λ six. octets_same t others 6 number;
          mask = λ six.
              mask_here t others number
              ∙ mask_alone part.section6 (points_in_force others) 0 (not_repeated profile part (grid_points (grid (octets_in_force 3 before))) ok) (earlier_mask others) None
              ∙ ap (λ (n : ℕ). mask_of part.section6 n None) (sym (points_kept t others (other_than 3 (λ same. absurd (omega arith)))));
        };
        ends = λ seven. absurd (omega arith);
      }

  goes_7 : section_number s ≡ 7 → Goes profile grid part before others q p s part.section7
  goes_7 e =
      let below = last_below 7 e (omega arith) in
      let ok = pass (omega arith) (omega arith) in
      let t = placed_at p part.section7 in
      let number : section_number part.section7 ≡ 7 = ok.itself_7.number_stands in
      let section5 : octets_in_force 5 others ≡ part.section5 = in_part.packing (omega (arith, last)) (omega (arith, last)) in
      let none : located p (data_fault (octets_in_force 5 others) part.section7) ≡ None =
      ap (λ (xs : List ℕ). located p (data_fault xs part.section7)) section5 ∙ ap (located p) ok.values in
      let other_than : (k : ℕ) → 7 ≢ k → section_number t.octets ≢ k = λ k ne same. ne (sym number ∙ same) in
      record {
        may = may_replace profile others p s part.section7 7 e ok.itself_7 (fault_of profile others t 7 number ∙ none);
        fits = record { numbered = number ∙ sym e; kept = λ low other. absurd (omega arith); grid_is = λ three. absurd (omega arith) };
        within = λ other. absurd (other e);
        ends = λ seven. record {
          packing = octets_other t others 5 (other_than 5 (λ same. absurd (omega arith))) ∙ section5;
          bitmap = octets_other t others 6 (other_than 6 (λ same. absurd (omega arith))) ∙ in_part.bitmap (omega (arith, last));
          values = octets_same t others 7 number;
          mask =
              mask_kept t others (other_than 6 (λ same. absurd (omega arith)))
              ∙ in_part.mask (omega (arith, last))
              ∙ ap (λ (n : ℕ). mask_of part.section6 n None) (sym (points_kept t others (other_than 3 (λ same. absurd (omega arith)))));
        };
      }

  goes_as : (parts : List Packed) (t : List ℕ) → in_place_with grid (part ∷ parts) s ≡ t → Goes profile grid part before others q p s t
      → Goes profile grid part before others q p s (in_place_with grid (part ∷ parts) s)
  goes_as parts t e h = subst (λ (x : List ℕ). Goes profile grid part before others q p s x) (sym e) h

  goes : (parts : List Packed) → Goes profile grid part before others q p s (in_place_with grid (part ∷ parts) s)
  goes parts =
      let range = in_range (last_number before) (section_number s) follows in
      elim (kind_of (section_number s) range.1) [
        | below_5 low other ↦ goes_as parts s (in_place_other grid part parts s low other) (goes_other low other)
        | is_3 e ↦ goes_as parts (grid s) (in_place_3 grid part parts s e) (goes_3 e)
        | is_5 e ↦ goes_as parts part.section5 (in_place_5 grid part parts s e) (goes_5 e)
        | is_6 e ↦ goes_as parts part.section6 (in_place_6 grid part parts s e) (goes_6 e)
        | is_7 e ↦ goes_as parts part.section7 (in_place_7 grid part parts s e) (goes_7 e)
      ]

-- ---- all sections

next_number : (last n : ℕ) → Follows last n → 3 ≤ last → last ≤ 6 → n ≡ last + 1
next_number last n (next e l) low high = e
next_number last n (skips a b) low high = absurd (omega arith)
next_number last n (again a b c) low high = absurd (omega arith)

-- from a Section 3 on the grid in force stays to the end of the field
grid_ahead : (profile : Profile) (sections : List (List ℕ)) (before : List Placed) (q : ℕ) → AreSections profile before q sections → 3 ≤ last_number before → last_number before ≤ 6
    → octets_in_force 3 (sections_up_to_field 1 before (placed_from q sections)) ≡ octets_in_force 3 before
grid_ahead profile [] before q follow low high =
    let seven = eqb-true (last_number before) 7 follow in
    absurd (omega arith)
grid_ahead profile (s ∷ sections) before q follow low high =
    let n = section_number s in
    let p = placed_at q s in
    let f = follows_tells (last_number before) n follow.0.follows in
    let next : n ≡ last_number before + 1 = next_number (last_number before) n f low high in
    let rest = placed_from (q + length s) sections in
    elim (cases_eq n 7) [
      | inl seven ↦
          ap (octets_in_force 3) (up_here p before rest seven) ∙ octets_other p before 3 (λ same. absurd (omega arith))
      | inr other ↦
          ap (octets_in_force 3) (up_other p before rest 0 other)
          ∙ grid_ahead profile sections (p ∷ before) (q + length s) follow.1 (omega arith) (omega arith)
          ∙ octets_other p before 3 (λ same. absurd (omega arith))
    ]

-- how many fields are left
abbrev pub left : ℕ → List (List ℕ) → ℕ
left q sections = count_by (is_numbered 7) (placed_from q sections)

pub left_7 : (q : ℕ) (s : List ℕ) (sections : List (List ℕ)) → section_number s ≡ 7 → left q (s ∷ sections) ≡ 1 + left (q + length s) sections
left_7 q s sections e = count_same (placed_at q s) (placed_from (q + length s) sections) 7 e

pub left_other : (q : ℕ) (s : List ℕ) (sections : List (List ℕ)) → section_number s ≢ 7 → left q (s ∷ sections) ≡ left (q + length s) sections
left_other q s sections ne = count_other (placed_at q s) (placed_from (q + length s) sections) 7 ne

-- where a section is left, so is a field
some_left : (profile : Profile) (sections : List (List ℕ)) (s : List ℕ) (before : List Placed) (q : ℕ) → AreSections profile before q (s ∷ sections) → 1 ≤ left q (s ∷ sections)
some_left profile [] s before q follow = omega (arith, left_7 q s [] (eqb-true (section_number s) 7 follow.1))
some_left profile (t ∷ sections) s before q follow =
    let more = some_left profile sections t (placed_at q s ∷ before) (q + length s) follow.1 in
    elim (cases_eq (section_number s) 7) [
      | inl seven ↦ omega (arith, left_7 q s (t ∷ sections) seven)
      | inr other ↦ omega (arith, left_other q s (t ∷ sections) other)
    ]

-- what is so of each Section 3
abbrev pub EachGrid : (List ℕ → Type 0) → List Placed → Type 0
EachGrid P [] = Unit {0}
EachGrid P (s ∷ sections) = (section_number s.octets ≡ 3 → P s.octets) × EachGrid P sections

-- a Section 3 is in force at the end of the next field
grid_here : (profile : Profile) (sections : List (List ℕ)) (s : List ℕ) (before : List Placed) (q : ℕ) → AreSections profile before q (s ∷ sections) → section_number s ≡ 3
    → octets_in_force 3 (sections_up_to_field 1 before (placed_from q (s ∷ sections))) ≡ s
grid_here profile sections s before q follow three =
    let p = placed_at q s in
    ap (octets_in_force 3) (up_other p before (placed_from (q + length s) sections) 0 (λ same. absurd (omega arith)))
    ∙ grid_ahead profile sections (p ∷ before) (q + length s) follow.1 (omega arith) (omega arith)
    ∙ octets_same p before 3 three

-- so what is so of those that are in force for fields is so of each
pub each_grid : (profile : Profile) (P : List ℕ → Type 0) (sections : List (List ℕ)) (before : List Placed) (q : ℕ) → AreSections profile before q sections
    → ((i : ℕ) → i < left q sections → P (octets_in_force 3 (sections_up_to_field (suc i) before (placed_from q sections))))
    → EachGrid P (placed_from q sections)
each_grid profile P [] before q follow h = tt
each_grid profile P (s ∷ sections) before q follow h =
    let p = placed_at q s in
    let rest = placed_from (q + length s) sections in
    let some = some_left profile sections s before q follow in (
      λ three. subst P (grid_here profile sections s before q follow three) (h 0 (omega (arith, some))),
      elim (cases_eq (section_number s) 7) [
        | inl seven ↦
            each_grid profile P sections (p ∷ before) (q + length s) follow.1
            (λ i low. subst (λ (xs : List Placed). P (octets_in_force 3 xs)) (up_more p before rest i seven)
            (h (suc i) (omega (arith, low, left_7 q s sections seven))))
        | inr other ↦
            each_grid profile P sections (p ∷ before) (q + length s) follow.1
            (λ i low. subst (λ (xs : List Placed). P (octets_in_force 3 xs)) (up_other p before rest i other)
            (h i (omega (arith, low, left_other q s sections other))))
      ],
    )

-- the parts pass for the fields that are left
abbrev pub Pass : Profile → (List ℕ → List ℕ) → List Packed → List Placed → ℕ → List (List ℕ) → Type 0
Pass profile grid parts before q sections =
    (i : ℕ) (part : Packed) → slice_get parts i ≡ Some part
    → PartsPassUnder profile (grid_points (grid (octets_in_force 3 (sections_up_to_field (suc i) before (placed_from q sections))))) part

-- each part is that of its field
abbrev pub Columns : List Packed → List Placed → List Placed → Type 0
Columns parts others news = (i : ℕ) (part : Packed) → slice_get parts i ≡ Some part → HasPart part (sections_up_to_field (suc i) others news)

-- the sections with other Sections 3, 5, 6 and 7
pub record Rebuilt (profile : Profile) (grid : List ℕ → List ℕ) (parts : List Packed) (others : List Placed) (q p : ℕ) (sections news : List (List ℕ)) : Type 0 where
  pub follow : AreSections profile others p news
  pub along : Along (Fits grid) (placed_from q sections) (placed_from p news)
  pub columns : Columns parts others (placed_from p news)

-- one section more

module _ (profile : Profile) (grid : List ℕ → List ℕ) (part : Packed) (parts : List Packed) (before others : List Placed) (q p : ℕ) (s t : List ℕ) (sections news : List (List ℕ))
    (is : IsSection profile before q s) (along : Along (Fits grid) before others) (g : Goes profile grid part before others q p s t) where
  first_follows : IsSection profile others p t
  first_follows = replaces profile before others q p s t (last_along (Fits grid) (fits_number grid) before others along) is g.may

  columns_other : section_number s ≢ 7 → Columns (part ∷ parts) (placed_at p t ∷ others) (placed_from (p + length t) news)
      → Columns (part ∷ parts) others (placed_from p (t ∷ news))
  columns_other other h i x e =
      subst (λ (xs : List Placed). HasPart x xs)
      (sym (up_other (placed_at p t) others (placed_from (p + length t) news) i (λ same. other (sym g.fits.numbered ∙ same)))) (h i x e)

  columns_7 : section_number s ≡ 7 → Columns parts (placed_at p t ∷ others) (placed_from (p + length t) news)
      → Columns (part ∷ parts) others (placed_from p (t ∷ news))
  columns_7 seven h zero x e =
      subst (λ (xs : List Placed). HasPart x xs) (sym (up_here (placed_at p t) others (placed_from (p + length t) news) (g.fits.numbered ∙ seven)))
      (subst (λ (y : Packed). HasPart y (placed_at p t ∷ others)) (same_Some part x e) (g.ends seven))
  columns_7 seven h (suc i) x e =
      subst (λ (xs : List Placed). HasPart x xs) (sym (up_more (placed_at p t) others (placed_from (p + length t) news) i (g.fits.numbered ∙ seven))) (h i x e)

  rebuilt_other : section_number s ≢ 7 → Rebuilt profile grid (part ∷ parts) (placed_at p t ∷ others) (q + length s) (p + length t) sections news
      → Rebuilt profile grid (part ∷ parts) others q p (s ∷ sections) (t ∷ news)
  rebuilt_other other r = record { follow = (first_follows, r.follow); along = (g.fits, r.along); columns = columns_other other r.columns }

  rebuilt_7 : section_number s ≡ 7 → Rebuilt profile grid parts (placed_at p t ∷ others) (q + length s) (p + length t) sections news
      → Rebuilt profile grid (part ∷ parts) others q p (s ∷ sections) (t ∷ news)
  rebuilt_7 seven r = record { follow = (first_follows, r.follow); along = (g.fits, r.along); columns = columns_7 seven r.columns }

-- the parts pass for the fields after a section

module _ (profile : Profile) (grid : List ℕ → List ℕ) (part : Packed) (parts : List Packed) (before : List Placed) (q : ℕ) (s : List ℕ) (sections : List (List ℕ))
    (pass : Pass profile grid (part ∷ parts) before q (s ∷ sections)) where
  pass_here : AreSections profile before q (s ∷ sections) → 4 ≤ last_number before → last_number before ≤ 6 → PartsPassUnder profile (grid_points (grid (octets_in_force 3 before))) part
  pass_here follow low high =
      subst (λ (xs : List ℕ). PartsPassUnder profile (grid_points (grid xs)) part) (grid_ahead profile (s ∷ sections) before q follow (omega (arith, low)) high) (pass 0 part refl)

  pass_7 : section_number s ≡ 7 → Pass profile grid parts (placed_at q s ∷ before) (q + length s) sections
  pass_7 seven i x e =
      subst (λ (xs : List Placed). PartsPassUnder profile (grid_points (grid (octets_in_force 3 xs))) x) (up_more (placed_at q s) before (placed_from (q + length s) sections) i seven) (pass (suc i) x e)

  pass_other : section_number s ≢ 7 → Pass profile grid (part ∷ parts) (placed_at q s ∷ before) (q + length s) sections
  pass_other other i x e =
      subst (λ (xs : List Placed). PartsPassUnder profile (grid_points (grid (octets_in_force 3 xs))) x) (up_other (placed_at q s) before (placed_from (q + length s) sections) i other) (pass i x e)

-- where the section ends its field, the next part comes
abbrev with_rest : (List ℕ → List ℕ) → Packed → List Packed → List ℕ → List Placed → Bool → List (List ℕ)
with_rest grid part parts s rest ends = in_place_with grid (part ∷ parts) s ∷ replaced_with grid rest (cond ends parts (part ∷ parts))

-- as many parts as fields that are left
pub rebuilt : (profile : Profile) (grid : List ℕ → List ℕ) (sections : List (List ℕ)) (parts : List Packed) (before others : List Placed) (q p : ℕ) → AreSections profile before q sections
    → Along (Fits grid) before others → InParts parts others → AreSound profile before → EachGrid (λ s. IsGridUnder profile s → IsGridUnder profile (grid s)) (placed_from q sections)
    → Pass profile grid parts before q sections → length parts ≡ left q sections
    → Rebuilt profile grid parts others q p sections (replaced_with grid (placed_from q sections) parts)
rebuilt profile grid [] parts before others q p follow along in_parts sound each pass count = record {
  follow = ap may_end (last_along (Fits grid) (fits_number grid) before others along) ∙ follow;
  along = tt;
  columns = λ i part e. (let within = slice_get_within parts i part e in absurd (omega arith));
}
rebuilt profile grid (s ∷ sections) [] before others q p follow along in_parts sound each pass count =
    absurd (omega (arith, some_left profile sections s before q follow))
rebuilt profile grid (s ∷ sections) (part ∷ parts) before others q p follow along in_parts sound each pass count =
    let t = in_place_with grid (part ∷ parts) s in
    let rest = placed_from (q + length s) sections in
    let g = goes profile grid part before others q p s follow.0 along in_parts sound each.0 (pass_here profile grid part parts before q s sections pass follow) parts in
    let after = sound_after profile (placed_at q s) before sound (follows_tells (last_number before) (section_number s) follow.0.follows) follow.0.rules_hold in
    elim (cases_eq (section_number s) 7) [
      | inl seven ↦
          let ends : section_number t ≡ 7 = g.fits.numbered ∙ seven in
          subst (λ (b : Bool). Rebuilt profile grid (part ∷ parts) others q p (s ∷ sections) (with_rest grid part parts s rest b)) (sym (eq-eqb (section_number s) 7 seven))
          (rebuilt_7 profile grid part parts before others q p s t sections (replaced_with grid rest parts) follow.0 along g seven
          (rebuilt profile grid sections parts (placed_at q s ∷ before) (placed_at p t ∷ others) (q + length s) (p + length t) follow.1 (g.fits, along)
          (outside parts (placed_at p t ∷ others) (λ low high. absurd (omega arith))) after each.1 (pass_7 profile grid part parts before q s sections pass seven)
          (omega (arith, left_7 q s sections seven))))
      | inr other ↦
          subst (λ (b : Bool). Rebuilt profile grid (part ∷ parts) others q p (s ∷ sections) (with_rest grid part parts s rest b)) (sym (ne_eqb (section_number s) 7 other))
          (rebuilt_other profile grid part parts before others q p s t sections (replaced_with grid rest (part ∷ parts)) follow.0 along g other
          (rebuilt profile grid sections (part ∷ parts) (placed_at q s ∷ before) (placed_at p t ∷ others) (q + length s) (p + length t) follow.1 (g.fits, along)
          (g.within other) after each.1 (pass_other profile grid part parts before q s sections pass other)
          (count ∙ left_other q s sections other)))
    ]
