-- A message of one field is that field alone.
use Rattle.std.proofs.Common.{◌≡◌, ◌≢◌, ℕ, ◌+◌, ◌^◌, ◌≤◌, ◌<◌, ◌⊎◌, ◌||◌, ◌==◌, Bool, true, false, cond, Some, None, is_none, List, [], ◌∷◌, ◌++◌, All, length, take, drop, inl, inr, refl, sym, ap, ap₂, ◌∙◌, arith, subst, eqb-true, eq-eqb, append_assoc, length-append, length-take-le, length-drop, take-take, take-append-drop}
use Rattle.std.specs.List.{concat, count_by}
use Rattle.std.specs.Option.{option_map_or}
use Rattle.std.proofs.lemmas.Bool.{cases_eq}
use Rattle.std.proofs.lemmas.List.{take_all, drop-take}
use Rattle.std.proofs.lemmas.List.Elements.{All-from_get_or}
use Rattle.grib_bits.specs.Bits.{bits}
use Rattle.grib_bits.specs.Octets.{octet_list, num_on}
use Rattle.grib_bits.specs.Encoding.{octets_of}
use Rattle.grib_bits.proofs.Encoding.{num_on-octets_of, length-octets_of, AreOctets-octets_of}
use Rattle.grib_bits.proofs.Numbers.{same_from_num}
use Rattle.grib_bits.proofs.OctetBits.{AreOctets, length-bits, num_on-bits, same_from_bits}
use Rattle.grib_bits.proofs.OctetNumbers.{AreOctets-octet_list}
use Rattle.grib_base.specs.declared.profile.Profile.{Profile}
use Rattle.grib_base.specs.declared.profile.Profile.TheVariants.{Open}
use Rattle.grib_base.specs.Rules.{first_fault}
use Rattle.grib_bitmap.specs.Mask.{bitmap_indicator, bitmap_rules}
use Rattle.grib_packing.specs.Packing.{value_count}
use Rattle.grib2_sections.specs.Head.{end_mark, total_length}
use Rattle.grib2_sections.specs.Frame.{Placed, placed_at, section_number, may_follow, may_end}
use Rattle.grib2_message.specs.View.{is_numbered, section_in_force, octets_in_force, own_bitmap, earlier_mask, points_in_force}
use Rattle.grib2_message.specs.Grammar.{GrammarUnder, IsSection, AreSections}
use Rattle.grib2_message.specs.Fields.{field_count, sections_up_to_field, sections_of}
use Rattle.grib2_message.specs.Message.{IsAnyMessage}
use Rattle.grib2_message.proofs.Latest.{own_alone}
use Rattle.grib2_message.proofs.Passed.{passes_from_none}
use Rattle.grib2_message.proofs.Parted.{second_edition}
use Rattle.grib2_message.proofs.Placing.{placed_from}
use Rattle.grib2_message.proofs.Sound.{none_located, fault_of, earlier_kept}
use Rattle.grib2_message.proofs.Walk.{second_fails}
use Rattle.grib2_message.proofs.Ways.{up_here, up_other}
use Rattle.grib2_message.proofs.Whole.{accepted_in_grammar, sections_alone}
use Rattle.grib_select.specs.Single.{first_parts, single_of}
use Rattle.grib_select.proofs.Accepted.{count_7, count_none}
use Rattle.grib_select.proofs.Cut.{all_parts}

-- ---- the parts of a field, one after another

abbrev joined : List Placed → List ℕ
joined before =
    octets_in_force 1 before ++ (octets_in_force 2 before ++ (octets_in_force 3 before ++ (octets_in_force 4 before
    ++ (octets_in_force 5 before ++ (own_bitmap before ++ (octets_in_force 7 before ++ []))))))

other_number : (n k l : ℕ) → n ≡ k → k ≢ l → n ≢ l
other_number n k l is other same = other (sym is ∙ same)

-- after Sections 3 to 7, of which each stands once
module _ (head : List Placed) (q : ℕ) (p3 p4 p5 p6 p7 : List ℕ) (e3 : section_number p3 ≡ 3) (e4 : section_number p4 ≡ 4) (e5 : section_number p5 ≡ 5) (e6 : section_number p6 ≡ 6) (e7 : section_number p7 ≡ 7) where
  abbrev s3 : Placed
  s3 = placed_at q p3

  abbrev s4 : Placed
  s4 = placed_at (q + length p3) p4

  abbrev s5 : Placed
  s5 = placed_at (q + length p3 + length p4) p5

  abbrev s6 : Placed
  s6 = placed_at (q + length p3 + length p4 + length p5) p6

  abbrev s7 : Placed
  s7 = placed_at (q + length p3 + length p4 + length p5 + length p6) p7

  abbrev all : List Placed
  all = all_parts head q p3 p4 p5 p6 p7

  up_tail : sections_up_to_field 1 head (placed_from q (p3 ∷ p4 ∷ p5 ∷ p6 ∷ p7 ∷ [])) ≡ all
  up_tail =
      up_other s3 head (s4 ∷ s5 ∷ s6 ∷ s7 ∷ []) 0 (other_number (section_number p3) 3 7 e3 (λ e. absurd (omega arith)))
      ∙ up_other s4 (s3 ∷ head) (s5 ∷ s6 ∷ s7 ∷ []) 0 (other_number (section_number p4) 4 7 e4 (λ e. absurd (omega arith)))
      ∙ up_other s5 (s4 ∷ s3 ∷ head) (s6 ∷ s7 ∷ []) 0 (other_number (section_number p5) 5 7 e5 (λ e. absurd (omega arith)))
      ∙ up_other s6 (s5 ∷ s4 ∷ s3 ∷ head) (s7 ∷ []) 0 (other_number (section_number p6) 6 7 e6 (λ e. absurd (omega arith)))
      ∙ up_here s7 (s6 ∷ s5 ∷ s4 ∷ s3 ∷ head) [] e7

  part : (k : ℕ) → octets_in_force k all
      ≡ option_map_or (λ s. s.octets) (cond (7 == k) (Some s7) (cond (6 == k) (Some s6) (cond (5 == k) (Some s5) (cond (4 == k) (Some s4) (cond (3 == k) (Some s3) (section_in_force k head)))))) []
  part k = λ i.
      option_map_or (λ s. s.octets) (cond (e7 i == k) (Some s7) (cond (e6 i == k) (Some s6) (cond (e5 i == k) (Some s5) (cond (e4 i == k) (Some s4) (cond (e3 i == k) (Some s3) (section_in_force k head)))))) []

  module _ (alone : bitmap_indicator p6 ≢ 254) where
    own : own_bitmap all ≡ p6
    own = own_alone all (λ e. alone (sym (ap bitmap_indicator (part 6)) ∙ e)) ∙ part 6

    joined_tail : joined all ≡ octets_in_force 1 head ++ (octets_in_force 2 head ++ concat (p3 ∷ p4 ∷ p5 ∷ p6 ∷ p7 ∷ []))
    joined_tail = λ i. part 1 i ++ (part 2 i ++ (part 3 i ++ (part 4 i ++ (part 5 i ++ (own i ++ (part 7 i ++ []))))))

-- ---- the sections of a message of one field

-- those from some section on have one Section 7 at least
some_end : (profile : Profile) (before : List Placed) (q : ℕ) (s : List ℕ) (sections : List (List ℕ)) → AreSections profile before q (s ∷ sections)
    → 1 ≤ count_by (is_numbered 7) (placed_from q (s ∷ sections))
some_end profile before q s [] follow = omega (arith, count_7 (placed_at q s) [] (eqb-true (section_number s) 7 follow.1))
some_end profile before q s (t ∷ sections) follow =
    let rest = some_end profile (placed_at q s ∷ before) (q + length s) t sections follow.1 in
    let later = placed_from (q + length s) (t ∷ sections) in
    elim (cases_eq (section_number s) 7) [
      | inl seven ↦ omega (arith, count_7 (placed_at q s) later seven)
      | inr other ↦ omega (arith, count_none (placed_at q s) later other)
    ]

only : (k n : ℕ) → ((k == n) || false) ≡ true → n ≡ k
only k n e = by (k == n) refl e
  where
    by : (b : Bool) → (k == n) ≡ b → (b || false) ≡ true → n ≡ k
    by true is e = sym (eqb-true k n is)
    by false is e = absurd (cc)

-- what may follow Section n
after : (last n k : ℕ) → last ≡ n → may_follow last k ≡ true → may_follow n k ≡ true
after last n k is e = sym (ap (λ (j : ℕ). may_follow j k) is) ∙ e

ends_not : (last n : ℕ) → last ≡ n → may_end n ≡ false → may_end last ≡ true → ⊥
ends_not last n is off e = let clash : true ≡ false = sym e ∙ (ap may_end is ∙ off) in absurd (cc)

-- no Section 6 of it repeats an earlier one
alone_here : (profile : Profile) (before : List Placed) (q : ℕ) (s : List ℕ) → IsSection profile before q s → section_number s ≡ 6 → earlier_mask before ≡ None → bitmap_indicator s ≢ 254
alone_here profile before q s is six none repeats =
    let rules = passes_from_none (bitmap_rules s (points_in_force before) (value_count (octets_in_force 5 before)) (earlier_mask before))
    (none_located q (first_fault (bitmap_rules s (points_in_force before) (value_count (octets_in_force 5 before)) (earlier_mask before)))
    (sym (fault_of profile before (placed_at q s) 6 six) ∙ is.rules_hold)) in
    let off : is_none (earlier_mask before) ≡ false = second_fails (bitmap_indicator s == 254) (is_none (earlier_mask before)) rules.1.1.0 (eq-eqb _ 254 repeats) in
    let on : is_none (earlier_mask before) ≡ true = ap is_none none in
    absurd (cc)

-- from Section 3 on
module _ (profile : Profile) (head : List Placed) (q : ℕ) (p3 : List ℕ) (e3 : section_number p3 ≡ 3) (none : earlier_mask head ≡ None) where
  abbrev IsJoined : List (List ℕ) → Type 0
  IsJoined sections =
      joined (sections_up_to_field 1 head (placed_from q (p3 ∷ sections))) ≡ octets_in_force 1 head ++ (octets_in_force 2 head ++ concat (p3 ∷ sections))

  from_three : (sections : List (List ℕ)) → AreSections profile (placed_at q p3 ∷ head) (q + length p3) sections
      → count_by (is_numbered 7) (placed_from (q + length p3) sections) ≡ 1 → IsJoined sections
  from_three [] follow count = absurd (ends_not (section_number p3) 3 e3 refl follow)
  from_three (p4 ∷ []) follow count =
      let e4 = only 4 (section_number p4) (after (section_number p3) 3 (section_number p4) e3 follow.0.follows) in
      absurd (ends_not (section_number p4) 4 e4 refl follow.1)
  from_three (p4 ∷ p5 ∷ []) follow count =
      let e4 = only 4 (section_number p4) (after (section_number p3) 3 (section_number p4) e3 follow.0.follows) in
      let e5 = only 5 (section_number p5) (after (section_number p4) 4 (section_number p5) e4 follow.1.0.follows) in
      absurd (ends_not (section_number p5) 5 e5 refl follow.1.1)
  from_three (p4 ∷ p5 ∷ p6 ∷ []) follow count =
      let e4 = only 4 (section_number p4) (after (section_number p3) 3 (section_number p4) e3 follow.0.follows) in
      let e5 = only 5 (section_number p5) (after (section_number p4) 4 (section_number p5) e4 follow.1.0.follows) in
      let e6 = only 6 (section_number p6) (after (section_number p5) 5 (section_number p6) e5 follow.1.1.0.follows) in
      absurd (ends_not (section_number p6) 6 e6 refl follow.1.1.1)
  from_three (p4 ∷ p5 ∷ p6 ∷ p7 ∷ []) follow count =
      let e4 = only 4 (section_number p4) (after (section_number p3) 3 (section_number p4) e3 follow.0.follows) in
      let e5 = only 5 (section_number p5) (after (section_number p4) 4 (section_number p5) e4 follow.1.0.follows) in
      let e6 = only 6 (section_number p6) (after (section_number p5) 5 (section_number p6) e5 follow.1.1.0.follows) in
      let e7 = only 7 (section_number p7) (after (section_number p6) 6 (section_number p7) e6 follow.1.1.1.0.follows) in
      let t3 = placed_at q p3 in
      let t4 = placed_at (q + length p3) p4 in
      let t5 = placed_at (q + length p3 + length p4) p5 in
      let masks : earlier_mask (t5 ∷ t4 ∷ t3 ∷ head) ≡ None =
      earlier_kept t5 (t4 ∷ t3 ∷ head) (other_number (section_number p5) 5 6 e5 (λ e. absurd (omega arith)))
      ∙ earlier_kept t4 (t3 ∷ head) (other_number (section_number p4) 4 6 e4 (λ e. absurd (omega arith)))
      ∙ earlier_kept t3 head (other_number (section_number p3) 3 6 e3 (λ e. absurd (omega arith))) ∙ none in
      let alone = alone_here profile (t5 ∷ t4 ∷ t3 ∷ head) (q + length p3 + length p4 + length p5) p6 follow.1.1.0 e6 masks in
      ap joined (up_tail head q p3 p4 p5 p6 p7 e3 e4 e5 e6 e7) ∙ joined_tail head q p3 p4 p5 p6 p7 e3 e4 e5 e6 e7 alone
  from_three (p4 ∷ p5 ∷ p6 ∷ p7 ∷ p8 ∷ sections) follow count =
      let e4 = only 4 (section_number p4) (after (section_number p3) 3 (section_number p4) e3 follow.0.follows) in
      let e5 = only 5 (section_number p5) (after (section_number p4) 4 (section_number p5) e4 follow.1.0.follows) in
      let e6 = only 6 (section_number p6) (after (section_number p5) 5 (section_number p6) e5 follow.1.1.0.follows) in
      let e7 = only 7 (section_number p7) (after (section_number p6) 6 (section_number p7) e6 follow.1.1.1.0.follows) in
      let q4 = q + length p3 in
      let q5 = q4 + length p4 in
      let q6 = q5 + length p5 in
      let q7 = q6 + length p6 in
      let before = placed_at q7 p7 ∷ placed_at q6 p6 ∷ placed_at q5 p5 ∷ placed_at q4 p4 ∷ placed_at q p3 ∷ head in
      let more = some_end profile before (q7 + length p7) p8 sections follow.1.1.1.1 in
      let c4 = count_none (placed_at q4 p4) (placed_from q5 (p5 ∷ p6 ∷ p7 ∷ p8 ∷ sections)) (other_number (section_number p4) 4 7 e4 (λ e. absurd (omega arith))) in
      let c5 = count_none (placed_at q5 p5) (placed_from q6 (p6 ∷ p7 ∷ p8 ∷ sections)) (other_number (section_number p5) 5 7 e5 (λ e. absurd (omega arith))) in
      let c6 = count_none (placed_at q6 p6) (placed_from q7 (p7 ∷ p8 ∷ sections)) (other_number (section_number p6) 6 7 e6 (λ e. absurd (omega arith))) in
      let c7 = count_7 (placed_at q7 p7) (placed_from (q7 + length p7) (p8 ∷ sections)) e7 in
      absurd (omega (arith, c4, c5, c6, c7, more, count))

two_or_three : (n : ℕ) → may_follow 1 n ≡ true → (n ≡ 2) ⊎ (n ≡ 3)
two_or_three n e = by (2 == n) refl e
  where
    by : (b : Bool) → (2 == n) ≡ b → (b || ((3 == n) || false)) ≡ true → (n ≡ 2) ⊎ (n ≡ 3)
    by true is e = inl (sym (eqb-true 2 n is))
    by false is e = inr (only 3 n e)

-- all of them are the parts of the field
module _ (profile : Profile) where
  abbrev AllJoined : List (List ℕ) → Type 0
  AllJoined sections = joined (sections_up_to_field 1 [] (placed_from 17 sections)) ≡ concat sections

  module _ (p1 : List ℕ) (e1 : section_number p1 ≡ 1) where
    abbrev s1 : Placed
    s1 = placed_at 17 p1

    -- where Section 2 is absent
    without_two : (p3 : List ℕ) (sections : List (List ℕ)) → section_number p3 ≡ 3 → AreSections profile (s1 ∷ []) (17 + length p1) (p3 ∷ sections)
        → count_by (is_numbered 7) (placed_from 17 (p1 ∷ p3 ∷ sections)) ≡ 1 → AllJoined (p1 ∷ p3 ∷ sections)
    without_two p3 sections e3 follow count =
        let q = 17 + length p1 in
        let rest = placed_from q (p3 ∷ sections) in
        let later = placed_from (q + length p3) sections in
        let c1 = count_none s1 rest (other_number (section_number p1) 1 7 e1 (λ e. absurd (omega arith))) in
        let c3 = count_none (placed_at q p3) later (other_number (section_number p3) 3 7 e3 (λ e. absurd (omega arith))) in
        let none : earlier_mask (s1 ∷ []) ≡ None = earlier_kept s1 [] (other_number (section_number p1) 1 6 e1 (λ e. absurd (omega arith))) in
        ap joined (up_other s1 [] rest 0 (other_number (section_number p1) 1 7 e1 (λ e. absurd (omega arith))))
        ∙ from_three profile (s1 ∷ []) q p3 e3 none sections follow.1 (sym c3 ∙ sym c1 ∙ count)
        ∙ (λ i. option_map_or (λ s. s.octets) (cond (e1 i == 1) (Some s1) None) [] ++ (option_map_or (λ s. s.octets) (cond (e1 i == 2) (Some s1) None) [] ++ concat (p3 ∷ sections)))

    -- where it is there
    with_two : (p2 p3 : List ℕ) (sections : List (List ℕ)) → section_number p2 ≡ 2 → section_number p3 ≡ 3
        → AreSections profile (placed_at (17 + length p1) p2 ∷ s1 ∷ []) (17 + length p1 + length p2) (p3 ∷ sections)
        → count_by (is_numbered 7) (placed_from 17 (p1 ∷ p2 ∷ p3 ∷ sections)) ≡ 1 → AllJoined (p1 ∷ p2 ∷ p3 ∷ sections)
    with_two p2 p3 sections e2 e3 follow count =
        let q2 = 17 + length p1 in
        let q = q2 + length p2 in
        let s2 = placed_at q2 p2 in
        let rest = placed_from q (p3 ∷ sections) in
        let later = placed_from (q + length p3) sections in
        let c1 = count_none s1 (s2 ∷ rest) (other_number (section_number p1) 1 7 e1 (λ e. absurd (omega arith))) in
        let c2 = count_none s2 rest (other_number (section_number p2) 2 7 e2 (λ e. absurd (omega arith))) in
        let c3 = count_none (placed_at q p3) later (other_number (section_number p3) 3 7 e3 (λ e. absurd (omega arith))) in
        let none : earlier_mask (s2 ∷ s1 ∷ []) ≡ None =
        earlier_kept s2 (s1 ∷ []) (other_number (section_number p2) 2 6 e2 (λ e. absurd (omega arith)))
        ∙ earlier_kept s1 [] (other_number (section_number p1) 1 6 e1 (λ e. absurd (omega arith))) in
        ap joined (up_other s1 [] (s2 ∷ rest) 0 (other_number (section_number p1) 1 7 e1 (λ e. absurd (omega arith))))
        ∙ ap joined (up_other s2 (s1 ∷ []) rest 0 (other_number (section_number p2) 2 7 e2 (λ e. absurd (omega arith))))
        ∙ from_three profile (s2 ∷ s1 ∷ []) q p3 e3 none sections follow.1 (sym c3 ∙ sym c2 ∙ sym c1 ∙ count)
        ∙ (λ i.
        option_map_or (λ s. s.octets) (cond (e2 i == 1) (Some s2) (cond (e1 i == 1) (Some s1) None)) []
        ++ (option_map_or (λ s. s.octets) (cond (e2 i == 2) (Some s2) (cond (e1 i == 2) (Some s1) None)) [] ++ concat (p3 ∷ sections)))

  all_joined : (sections : List (List ℕ)) → AreSections profile [] 17 sections → count_by (is_numbered 7) (placed_from 17 sections) ≡ 1 → AllJoined sections
  all_joined [] follow count = absurd (ends_not 0 0 refl refl follow)
  all_joined (p1 ∷ []) follow count = absurd (ends_not (section_number p1) 1 (only 1 (section_number p1) follow.0.follows) refl follow.1)
  all_joined (p1 ∷ p ∷ []) follow count =
      let e1 = only 1 (section_number p1) follow.0.follows in
      elim (two_or_three (section_number p) (after (section_number p1) 1 (section_number p) e1 follow.1.0.follows)) [
        | inl two ↦ absurd (ends_not (section_number p) 2 two refl follow.1.1)
        | inr three ↦ absurd (ends_not (section_number p) 3 three refl follow.1.1)
      ]
  all_joined (p1 ∷ p ∷ p' ∷ sections) follow count =
      let e1 = only 1 (section_number p1) follow.0.follows in
      elim (two_or_three (section_number p) (after (section_number p1) 1 (section_number p) e1 follow.1.0.follows)) [
        | inl two ↦
            let three = only 3 (section_number p') (after (section_number p) 2 (section_number p') two follow.1.1.0.follows) in
            with_two p1 e1 p p' sections two three follow.1.1 count
        | inr three ↦ without_two p1 e1 p (p' ∷ sections) three follow.1 count
      ]

-- ---- Section 0

same_by_number : (xs ys : List ℕ) → AreOctets xs → AreOctets ys → length xs ≡ length ys → num_on 0 xs ≡ num_on 0 ys → xs ≡ ys
same_by_number xs ys small small' long number =
    same_from_bits xs ys small small'
    (same_from_num (bits xs) (bits ys) (omega (arith, length-bits xs, length-bits ys)) (omega (arith, num_on-bits 0 xs small, num_on-bits 0 ys small')))

-- octets 9-16 state the length
stated : (m : List ℕ) → AreOctets m → 16 ≤ length m → length m < 256 ^ 8 → total_length m ≡ length m → octets_of 8 (length m) ≡ drop 8 (take 16 m)
stated m small long fits states =
    same_by_number (octets_of 8 (length m)) (octet_list m 9 16) (AreOctets-octets_of 8 (length m)) (AreOctets-octet_list m 9 16 small)
    (omega (arith, length-octets_of 8 (length m), length-take-le 8 (drop 8 m) (omega (arith, length-drop 8 m))))
    (num_on-octets_of 8 (length m) fits ∙ sym states)
    ∙ sym (drop-take 8 8 m)

-- ---- the message

pub sole_field : (m : List ℕ) → IsAnyMessage m → AreOctets m → field_count m ≡ 1 → single_of m 1 ≡ m
sole_field m h small one =
    let all : take (length m) m ≡ m = take_all (length m) m (omega arith) in
    let each : All (λ octet. octet < 256) m = All-from_get_or (λ octet. octet < 256) m 0 (λ i below. small i) in
    let found = accepted_in_grammar Open m (length m) (subst (All (λ octet. octet < 256)) (sym all) each) h.indicated (second_edition Open m h) h.accepted in
    let sections = found.0 in
    let g : GrammarUnder Open m sections = subst (λ (x : List ℕ). GrammarUnder Open x sections) all found.2 in
    let placed : sections_of m ≡ placed_from 17 sections = sections_alone Open m sections g in
    let count : count_by (is_numbered 7) (placed_from 17 sections) ≡ 1 = ap (count_by (is_numbered 7)) (sym placed) ∙ one in
    let body : first_parts m 1 7 ≡ concat sections = ap (λ (xs : List Placed). joined (sections_up_to_field 1 [] xs)) placed ∙ all_joined Open sections g.sections_follow count in
    let sixteen : length (take 16 m) ≡ 16 = length-take-le 16 m (omega (arith, g.least)) in
    let total : 16 + length (concat sections) + 4 ≡ length m =
    omega (arith, ap length g.joined, length-append (take 16 m ++ concat sections) end_mark, length-append (take 16 m) (concat sections), sixteen) in
    let head : take 8 m ++ octets_of 8 (length m) ≡ take 16 m =
    ap₂ (λ (xs ys : List ℕ). xs ++ ys) (sym (take-take 8 16 m (omega arith))) (stated m small (omega (arith, g.least)) (omega (arith, g.most)) g.total_stands)
    ∙ take-append-drop 8 (take 16 m) in
    ap (λ (xs : List ℕ). take 8 m ++ (octets_of 8 (16 + length xs + 4) ++ (xs ++ end_mark))) body
    ∙ ap (λ (n : ℕ). take 8 m ++ (octets_of 8 n ++ (concat sections ++ end_mark))) total
    ∙ sym (append_assoc (take 8 m) (octets_of 8 (length m)) (concat sections ++ end_mark))
    ∙ ap (λ (xs : List ℕ). xs ++ (concat sections ++ end_mark)) head
    ∙ sym (append_assoc (take 16 m) (concat sections) end_mark)
    ∙ sym g.joined

-- the octets of a message of one field are those of the field
pub is_sole : (m shown : List ℕ) (field : ℕ) → IsAnyMessage m → shown ≡ m → AreOctets shown → field_count m ≡ 1 → 1 ≤ field → field ≤ field_count m → shown ≡ single_of m field
is_sole m shown field h is small one low high =
    let first : 1 ≡ field = omega arith in
    is ∙ sym (sole_field m h (subst AreOctets is small) one) ∙ ap (single_of m) first
