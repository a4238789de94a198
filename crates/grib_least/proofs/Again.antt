-- A message in the fewest octets once more.
use Rattle.std.proofs.Common.{◌≡◌, ◌≢◌, ℕ, zero, suc, ◌+◌, ◌≤◌, ◌<◌, ◌⊎◌, Bool, true, false, cond, nat_lt, ◌==◌, List, [], ◌∷◌, ◌++◌, length, map, take, drop, inl, inr, refl, sym, ap, ap₂, ◌∙◌, arith, subst, le-ltb, ne_eqb, add-one, append_assoc, length-take-le}
use Rattle.std.specs.List.{range_with_len, concat, count_by, filter_map}
use Rattle.std.proofs.lemmas.Bool.{cases_eq, ltb-true}
use Rattle.std.proofs.lemmas.List.{take-append-le, take-take}
use Rattle.grib_bits.specs.Octets.{octets}
use Rattle.grib_bits.specs.Encoding.{octets_of}
use Rattle.grib_base.specs.declared.profile.Profile.{Profile}
use Rattle.grib2_sections.specs.Head.{end_mark}
use Rattle.grib2_sections.specs.Frame.{Placed, section_number}
use Rattle.grib2_grids.specs.Grid.{grid_points}
use Rattle.grib_bitmap.specs.Mask.{bitmap_indicator}
use Rattle.grib_packing.specs.declared.written.Packed.{Packed}
use Rattle.grib2_message.specs.View.{is_numbered, octets_in_force}
use Rattle.grib2_message.specs.Grammar.{GrammarUnder}
use Rattle.grib2_message.specs.Fields.{sections_of, field_count, field_sections, sections_up_to_field, part_octets, field_bitmap, column_of}
use Rattle.grib2_message.specs.Assembled.{assembled, replaced, in_place_with, as_it_is, IsGridUnder, PartsPassUnder, MayBeAssembledUnder}
use Rattle.grib2_message.proofs.Latest.{own_alone}
use Rattle.grib2_message.proofs.Parted.{message_parted, message_least, joined_grammar}
use Rattle.grib2_message.proofs.Placing.{placed_from}
use Rattle.grib2_message.proofs.PutTogether.{assembled_long, head_of, each_grid_of}
use Rattle.grib2_message.proofs.Replaced.{EachGrid, Rebuilt, rebuilt, outside}
use Rattle.grib2_message.proofs.Sound.{sound_none}
use Rattle.grib2_message.proofs.Whole.{sections_alone}
use Rattle.grib_repack.specs.Repacked.{kind_of}
use Rattle.grib_least.specs.Least.{own_form, form_of, packed_forms, least_form, least_forms, smallest, targets, shorter, least}
use Rattle.grib_least.proofs.Smallest.{smallest_least, smallest_stays}
use Rattle.grib_least.proofs.Kept.{Stands}

-- ---- the parts put in again

-- each section of a part has its number
record IsNumbered (part : Packed) : Type 0 where
  pub five : section_number part.section5 ≡ 5
  pub six : section_number part.section6 ≡ 6
  pub seven : section_number part.section7 ≡ 7

abbrev AreNumbered : List Packed → Type 0
AreNumbered [] = Unit {0}
AreNumbered (part ∷ parts) = IsNumbered part × AreNumbered parts

-- what stands in place of a section has its number, and stays where the parts are put in again
record StaysPut (parts : List Packed) (s t : List ℕ) : Type 0 where
  pub same : section_number t ≡ section_number s
  pub put : in_place_with as_it_is parts t ≡ t

-- what stands for a section with this number
put_by : ℕ → Packed → List ℕ → List ℕ
put_by n part s = cond (n == 3) s (cond (n == 5) part.section5 (cond (n == 6) part.section6 (cond (n == 7) part.section7 s)))

by_number : (part : Packed) (parts : List Packed) (s : List ℕ) (n : ℕ) → section_number s ≡ n → in_place_with as_it_is (part ∷ parts) s ≡ put_by n part s
unfolding put_by
by_number part parts s n is = ap (λ (k : ℕ). put_by k part s) is

put_other : (part : Packed) (s : List ℕ) (n : ℕ) → n ≢ 5 → n ≢ 6 → n ≢ 7 → put_by n part s ≡ s
unfolding put_by
put_other part s n five six seven = same_if (n == 3) (ap₂ (λ (a b : Bool). cond a part.section5 (cond b part.section6 (cond (n == 7) part.section7 s))) (ne_eqb n 5 five) (ne_eqb n 6 six)
    ∙ ap (λ (a : Bool). cond a part.section7 s) (ne_eqb n 7 seven)) where
      same_if : (b : Bool) {x : List ℕ} → x ≡ s → cond b s x ≡ s
      same_if true is = refl
      same_if false is = is

with_number : (part : Packed) (parts : List Packed) (s t : List ℕ) (n : ℕ) → section_number s ≡ n → section_number t ≡ n → put_by n part s ≡ t → put_by n part t ≡ t
    → StaysPut (part ∷ parts) s (in_place_with as_it_is (part ∷ parts) s)
with_number part parts s t n here there first again =
    subst (StaysPut (part ∷ parts) s) (sym (by_number part parts s n here ∙ first))
    (record { same = there ∙ sym here; put = by_number part parts t n there ∙ again })

either : (b : Bool) (s : List ℕ) → cond b s s ≡ s
either true s = refl
either false s = refl

stays_put : (parts : List Packed) (s : List ℕ) → AreNumbered parts → StaysPut parts s (in_place_with as_it_is parts s)
unfolding put_by
stays_put [] s are =
    let is : in_place_with as_it_is [] s ≡ s = either (section_number s == 3) s in
    subst (StaysPut [] s) (sym is) (record { same = refl; put = is })
stays_put (part ∷ parts) s are = elim (cases_eq (section_number s) 5) [
  | inl five ↦ with_number part parts s part.section5 5 five are.0.five refl refl
  | inr not_5 ↦ elim (cases_eq (section_number s) 6) [
    | inl six ↦ with_number part parts s part.section6 6 six are.0.six refl refl
    | inr not_6 ↦ elim (cases_eq (section_number s) 7) [
      | inl seven ↦ with_number part parts s part.section7 7 seven are.0.seven refl refl
      | inr not_7 ↦
          let stays = put_other part s (section_number s) not_5 not_6 not_7 in
          with_number part parts s s (section_number s) refl refl stays stays
    ]
  ]
]

drop_numbered : (b : Bool) (parts : List Packed) → AreNumbered parts → AreNumbered (cond b (drop 1 parts) parts)
drop_numbered true [] are = tt
drop_numbered true (part ∷ parts) are = are.1
drop_numbered false parts are = are

-- all sections
replaced_again : (sections : List Placed) (parts : List Packed) (q : ℕ) → AreNumbered parts → replaced (placed_from q (replaced sections parts)) parts ≡ replaced sections parts
replaced_again [] parts q are = refl
replaced_again (s ∷ sections) parts q are =
    let t = in_place_with as_it_is parts s.octets in
    let here = stays_put parts s.octets are in
    let left = cond (is_numbered 7 s) (drop 1 parts) parts in
    let ends : (section_number t == 7) ≡ is_numbered 7 s = ap (λ (n : ℕ). n == 7) here.same in
    (λ j. here.put j ∷ replaced (placed_from (q + length t) (replaced sections left)) (cond (ends j) (drop 1 parts) parts))
    ∙ ap (λ (xs : List (List ℕ)). t ∷ xs) (replaced_again sections left (q + length t) (drop_numbered (is_numbered 7 s) parts are))

-- ---- the message

numbered_from : (f : ℕ → Packed) (first n : ℕ) → ((i : ℕ) → first ≤ i → i < first + n → IsNumbered (f i)) → AreNumbered (map f (range_with_len first n))
numbered_from f first zero each = tt
numbered_from f first (suc n) each =
    (each first (omega arith) (omega arith), numbered_from f (first + 1) n (λ i low high. each i (omega arith) (omega arith)))

same_from : (f g : ℕ → Packed) (first n : ℕ) → ((i : ℕ) → first ≤ i → i < first + n → f i ≡ g i) → map f (range_with_len first n) ≡ map g (range_with_len first n)
same_from f g first zero each = refl
same_from f g first (suc n) each =
    ap₂ (λ (x : Packed) (xs : List Packed). x ∷ xs) (each first (omega arith) (omega arith)) (same_from f g (first + 1) n (λ i low high. each i (omega arith) (omega arith)))

module _ (profile : Profile) (m : List ℕ) (parts : List Packed) (h : MayBeAssembledUnder profile m parts) where
  abbrev news : List (List ℕ)
  news = replaced (sections_of m) parts

  follows : Rebuilt profile as_it_is parts [] 17 17 (message_parted profile m h.accepted).sections news
  follows =
      let p = message_parted profile m h.accepted in
      let each = subst (EachGrid (λ s. IsGridUnder profile s → IsGridUnder profile s)) p.found (each_grid_of profile (λ s. IsGridUnder profile s → IsGridUnder profile s) m h.accepted (λ i low high is. is)) in
      subst (λ (xs : List Placed). Rebuilt profile as_it_is parts [] 17 17 p.sections (replaced xs parts)) (sym p.found)
      (rebuilt profile as_it_is p.sections parts [] [] 17 17 p.follow tt (outside parts [] (λ low high. absurd (omega arith))) (sound_none profile) each
      (λ i part e.
      subst (λ (xs : List Placed). PartsPassUnder profile (grid_points (octets_in_force 3 (sections_up_to_field (suc i) [] xs))) part) p.found
      (subst (λ (n : ℕ). PartsPassUnder profile (grid_points (part_octets m n 3)) part) (add-one i) (h.pass i part e)))
      (h.one_each ∙ ap (count_by (is_numbered 7)) p.found))

  grammar : GrammarUnder profile (assembled m parts) news
  grammar =
      let body = concat news in
      let total = 16 + length body + 4 in
      let few : total ≤ 268435456 = omega (arith, assembled_long as_it_is m parts (omega (arith, message_least profile m h.accepted)), h.most) in
      subst (λ (xs : List ℕ). GrammarUnder profile xs news) (append_assoc (take 8 m) (octets_of 8 total) (body ++ end_mark))
      (joined_grammar profile (take 8 m ++ octets_of 8 total) news (head_of profile m total h.accepted few) few follows.follow)

  head_again : take 8 (assembled m parts) ≡ take 8 m
  head_again =
      let body = concat news in
      let eight : length (take 8 m) ≡ 8 = length-take-le 8 m (omega (arith, message_least profile m h.accepted)) in
      take-append-le 8 (take 8 m) (octets_of 8 (16 + length body + 4) ++ (body ++ end_mark)) (omega (arith, eight)) ∙ take-take 8 8 m (omega arith)

  -- with the parts that it has it stays as it is
  assembled_again : AreNumbered parts → assembled (assembled m parts) parts ≡ assembled m parts
  assembled_again are =
      let body : concat (replaced (sections_of (assembled m parts)) parts) ≡ concat news =
      ap (λ (xs : List Placed). concat (replaced xs parts)) (sections_alone profile (assembled m parts) news grammar)
      ∙ ap concat (replaced_again (sections_of m) parts 17 are) in
      (λ j. head_again j ++ (octets_of 8 (16 + length (body j) + 4) ++ (body j ++ end_mark)))

-- ---- the forms

-- the bitmap of a field whose Section 6 repeats none
bitmap_alone : (m : List ℕ) (i : ℕ) (s : List ℕ) → part_octets m i 6 ≡ s → (bitmap_indicator s ≡ 0) ⊎ (bitmap_indicator s ≡ 255) → field_bitmap m i ≡ s
bitmap_alone m i s is alone =
    let other : (bitmap_indicator s ≡ 0) ⊎ (bitmap_indicator s ≡ 255) → bitmap_indicator (part_octets m i 6) ≢ 254 = λ a same. elim a [
      | inl own ↦ absurd (omega (arith, own, same, ap bitmap_indicator is))
      | inr all ↦ absurd (omega (arith, all, same, ap bitmap_indicator is))
    ] in
    own_alone (field_sections m i) (other alone) ∙ is

-- the smallest form of a field is its own form afterwards
form_again : (profile : Profile) (m other : List ℕ) (i : ℕ) → column_of other i ≡ column_of m i → Stands profile m i (least_form profile m i)
    → (let p = least_form profile m i in (part_octets other i 5 ≡ p.section5) × (part_octets other i 6 ≡ p.section6) × (part_octets other i 7 ≡ p.section7))
    → least_form profile other i ≡ least_form profile m i
form_again profile m other i column stands has =
    let p = least_form profile m i in
    let bitmap = bitmap_alone other i p.section6 has.1 stands.passes.alone in
    let own : own_form other i ≡ p = λ j. record { section5 = has.0 j; section6 = bitmap j; section7 = has.2 j } in
    let kind : kind_of other i ≡ kind_of m i = ap (λ (s : List ℕ). octets s 21 21) has.0 ∙ stands.kind in
    (λ j. smallest (own j) (filter_map (form_of (column j) (kind j)) (targets profile)))
    ∙ smallest_stays p (packed_forms profile m i) (smallest_least (own_form m i) (packed_forms profile m i)).1

-- ---- the whole

-- what is known of the message that is put together
pub record Put (profile : Profile) (m other : List ℕ) : Type 0 where
  pub may : MayBeAssembledUnder profile m (least_forms profile m)
  pub stands : (i : ℕ) → 1 ≤ i → i ≤ field_count m → Stands profile m i (least_form profile m i)
  pub fields : field_count other ≡ field_count m
  pub columns : (i : ℕ) → 1 ≤ i → i ≤ field_count m → column_of other i ≡ column_of m i
  pub parts : (i : ℕ) → 1 ≤ i → i ≤ field_count m
      → let p = least_form profile m i in (part_octets other i 5 ≡ p.section5) × (part_octets other i 6 ≡ p.section6) × (part_octets other i 7 ≡ p.section7)

module _ (profile : Profile) (m : List ℕ) (put : Put profile m (assembled m (least_forms profile m))) where
  forms_again : least_forms profile (assembled m (least_forms profile m)) ≡ least_forms profile m
  forms_again =
      let other = assembled m (least_forms profile m) in
      ap (λ (n : ℕ). map (least_form profile other) (range_with_len 1 n)) put.fields
      ∙ same_from (least_form profile other) (least_form profile m) 1 (field_count m)
      (λ i low high. form_again profile m other i (put.columns i low (omega arith)) (put.stands i low (omega arith)) (put.parts i low (omega arith)))

  numbered : AreNumbered (least_forms profile m)
  numbered =
      numbered_from (least_form profile m) 1 (field_count m)
      (λ i low high.
      let passes = (put.stands i low (omega arith)).passes in
      record { five = passes.itself_5.number_stands; six = passes.itself_6.number_stands; seven = passes.itself_7.number_stands })

  whole_again : least profile (assembled m (least_forms profile m)) ≡ assembled m (least_forms profile m)
  whole_again =
      let other = assembled m (least_forms profile m) in
      let again : assembled other (least_forms profile other) ≡ other = ap (assembled other) forms_again ∙ assembled_again profile m (least_forms profile m) put.may numbered in
      ap (shorter other) again
      ∙ ap (λ (b : Bool). cond b other other) (le-ltb (length other) (length other) (omega arith))

-- the shorter of a message and another, once more
pub again_least : (profile : Profile) (m : List ℕ) → (length (assembled m (least_forms profile m)) < length m → Put profile m (assembled m (least_forms profile m))) → least profile (least profile m) ≡ least profile m
again_least profile m put = go (assembled m (least_forms profile m)) refl (nat_lt (length (assembled m (least_forms profile m))) (length m)) refl where
  go : (other : List ℕ) → other ≡ assembled m (least_forms profile m) → (b : Bool) → nat_lt (length other) (length m) ≡ b → least profile (cond b other m) ≡ cond b other m
  go other is true e =
      subst (λ (x : List ℕ). least profile x ≡ x) (sym is) (whole_again profile m (put (omega (arith, ap length is, ltb-true (length other) (length m) e))))
  go other is false e = sym (ap (shorter m) is) ∙ ap (λ (b : Bool). cond b other m) e
