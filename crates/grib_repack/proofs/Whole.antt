-- How long a message is that is put together: what stays of it, and the new sections.
use Rattle.std.proofs.Common.{◌≡◌, ◌≢◌, ℕ, zero, suc, ◌+◌, ◌-◌, ◌<◌, ◌≤◌, ◌⊎◌, Bool, cond, List, [], ◌∷◌, length, ◌==◌, inl, inr, refl, sym, ap, ◌∙◌, arith, eqb-true, eq-eqb, ne_eqb, length-append}
use Rattle.std.specs.List.{concat, count_by, range_with_len, sum_by}
use Rattle.std.proofs.lemmas.Bool.{cases_eq}
use Rattle.std.proofs.lemmas.List.Sums.{sum_by-cons, sum_by-append, sum_by_push}
use Rattle.std.proofs.lemmas.List.FromFn.{length-map-range_with_len, sum_by-map-range_with_len_more}
use Rattle.grib_base.specs.declared.profile.Profile.{Profile}
use Rattle.grib_packing.specs.declared.written.Packed.{Packed}
use Rattle.grib_packing.specs.Misfits.{Target}
use Rattle.grib2_sections.specs.Frame.{Placed, placed_at, section_number}
use Rattle.grib2_message.specs.View.{is_numbered, last_number, octets_in_force}
use Rattle.grib2_message.specs.Fields.{sections_of, sections_up_to_field, field_count}
use Rattle.grib2_message.specs.Grammar.{AreSections}
use Rattle.grib2_message.specs.Message.{IsMessageUnder}
use Rattle.grib2_message.specs.Assembled.{assembled, replaced, in_place_with, as_it_is}
use Rattle.grib2_message.proofs.Latest.{octets_same, octets_other}
use Rattle.grib2_message.proofs.Order.{Follows, next, skips, again, follows_tells}
use Rattle.grib2_message.proofs.Parted.{message_parted, message_states, message_least, message_most}
use Rattle.grib2_message.proofs.Placing.{placed_from}
use Rattle.grib2_message.proofs.PutTogether.{assembled_long}
use Rattle.grib2_message.proofs.Replaced.{left, left_7, left_other}
use Rattle.grib2_message.proofs.Ways.{up_here, up_more, up_other}
use Rattle.grib_repack.specs.Lengths.{own_length, packed_length, kept_length, length_with}
use Rattle.grib_repack.specs.Repacked.{packed_field, packed_fields, repacked}
use Rattle.grib_repack.proofs.Fields.{range-at, range-more}

-- ---- sums

-- of the first n of some numbers, the first of which is f 0
abbrev sum_first : (ℕ → ℕ) → ℕ → ℕ
sum_first f zero = 0
sum_first f (suc n) = f 0 + sum_first (λ i. f (suc i)) n

-- they are those from a on
sum_from : (f : ℕ → ℕ) (a n : ℕ) → sum_by f (range_with_len a n) ≡ sum_first (λ i. f (a + i)) n
sum_from f a zero = refl
sum_from f a (suc n) =
    let step : (i : ℕ) → a + 1 + i ≡ a + suc i = λ i. omega arith in
    let first : f a ≡ f (a + 0) = (let same : a ≡ a + 0 = omega arith in ap f same) in
    let later : sum_by f (range_with_len (a + 1) n) ≡ sum_first (λ i. f (a + suc i)) n = sum_from f (a + 1) n ∙ (λ j. sum_first (λ i. f (step i j)) n) in
    omega (arith, sum_by-cons f a (range_with_len (a + 1) n), first, later)

-- one of them and those before it are no more than all
sum_before : (f : ℕ → ℕ) (n count : ℕ) → n < count → sum_by f (range_with_len 1 n) + f (n + 1) ≤ sum_by f (range_with_len 1 count)
sum_before f n count low =
    let rest = range_with_len (n + 2) (count - n - 1) in
    let whole : sum_by f (range_with_len 1 count) ≡ sum_by f (range_with_len 1 n) + sum_by f ((n + 1) ∷ rest) =
    ap (sum_by f) (range-at n count low) ∙ sum_by-append f (range_with_len 1 n) ((n + 1) ∷ rest) in
    omega (arith, whole, sum_by-cons f (n + 1) rest)

-- ---- the Sections 5, 6 and 7 that end a field, after those before

abbrev own_at : List Placed → ℕ
own_at before = length (octets_in_force 5 before) + length (octets_in_force 6 before) + length (octets_in_force 7 before)

-- those of the first n fields
abbrev own_sum : ℕ → List Placed → List Placed → ℕ
own_sum n before sections = sum_first (λ i. own_at (sections_up_to_field (suc i) before sections)) n

-- those of the field that has begun
abbrev begun_by : ℕ → List Placed → ℕ
begun_by last before =
    cond (last == 5) (length (octets_in_force 5 before))
    (cond (last == 6) (length (octets_in_force 5 before) + length (octets_in_force 6 before)) 0)

-- ---- the parts

-- what of a part is not put in yet, after a section with this number
abbrev part_left : ℕ → Packed → ℕ
part_left last p = cond (last == 5) (length p.section6 + length p.section7) (cond (last == 6) (length p.section7) (packed_length p))

abbrev parts_left : ℕ → List Packed → ℕ
parts_left last [] = 0
parts_left last (p ∷ parts) = part_left last p + sum_by packed_length parts

-- what is put in place of a section with this number
abbrev put_in : ℕ → Packed → List ℕ → ℕ
put_in n p s =
    length (cond (n == 3) s (cond (n == 5) p.section5 (cond (n == 6) p.section6 (cond (n == 7) p.section7 s))))

left_low : (last : ℕ) (p : Packed) → last ≤ 4 → part_left last p ≡ packed_length p
left_low zero p low = refl
left_low (suc zero) p low = refl
left_low (suc (suc zero)) p low = refl
left_low (suc (suc (suc zero))) p low = refl
left_low (suc (suc (suc (suc zero)))) p low = refl
left_low (suc (suc (suc (suc (suc last))))) p low = absurd (omega arith)

begun_low : (last : ℕ) (before : List Placed) → last ≤ 4 → begun_by last before ≡ 0
begun_low zero before low = refl
begun_low (suc zero) before low = refl
begun_low (suc (suc zero)) before low = refl
begun_low (suc (suc (suc zero))) before low = refl
begun_low (suc (suc (suc (suc zero)))) before low = refl
begun_low (suc (suc (suc (suc (suc last))))) before low = absurd (omega arith)

put_low : (n : ℕ) (p : Packed) (s : List ℕ) → n ≤ 4 → put_in n p s ≡ length s
put_low zero p s low = refl
put_low (suc zero) p s low = refl
put_low (suc (suc zero)) p s low = refl
put_low (suc (suc (suc zero))) p s low = refl
put_low (suc (suc (suc (suc zero)))) p s low = refl
put_low (suc (suc (suc (suc (suc n))))) p s low = absurd (omega arith)

-- a field begins anew after Section 7
left_end : (parts : List Packed) → parts_left 7 parts ≡ sum_by packed_length parts
left_end [] = refl
left_end (p ∷ parts) = sym (sum_by-cons packed_length p parts)

-- ---- which section comes

data Comes (last n : ℕ) : Type 0 where
  low : n ≤ 4 → (last ≤ 3) ⊎ (last ≡ 7) → Comes last n
  five : n ≡ 5 → last ≡ 4 → Comes last n
  six : n ≡ 6 → last ≡ 5 → Comes last n
  seven : n ≡ 7 → last ≡ 6 → Comes last n

comes : (last n : ℕ) → Follows last n → Comes last n
comes last n (skips a b) = low (omega arith) (inl (omega arith))
comes last n (again a b c) = low (omega arith) (inr a)
comes last n (next e few) = elim (cases_eq n 5) [
  | inl is ↦ five is (omega arith)
  | inr not_5 ↦ elim (cases_eq n 6) [
    | inl is ↦ six is (omega arith)
    | inr not_6 ↦ elim (cases_eq n 7) [
      | inl is ↦ seven is (omega arith)
      | inr not_7 ↦ low (omega arith) (inl (omega arith))
    ]
  ]
]

-- no field has begun before Sections 2 to 4
none_begun : (last : ℕ) (before : List Placed) → (last ≤ 3) ⊎ (last ≡ 7) → begun_by last before ≡ 0
none_begun last before (inl few) = begun_low last before (omega arith)
none_begun last before (inr end) = ap (λ (n : ℕ). begun_by n before) end

all_left : (last : ℕ) (p : Packed) → (last ≤ 3) ⊎ (last ≡ 7) → part_left last p ≡ packed_length p
all_left last p (inl few) = left_low last p (omega arith)
all_left last p (inr end) = ap (λ (n : ℕ). part_left n p) end

-- ---- one section

module _ (p : Packed) (before : List Placed) (q : ℕ) (s : List ℕ) where
  -- what is put in, and what is left, within a field
  abbrev Balanced : Type 0
  Balanced =
      put_in (section_number s) p s + begun_by (section_number s) (placed_at q s ∷ before) + part_left (section_number s) p
      ≡ length s + begun_by (last_number before) before + part_left (last_number before) p

  balanced_low : section_number s ≤ 4 → (last_number before ≤ 3) ⊎ (last_number before ≡ 7) → Balanced
  balanced_low few begins =
      omega (
        arith,
        put_low (section_number s) p s few,
        begun_low (section_number s) (placed_at q s ∷ before) few,
        left_low (section_number s) p few,
        none_begun (last_number before) before begins,
        all_left (last_number before) p begins,
      )

  balanced_5 : section_number s ≡ 5 → last_number before ≡ 4 → Balanced
  balanced_5 is last =
      let put : put_in (section_number s) p s ≡ length p.section5 = ap (λ (n : ℕ). put_in n p s) is in
      let begun : begun_by (section_number s) (placed_at q s ∷ before) ≡ length (octets_in_force 5 (placed_at q s ∷ before)) = ap (λ (n : ℕ). begun_by n (placed_at q s ∷ before)) is in
      let rest : part_left (section_number s) p ≡ length p.section6 + length p.section7 = ap (λ (n : ℕ). part_left n p) is in
      omega (
        arith,
        put,
        begun,
        rest,
        ap length (octets_same (placed_at q s) before 5 is),
        begun_low (last_number before) before (omega (arith, last)),
        left_low (last_number before) p (omega (arith, last)),
      )

  balanced_6 : section_number s ≡ 6 → last_number before ≡ 5 → Balanced
  balanced_6 is last =
      let put : put_in (section_number s) p s ≡ length p.section6 = ap (λ (n : ℕ). put_in n p s) is in
      let begun : begun_by (section_number s) (placed_at q s ∷ before) ≡ length (octets_in_force 5 (placed_at q s ∷ before)) + length (octets_in_force 6 (placed_at q s ∷ before)) =
      ap (λ (n : ℕ). begun_by n (placed_at q s ∷ before)) is in
      let rest : part_left (section_number s) p ≡ length p.section7 = ap (λ (n : ℕ). part_left n p) is in
      let earlier : begun_by (last_number before) before ≡ length (octets_in_force 5 before) = ap (λ (n : ℕ). begun_by n before) last in
      let all : part_left (last_number before) p ≡ length p.section6 + length p.section7 = ap (λ (n : ℕ). part_left n p) last in
      omega (
        arith,
        put,
        begun,
        rest,
        earlier,
        all,
        ap length (octets_same (placed_at q s) before 6 is),
        ap length (octets_other (placed_at q s) before 5 (λ same. absurd (omega (arith, is, same)))),
      )

  -- what ends a field
  ended : section_number s ≡ 7 → last_number before ≡ 6
      → put_in (section_number s) p s + own_at (placed_at q s ∷ before) ≡ length s + begun_by (last_number before) before + part_left (last_number before) p
  ended is last =
      let put : put_in (section_number s) p s ≡ length p.section7 = ap (λ (n : ℕ). put_in n p s) is in
      let earlier : begun_by (last_number before) before ≡ length (octets_in_force 5 before) + length (octets_in_force 6 before) = ap (λ (n : ℕ). begun_by n before) last in
      let all : part_left (last_number before) p ≡ length p.section7 = ap (λ (n : ℕ). part_left n p) last in
      omega (
        arith,
        put,
        earlier,
        all,
        ap length (octets_same (placed_at q s) before 7 is),
        ap length (octets_other (placed_at q s) before 5 (λ same. absurd (omega (arith, is, same)))),
        ap length (octets_other (placed_at q s) before 6 (λ same. absurd (omega (arith, is, same)))),
      )

-- where a section is left, so is a field
some_left : (profile : Profile) (sections : List (List ℕ)) (s : List ℕ) (before : List Placed) (q : ℕ) → AreSections profile before q (s ∷ sections) → 1 ≤ left q (s ∷ sections)
some_left profile [] s before q follow = omega (arith, left_7 q s [] (eqb-true (section_number s) 7 follow.1))
some_left profile (t ∷ sections) s before q follow =
    let more = some_left profile sections t (placed_at q s ∷ before) (q + length s) follow.1 in
    elim (cases_eq (section_number s) 7) [
      | inl ends ↦ omega (arith, left_7 q s (t ∷ sections) ends)
      | inr other ↦ omega (arith, left_other q s (t ∷ sections) other)
    ]

-- ---- all sections

-- how long the sections are with a part for each field that is left
abbrev Counted : List (List ℕ) → List Packed → List Placed → ℕ → Type 0
Counted sections parts before q =
    length (concat (replaced (placed_from q sections) parts)) + own_sum (left q sections) before (placed_from q sections)
    ≡ length (concat sections) + begun_by (last_number before) before + parts_left (last_number before) parts

-- where a section ends its field, the next part comes
abbrev long_with : Packed → List Packed → List ℕ → List Placed → Bool → ℕ
long_with p parts s rest ends = length (concat (in_place_with as_it_is (p ∷ parts) s ∷ replaced rest (cond ends parts (p ∷ parts))))

module _ (p : Packed) (parts : List Packed) (before : List Placed) (q : ℕ) (s : List ℕ) (sections : List (List ℕ)) where
  counted_other : section_number s ≢ 7 → Balanced p before q s → Counted sections (p ∷ parts) (placed_at q s ∷ before) (q + length s) → Counted (s ∷ sections) (p ∷ parts) before q
  counted_other other balanced more =
      let rest = placed_from (q + length s) sections in
      let news = concat (replaced rest (p ∷ parts)) in
      let put : length (concat (replaced (placed_from q (s ∷ sections)) (p ∷ parts))) ≡ put_in (section_number s) p s + length news =
      ap (long_with p parts s rest) (ne_eqb (section_number s) 7 other) ∙ length-append (in_place_with as_it_is (p ∷ parts) s) news in
      let own : own_sum (left q (s ∷ sections)) before (placed_from q (s ∷ sections)) ≡ own_sum (left (q + length s) sections) (placed_at q s ∷ before) rest =
      ap (λ (n : ℕ). own_sum n before (placed_from q (s ∷ sections))) (left_other q s sections other)
      ∙ (λ j. sum_first (λ i. own_at (up_other (placed_at q s) before rest i other j)) (left (q + length s) sections)) in
      omega (arith, put, own, balanced, more, length-append s (concat sections))

  counted_7 : section_number s ≡ 7 → last_number before ≡ 6 → Counted sections parts (placed_at q s ∷ before) (q + length s) → Counted (s ∷ sections) (p ∷ parts) before q
  counted_7 is last more =
      let rest = placed_from (q + length s) sections in
      let news = concat (replaced rest parts) in
      let put : length (concat (replaced (placed_from q (s ∷ sections)) (p ∷ parts))) ≡ put_in (section_number s) p s + length news =
      ap (long_with p parts s rest) (eq-eqb (section_number s) 7 is) ∙ length-append (in_place_with as_it_is (p ∷ parts) s) news in
      let later : sum_first (λ i. own_at (sections_up_to_field (suc (suc i)) before (placed_at q s ∷ rest))) (left (q + length s) sections) ≡ own_sum (left (q + length s) sections) (placed_at q s ∷ before) rest =
      (λ j. sum_first (λ i. own_at (up_more (placed_at q s) before rest i is j)) (left (q + length s) sections)) in
      let first : own_at (sections_up_to_field 1 before (placed_at q s ∷ rest)) ≡ own_at (placed_at q s ∷ before) = ap own_at (up_here (placed_at q s) before rest is) in
      let many : left q (s ∷ sections) ≡ suc (left (q + length s) sections) = omega (arith, left_7 q s sections is) in
      let own : own_sum (left q (s ∷ sections)) before (placed_from q (s ∷ sections)) ≡ own_at (sections_up_to_field 1 before (placed_at q s ∷ rest)) + sum_first (λ i. own_at (sections_up_to_field (suc (suc i)) before (placed_at q s ∷ rest))) (left (q + length s) sections) =
      ap (λ (n : ℕ). own_sum n before (placed_from q (s ∷ sections))) many in
      let begun : begun_by (section_number s) (placed_at q s ∷ before) ≡ 0 = ap (λ (n : ℕ). begun_by n (placed_at q s ∷ before)) is in
      let anew : parts_left (section_number s) parts ≡ sum_by packed_length parts = ap (λ (n : ℕ). parts_left n parts) is ∙ left_end parts in
      omega (arith, put, own, first, later, begun, anew, ended p before q s is last, more, length-append s (concat sections))

counted : (profile : Profile) (sections : List (List ℕ)) (parts : List Packed) (before : List Placed) (q : ℕ) → AreSections profile before q sections → length parts ≡ left q sections
    → Counted sections parts before q
counted profile [] [] before q follow count =
    let last = eqb-true (last_number before) 7 follow in
    let begun : begun_by (last_number before) before ≡ 0 = ap (λ (n : ℕ). begun_by n before) last in
    omega (arith, begun)
counted profile [] (p ∷ parts) before q follow count = absurd (omega (arith, count))
counted profile (s ∷ sections) [] before q follow count = absurd (omega (arith, count, some_left profile sections s before q follow))
counted profile (s ∷ sections) (p ∷ parts) before q follow count =
    let same : section_number s ≢ 7 → Counted sections (p ∷ parts) (placed_at q s ∷ before) (q + length s) =
    λ other. counted profile sections (p ∷ parts) (placed_at q s ∷ before) (q + length s) follow.1 (count ∙ left_other q s sections other) in
    elim (comes (last_number before) (section_number s) (follows_tells (last_number before) (section_number s) follow.0.follows)) [
      | low few begins ↦
          let other : section_number s ≢ 7 = λ is. absurd (omega (arith, few, is)) in
          counted_other p parts before q s sections other (balanced_low p before q s few begins) (same other)
      | five is last ↦
          let other : section_number s ≢ 7 = λ end. absurd (omega (arith, is, end)) in
          counted_other p parts before q s sections other (balanced_5 p before q s is last) (same other)
      | six is last ↦
          let other : section_number s ≢ 7 = λ end. absurd (omega (arith, is, end)) in
          counted_other p parts before q s sections other (balanced_6 p before q s is last) (same other)
      | seven is last ↦
          counted_7 p parts before q s sections is last
          (counted profile sections parts (placed_at q s ∷ before) (q + length s) follow.1 (omega (arith, count, left_7 q s sections is)))
    ]

-- ---- a message

-- parts with no octets
abbrev blanks : ℕ → List Packed
blanks zero = []
blanks (suc n) = record { section5 = []; section6 = []; section7 = [] } ∷ blanks n

many_blanks : (n : ℕ) → length (blanks n) ≡ n
many_blanks zero = refl
many_blanks (suc n) = ap suc (many_blanks n)

no_blanks : (n : ℕ) → sum_by packed_length (blanks n) ≡ 0
no_blanks zero = refl
no_blanks (suc n) = omega (arith, sum_by-cons packed_length (record { section5 = []; section6 = []; section7 = [] }) (blanks n), no_blanks n)

left_start : (parts : List Packed) → parts_left 0 parts ≡ sum_by packed_length parts
left_start [] = refl
left_start (p ∷ parts) = sym (sum_by-cons packed_length p parts)

module _ (profile : Profile) (m : List ℕ) (h : IsMessageUnder profile m) where
  own_is : (n : ℕ) → sum_by (own_length m) (range_with_len 1 n) ≡ own_sum n [] (sections_of m)
  own_is n =
      let step : (i : ℕ) → 1 + i ≡ suc i = λ i. omega arith in
      sum_from (own_length m) 1 n ∙ (λ j. sum_first (λ i. own_length m (step i j)) n)

  -- how long it is with other Sections 5, 6 and 7
  assembled_length : (parts : List Packed) → length parts ≡ field_count m
      → length (assembled m parts) + sum_by (own_length m) (range_with_len 1 (field_count m)) ≡ length m + sum_by packed_length parts
  assembled_length parts one_each =
      let p = message_parted profile m h in
      let many : field_count m ≡ left 17 p.sections = ap (count_by (is_numbered 7)) p.found in
      let all : Counted p.sections parts [] 17 = counted profile p.sections parts [] 17 p.follow (one_each ∙ many) in
      let news : length (concat (replaced (sections_of m) parts)) ≡ length (concat (replaced (placed_from 17 p.sections) parts)) =
      ap (λ (xs : List Placed). length (concat (replaced xs parts))) p.found in
      let own : own_sum (field_count m) [] (sections_of m) ≡ own_sum (left 17 p.sections) [] (placed_from 17 p.sections) =
      ap (λ (n : ℕ). own_sum n [] (sections_of m)) many ∙ ap (own_sum (left 17 p.sections) []) p.found in
      omega (arith, assembled_long as_it_is m parts (omega (arith, message_least profile m h)), own_is (field_count m), news, own, all, left_start parts, p.ends, message_states profile m h)

  -- its own are among its octets
  own_within : sum_by (own_length m) (range_with_len 1 (field_count m)) ≤ length m
  own_within =
      let n = field_count m in
      omega (arith, assembled_length (blanks n) (many_blanks n), no_blanks n)

  -- so are those of one field and of the fields before it
  pub own_before : (n : ℕ) → n < field_count m → sum_by (own_length m) (range_with_len 1 n) + own_length m (n + 1) ≤ length m
  own_before n less = omega (arith, sum_before (own_length m) n (field_count m) less, own_within)

  pub own_short : (i : ℕ) → 1 ≤ i → i ≤ field_count m → own_length m i ≤ 268435456
  own_short i some last =
      let at : i - 1 + 1 ≡ i = omega arith in
      omega (arith, own_before (i - 1) (omega arith), ap (own_length m) at, message_most profile m h)

  -- one more
  pub own_more : (n : ℕ) → sum_by (own_length m) (range_with_len 1 (n + 1)) ≡ sum_by (own_length m) (range_with_len 1 n) + own_length m (n + 1)
  own_more n =
      ap (sum_by (own_length m)) (range-more n) ∙ sum_by_push (own_length m) (range_with_len 1 n) (n + 1)

  -- what stays, and the parts
  pub whole_length : (parts : List Packed) → length parts ≡ field_count m → length (assembled m parts) ≡ kept_length m + sum_by packed_length parts
  whole_length parts one_each = omega (arith, assembled_length parts one_each, own_within)

-- one more field
pub length_more : (target : Target) (m : List ℕ) (n : ℕ) → length_with target m (n + 1) ≡ length_with target m n + packed_length (packed_field target m (n + 1))
length_more target m n =
    let more = sum_by-map-range_with_len_more packed_length (packed_field target m) 1 n (n + 1) (omega arith) in
    omega (arith, more)

pub length_none : (target : Target) (m : List ℕ) → length_with target m 0 ≡ kept_length m
length_none target m = omega arith

-- how long a message is repacked
pub repacked_long : (target : Target) (m : List ℕ) (kept : ℕ) → kept ≡ kept_length m
    → ((parts : List Packed) → length parts ≡ field_count m → length (assembled m parts) ≡ kept + sum_by packed_length parts)
    → length (repacked target m) ≡ length_with target m (field_count m)
repacked_long target m kept is whole =
    omega (arith, is, whole (packed_fields target m) (length-map-range_with_len (packed_field target m) 1 (field_count m)))
