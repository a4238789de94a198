-- An accepted message is its sections one after another, and sections that are joined are accepted.
use Rattle.std.proofs.Common.{◌≡◌, ℕ, zero, suc, ◌+◌, ◌-◌, ◌<◌, ◌≤◌, Bool, true, false, ◌==◌, Option, Some, None, List, [], ◌∷◌, ◌++◌, length, take, drop, All, nat_lt, refl, sym, ap, ap₂, ◌∙◌, subst, arith, append_assoc, append-nil, length-append, length-drop, length-take-le, take-append-drop, take-take, take_all, drop-drop, take_at, drop_at, ltb-false, eqb-true, eq-eqb}
use Rattle.std.proofs.lemmas.Bool.{or_parts}
use Rattle.std.proofs.lemmas.List.{take-append-le}
use Rattle.std.proofs.lemmas.List.Elements.{All-drop}
use Rattle.std.specs.Prelude.{unwrap_or, is_some}
use Rattle.grib_bits.specs.Octets.{num_on, octets, octet_list}
use Rattle.grib_base.specs.Rules.{Rule, first_fault}
use Rattle.grib2_sections.specs.Verdict.{Accepted}
use Rattle.grib2_sections.specs.Head.{indicator, end_mark, edition, total_length_1}
use Rattle.grib2_sections.specs.Frame.{ends_at}
use Rattle.grib_bits.proofs.Encoding.{octets-within}
use Rattle.grib_bits.proofs.Counted.{mark_number}
use Rattle.grib_bitmap.specs.Mask.{present_count}
use Rattle.grib1_sections.specs.Frame.{section_length, section_at, after}
use Rattle.grib1_sections.specs.Identification.{identification_rules, flags_bitmap}
use Rattle.grib1_sections.specs.Grid.{grid_rules, grid_points}
use Rattle.grib1_sections.specs.Bitmap.{bitmap_rules, mask_of}
use Rattle.grib1_sections.specs.Data.{data_rules}
use Rattle.grib1_sections.specs.Acceptance.{message_fault, verdict_1, has_bitmap, identification, grid, bitmap, data_section, grid_start, bitmap_start, data_start, end_start, points_of, values_of}
use Rattle.grib1_sections.specs.Grammar.{Sections, IsSection, IsBitmap, joined_sections, Grammar1}
use Rattle.grib1_sections.specs.Message.{IsMessage1, SectionsPass}
use Rattle.grib_base.proofs.Passing.{passes_from_none}
use Rattle.grib_base.specs.declared.limits.TheConstants.{MOST_POINTS}
use Rattle.grib1_sections.proofs.Verdicts.{none_accepted}
use Rattle.grib1_sections.proofs.Places.{grid_start-is, bitmap_start-is, data_start-flagged, data_start-plain, end_start-is, bitmap-flagged, bitmap-plain}
use Rattle.grib1_sections.proofs.Parts.{Whole, Parts, parts_inside, none_from_parts}
use Rattle.grib1_sections.proofs.Stays.{accepted_stays}
use Rattle.grib1_sections.proofs.Fronts.{accepted_parts, accepted_there, accepted_least, front_parts, front_edition, front_states}

-- ---- one section

-- what is left of a message from octet q on
abbrev from : ℕ → List ℕ → List ℕ
from q m = drop (q - 1) m

-- the section at q, of the length that it states
section_is : (m : List ℕ) (q : ℕ) → 1 ≤ q → section_at m q ≡ take (octets m q (q + 2)) (from q m)
section_is m q low =
    let e : (q - 1 + octets m q (q + 2)) + 1 - q ≡ octets m q (q + 2) = omega arith in
    ap (λ k. take k (drop (q - 1) m)) e

three_at : (m : List ℕ) (q : ℕ) → octet_list m q (q + 2) ≡ take 3 (from q m)
three_at m q = let e : (q + 2) + 1 - q ≡ 3 = omega arith in ap (λ k. take k (drop (q - 1) m)) e

-- a section that stands whole states its length, and what is left from its end on comes after it
record Stands (m : List ℕ) (q : ℕ) : Type 0 where
  pub as_long : length (section_at m q) ≡ octets m q (q + 2)
  pub states : section_length (section_at m q) ≡ length (section_at m q)
  pub joined : from q m ≡ section_at m q ++ from (after m q) m

stands : (m : List ℕ) (q : ℕ) → 1 ≤ q → 3 ≤ octets m q (q + 2) → q - 1 + octets m q (q + 2) ≤ length m → Stands m q
stands m q low three there =
    let l = octets m q (q + 2) in
    let is : section_at m q ≡ take l (from q m) = section_is m q low in
    let long : l ≤ length (from q m) = omega (arith, length-drop (q - 1) m, there) in
    let as_long : length (section_at m q) ≡ l = ap length is ∙ length-take-le l (from q m) long in
    let front : section_length (section_at m q) ≡ l =
    ap section_length is ∙ (ap (num_on 0) (take-take 3 l (from q m) three) ∙ ap (num_on 0) (sym (three_at m q))) in
    let rest : drop l (from q m) ≡ from (after m q) m =
    drop-drop l (q - 1) m ∙ ap (λ k. drop k m) (let e : (q - 1) + l ≡ (q + l) - 1 = omega arith in e) in
    record {
      as_long = as_long;
      states = front ∙ sym as_long;
      joined = sym (take-append-drop l (from q m)) ∙ ap₂ (λ xs ys. xs ++ ys) (sym is) rest;
    }

whole_stands : (m : List ℕ) (q least : ℕ) (rules : List ℕ → List Rule) → 1 ≤ q → 3 ≤ least → Whole m q least rules → Stands m q
whole_stands m q least rules low three w = stands m q low (omega (arith, three, w.least_is)) w.there

is_section : (m : List ℕ) (q least : ℕ) (rules : List ℕ → List Rule) → 1 ≤ q → 3 ≤ least → Whole m q least rules → IsSection least rules (section_at m q)
is_section m q least rules low three w =
    let s = whole_stands m q least rules low three w in
    record { length_stands = s.states; long = omega (arith, s.as_long, w.least_is); rules_hold = w.rules_hold }

-- ---- the sections of an accepted message

is_bitmap_by : (m : List ℕ) (b : Bool) → has_bitmap m ≡ b → 1 ≤ bitmap_start m → (has_bitmap m ≡ true → Whole m (bitmap_start m) 6 (bitmap_rules (points_of m)))
    → IsBitmap (points_of m) (bitmap m)
is_bitmap_by m true e low w =
    let Is : Option (List ℕ) → Type 0 = IsBitmap (points_of m) in
    subst Is (sym (bitmap-flagged m e)) (is_section m (bitmap_start m) 6 (bitmap_rules (points_of m)) low (omega arith) (w e))
is_bitmap_by m false e low w =
    let Is : Option (List ℕ) → Type 0 = IsBitmap (points_of m) in
    subst Is (sym (bitmap-plain m e)) tt

flagged_by : (m : List ℕ) (b : Bool) → has_bitmap m ≡ b → is_some (bitmap m) ≡ has_bitmap m
flagged_by m true e = ap is_some (bitmap-flagged m e) ∙ sym e
flagged_by m false e = ap is_some (bitmap-plain m e) ∙ sym e

pub sections_pass : (m : List ℕ) → Parts m → SectionsPass m
sections_pass m p =
    let i = parts_inside (total_length_1 m) m p (omega arith) in
    let low : 1 ≤ bitmap_start m = omega (arith, bitmap_start-is m, i.before.before.second.low) in
    record {
      identification_stands = is_section m 9 28 identification_rules (omega arith) (omega arith) p.first;
      grid_stands = is_section m (grid_start m) 6 grid_rules i.before.before.second.low (omega arith) p.second;
      bitmap_stands = is_bitmap_by m (has_bitmap m) refl low p.third;
      data_stands = is_section m (data_start m) 11 (data_rules (values_of m)) i.fourth.low (omega arith) p.fourth;
    }

pub message_sections_pass : (m : List ℕ) → IsMessage1 m → SectionsPass m
message_sections_pass m h = sections_pass m (accepted_parts m (length m) h.edition_stands h.accepted)

some_from : (n : ℕ) → (n == 0) ≡ false → 1 ≤ n
some_from zero e = cc
some_from (suc n) e = omega arith

-- the number of points passes its rule
pub points_within : (m : List ℕ) → IsMessage1 m → (1 ≤ points_of m) × (points_of m ≤ MOST_POINTS)
points_within m h =
    let s = (message_sections_pass m h).grid_stands in
    let p = passes_from_none (grid_rules (grid m)) s.rules_hold in
    let both = or_parts (points_of m == 0) (nat_lt MOST_POINTS (points_of m)) p.1.1.1.1.1.1.0 in
    (some_from (points_of m) both.0, ltb-false MOST_POINTS (points_of m) both.1)

-- ---- what is accepted is in the grammar

-- so four octets that make it are `7777`
mark_from_number : (left : List ℕ) → length left ≡ 4 → All (λ octet. octet < 256) left → num_on 0 left ≡ 926365495 → left ≡ end_mark
mark_from_number [] long small e = absurd (omega arith)
mark_from_number (a ∷ []) long small e = absurd (omega arith)
mark_from_number (a ∷ b ∷ []) long small e = absurd (omega arith)
mark_from_number (a ∷ b ∷ c ∷ []) long small e = absurd (omega arith)
mark_from_number (a ∷ b ∷ c ∷ d ∷ []) long small e =
    let each = mark_number a b c d (small 0 0 (omega arith)) (small 1 0 (omega arith)) (small 2 0 (omega arith)) (small 3 0 (omega arith)) e in
    let first : a ≡ 55 = each.0 in
    let second : b ≡ 55 = each.1 in
    let third : c ≡ 55 = each.2 in
    let fourth : d ≡ 55 = each.3 in
    rw (first, second, third, fourth)
mark_from_number (a ∷ b ∷ c ∷ d ∷ x ∷ left) long small e = absurd (omega arith)

-- the end of a message
end_stands : (m : List ℕ) → All (λ octet. octet < 256) m → 1 ≤ end_start m → end_start m + 3 ≡ length m → ends_at m (end_start m) ≡ true
    → from (end_start m) m ≡ end_mark
end_stands m small low whole ends =
    let q = end_start m in
    let long : length (from q m) ≡ 4 = length-drop (q - 1) m ∙ (let e : length m - (q - 1) ≡ 4 = omega (arith, low, whole) in e) in
    let four : octet_list m q (q + 3) ≡ from q m =
    take_all ((q + 3) + 1 - q) (from q m) (omega (arith, long)) in
    mark_from_number (from q m) long (All-drop (λ octet. octet < 256) (q - 1) m small)
    (ap (num_on 0) (sym four) ∙ eqb-true (octets m q (q + 3)) 926365495 ends)

next : (m : List ℕ) (q p least : ℕ) (rules : List ℕ → List Rule) → 1 ≤ q → 3 ≤ least → Whole m q least rules → p ≡ after m q → from q m ≡ section_at m q ++ from p m
next m q p least rules low three w place =
    (whole_stands m q least rules low three w).joined ∙ ap (λ k. section_at m q ++ from k m) (sym place)

bitmap_next : (m : List ℕ) (b : Bool) → has_bitmap m ≡ b → 1 ≤ bitmap_start m → (has_bitmap m ≡ true → Whole m (bitmap_start m) 6 (bitmap_rules (points_of m)))
    → from (bitmap_start m) m ≡ unwrap_or (bitmap m) [] ++ from (data_start m) m
bitmap_next m true e low w =
    next m (bitmap_start m) (data_start m) 6 (bitmap_rules (points_of m)) low (omega arith) (w e) (data_start-flagged m e)
    ∙ ap (λ s. unwrap_or s [] ++ from (data_start m) m) (sym (bitmap-flagged m e))
bitmap_next m false e low w =
    ap (λ q. from q m) (sym (data_start-plain m e)) ∙ ap (λ s. unwrap_or s [] ++ from (data_start m) m) (sym (bitmap-plain m e))

regroup : (f a b c d e : List ℕ) → f ++ (a ++ (b ++ (c ++ (d ++ e)))) ≡ (f ++ (a ++ (b ++ (c ++ d)))) ++ e
regroup f a b c d e = simp append_assoc

abbrev found_in : List ℕ → Sections
found_in m = record { identification = identification m; grid = grid m; bitmap = bitmap m; data_section = data_section m }

joined_parts : (m : List ℕ) → All (λ octet. octet < 256) m → total_length_1 m ≡ length m → Parts m
    → m ≡ (take 8 m ++ joined_sections (found_in m)) ++ end_mark
joined_parts m small stated p =
    let i = parts_inside (length m) m p (omega (arith, stated)) in
    let low : 1 ≤ bitmap_start m = omega (arith, bitmap_start-is m, i.before.before.second.low) in
    let first = next m 9 (grid_start m) 28 identification_rules (omega arith) (omega arith) p.first (grid_start-is m) in
    let second = next m (grid_start m) (bitmap_start m) 6 grid_rules i.before.before.second.low (omega arith) p.second (bitmap_start-is m) in
    let third = bitmap_next m (has_bitmap m) refl low p.third in
    let fourth = next m (data_start m) (end_start m) 11 (data_rules (values_of m)) i.fourth.low (omega arith) p.fourth (end_start-is m) in
    let end = end_stands m small i.low (i.whole ∙ stated) p.ends in
    let a = identification m in
    let b = grid m in
    let c = unwrap_or (bitmap m) [] in
    let d = data_section m in
    sym (take-append-drop 8 m)
    ∙ ap (λ xs. take 8 m ++ xs) (first ∙ ap (λ xs. a ++ xs) (second ∙ ap (λ xs. b ++ xs) (third ∙ ap (λ xs. c ++ xs) (fourth ∙ ap (λ xs. d ++ xs) end))))
    ∙ regroup (take 8 m) a b c d end_mark

pub accepted_in_grammar : (rest : List ℕ) (total : ℕ) → All (λ octet. octet < 256) (take total rest) → take 4 rest ≡ indicator → edition rest ≡ 1
    → verdict_1 rest ≡ Accepted total → (sections : Sections) × (total ≤ length rest) × Grammar1 (take total rest) sections
accepted_in_grammar rest total small starts first e =
    let m = take total rest in
    let p = front_parts rest total first e in
    let there = accepted_there rest total first e in
    let long : length m ≡ total = length-take-le total rest there in
    let states : total_length_1 m ≡ length m = front_states rest total first e ∙ sym long in
    let s = sections_pass m p in (
      found_in m,
      there,
      record {
        joined = joined_parts m small states p;
        indicated = take-take 4 total rest (omega (arith, accepted_least rest total first e)) ∙ starts;
        edition_stands = front_edition rest total first e;
        total_stands = states;
        identification_stands = s.identification_stands;
        grid_stands = s.grid_stands;
        flagged = flagged_by m (has_bitmap m) refl;
        bitmap_stands = s.bitmap_stands;
        data_stands = s.data_stands;
      },
    )

-- ---- what is in the grammar is accepted

-- a section that stands behind others
record Found (m : List ℕ) (q : ℕ) (s : List ℕ) : Type 0 where
  pub length_is : octets m q (q + 2) ≡ length s
  pub section_is : section_at m q ≡ s

found : (m before s rest : List ℕ) (q : ℕ) → m ≡ before ++ (s ++ rest) → q ≡ length before + 1 → section_length s ≡ length s → 3 ≤ length s → Found m q s
found m before s rest q joined place states three =
    let behind : from q m ≡ s ++ rest = ap (from q) joined ∙ drop_at before (s ++ rest) (q - 1) (let e : length before ≡ q - 1 = omega (arith, place) in e) in
    let long : octets m q (q + 2) ≡ length s =
    ap (num_on 0) (three_at m q ∙ ap (take 3) behind ∙ take-append-le 3 s rest three) ∙ states in record {
      length_is = long;
      section_is = section_is m q (omega (arith, place)) ∙ (ap₂ (λ k xs. take k xs) long behind ∙ take_at s rest (length s) refl);
    }

found_whole : (m s : List ℕ) (q least : ℕ) (rules : List ℕ → List Rule) → Found m q s → IsSection least rules s → 6 ≤ least → 1 ≤ q
    → q + length s + 3 ≤ length m → total_length_1 m ≡ length m → Whole m q least rules
found_whole m s q least rules f is some low room stated = record {
  begins = omega (arith, is.long, some, room);
  least_is = omega (arith, f.length_is, is.long);
  room = omega (arith, f.length_is, room, stated, low);
  there = omega (arith, f.length_is, room, low);
  rules_hold = ap (λ x. first_fault (rules x)) f.section_is ∙ is.rules_hold;
}

record BitmapFound (m : List ℕ) (c : Option (List ℕ)) : Type 0 where
  pub found_is : bitmap m ≡ c
  pub place : data_start m ≡ bitmap_start m + length (unwrap_or c [])
  pub whole : has_bitmap m ≡ true → Whole m (bitmap_start m) 6 (bitmap_rules (points_of m))

bitmap_found : (m before rest : List ℕ) (c : Option (List ℕ)) → is_some c ≡ has_bitmap m → m ≡ before ++ (unwrap_or c [] ++ rest)
    → bitmap_start m ≡ length before + 1 → IsBitmap (points_of m) c → bitmap_start m + length (unwrap_or c []) + 3 ≤ length m → total_length_1 m ≡ length m
    → BitmapFound m c
bitmap_found m before rest None flagged joined place is room stated =
    let off : has_bitmap m ≡ false = sym flagged in record {
      found_is = bitmap-plain m off;
      place = omega (arith, data_start-plain m off);
      whole = λ on. let no : false ≡ true = sym off ∙ on in cc;
    }
bitmap_found m before rest (Some s) flagged joined place is room stated =
    let on : has_bitmap m ≡ true = sym flagged in
    let f = found m before s rest (bitmap_start m) joined place is.length_stands (omega (arith, is.long)) in record {
      found_is = bitmap-flagged m on ∙ ap Some f.section_is;
      place = omega (arith, data_start-flagged m on, f.length_is);
      whole = λ _. found_whole m s (bitmap_start m) 6 (bitmap_rules (points_of m)) f is (omega arith) (omega (arith, place)) room stated;
    }

-- a message in the grammar
pub record Rejoined (m : List ℕ) (sections : Sections) : Type 0 where
  pub parts : Parts m
  pub identification_is : identification m ≡ sections.identification
  pub grid_is : grid m ≡ sections.grid
  pub bitmap_is : bitmap m ≡ sections.bitmap
  pub data_is : data_section m ≡ sections.data_section

ungroup : (f a b c d e : List ℕ) → (f ++ (a ++ (b ++ (c ++ d)))) ++ e ≡ f ++ (a ++ (b ++ (c ++ (d ++ e))))
ungroup f a b c d e = sym (regroup f a b c d e)

left_of : (f a rest : List ℕ) → f ++ (a ++ rest) ≡ (f ++ a) ++ rest
left_of f a rest = sym (append_assoc f a rest)

pub rejoined : (m : List ℕ) (sections : Sections) → Grammar1 m sections → Rejoined m sections
rejoined m sections g =
    let f = take 8 m in
    let a = sections.identification in
    let b = sections.grid in
    let c = unwrap_or sections.bitmap [] in
    let d = sections.data_section in
    let at_1 : m ≡ f ++ (a ++ (b ++ (c ++ (d ++ end_mark)))) = g.joined ∙ ungroup f a b c d end_mark in
    let at_2 : m ≡ (f ++ a) ++ (b ++ (c ++ (d ++ end_mark))) = at_1 ∙ left_of f a _ in
    let at_3 : m ≡ ((f ++ a) ++ b) ++ (c ++ (d ++ end_mark)) = at_2 ∙ left_of (f ++ a) b _ in
    let at_4 : m ≡ (((f ++ a) ++ b) ++ c) ++ (d ++ end_mark) = at_3 ∙ left_of ((f ++ a) ++ b) c _ in
    let at_5 : m ≡ ((((f ++ a) ++ b) ++ c) ++ d) ++ end_mark = at_4 ∙ left_of (((f ++ a) ++ b) ++ c) d _ in
    let size_2 : length (f ++ a) ≡ length f + length a = length-append f a in
    let size_3 : length ((f ++ a) ++ b) ≡ length f + length a + length b = omega (arith, length-append (f ++ a) b, size_2) in
    let size_4 : length (((f ++ a) ++ b) ++ c) ≡ length f + length a + length b + length c = omega (arith, length-append ((f ++ a) ++ b) c, size_3) in
    let size_5 : length ((((f ++ a) ++ b) ++ c) ++ d) ≡ length f + length a + length b + length c + length d =
    omega (arith, length-append (((f ++ a) ++ b) ++ c) d, size_4) in
    let size : length m ≡ length f + length a + length b + length c + length d + 4 =
    ap length at_5 ∙ (length-append ((((f ++ a) ++ b) ++ c) ++ d) end_mark
    ∙ (let e : length ((((f ++ a) ++ b) ++ c) ++ d) + 4 ≡ length f + length a + length b + length c + length d + 4 = omega (arith, size_5) in e)) in
    let long_a : 28 ≤ length a = g.identification_stands.long in
    let long_b : 6 ≤ length b = g.grid_stands.long in
    let long_d : 11 ≤ length d = g.data_stands.long in
    let eight : length f ≡ 8 = length-take-le 8 m (omega (arith, size, long_a)) in
    let stated : total_length_1 m ≡ length m = g.total_stands in
    let first = found m f a (b ++ (c ++ (d ++ end_mark))) 9 at_1 (omega (arith, eight)) g.identification_stands.length_stands (omega (arith, long_a)) in
    let start_2 : grid_start m ≡ 9 + length a = omega (arith, grid_start-is m, first.length_is) in
    let second = found m (f ++ a) b (c ++ (d ++ end_mark)) (grid_start m) at_2 (omega (arith, start_2, size_2, eight)) g.grid_stands.length_stands (omega (arith, long_b)) in
    let start_3 : bitmap_start m ≡ 9 + length a + length b = omega (arith, bitmap_start-is m, start_2, second.length_is) in
    let points : points_of m ≡ grid_points b = ap grid_points second.section_is in
    let flagged : is_some sections.bitmap ≡ has_bitmap m = g.flagged ∙ ap flags_bitmap (sym first.section_is) in
    let Has : ℕ → Type 0 = λ k. IsBitmap k sections.bitmap in
    let third = bitmap_found m ((f ++ a) ++ b) (d ++ end_mark) sections.bitmap flagged at_3 (omega (arith, start_3, size_3, eight))
    (subst Has (sym points) g.bitmap_stands) (omega (arith, start_3, size, eight, long_d)) stated in
    let start_4 : data_start m ≡ 9 + length a + length b + length c = omega (arith, third.place, start_3) in
    let fourth = found m (((f ++ a) ++ b) ++ c) d end_mark (data_start m) at_4 (omega (arith, start_4, size_4, eight)) g.data_stands.length_stands (omega (arith, long_d)) in
    let start_5 : end_start m ≡ 9 + length a + length b + length c + length d = omega (arith, end_start-is m, start_4, fourth.length_is) in
    let values : values_of m ≡ present_count (mask_of sections.bitmap (grid_points b)) =
    ap₂ (λ s k. present_count (mask_of s k)) third.found_is points in
    let Rows : ℕ → Type 0 = λ k. IsSection 11 (data_rules k) d in
    let data_is : IsSection 11 (data_rules (values_of m)) d = subst Rows (sym values) g.data_stands in
    let mark : octets m (end_start m) (end_start m + 3) ≡ 926365495 =
    ap (λ xs. octets xs (end_start m) (end_start m + 3)) (at_5 ∙ ap (λ xs. ((((f ++ a) ++ b) ++ c) ++ d) ++ xs) (sym (append-nil end_mark)))
    ∙ octets-within ((((f ++ a) ++ b) ++ c) ++ d) end_mark [] (end_start m) (end_start m + 3) (omega (arith, start_5, size_5, eight)) (omega (arith, start_5, size_5, eight)) in
    record {
      parts = record {
        long = omega (arith, size, long_a);
        least = omega (arith, stated, size, long_a);
        first = found_whole m a 9 28 identification_rules first g.identification_stands (omega arith) (omega arith) (omega (arith, size, eight, long_d)) stated;
        second = found_whole m b (grid_start m) 6 grid_rules second g.grid_stands (omega arith) (omega (arith, start_2)) (omega (arith, start_2, size, eight, long_d)) stated;
        third = third.whole;
        fourth = found_whole m d (data_start m) 11 (data_rules (values_of m)) fourth data_is (omega arith) (omega (arith, start_4)) (omega (arith, start_4, size, eight)) stated;
        there = omega (arith, start_5, size, eight);
        ends = eq-eqb (octets m (end_start m) (end_start m + 3)) 926365495 mark;
        last = omega (arith, stated, start_5, size, eight);
      };
      identification_is = first.section_is;
      grid_is = second.section_is;
      bitmap_is = third.found_is;
      data_is = fourth.section_is;
    }

pub grammar_accepted : (message behind : List ℕ) (sections : Sections) → Grammar1 message sections
    → verdict_1 (message ++ behind) ≡ Accepted (length message)
grammar_accepted message behind sections g =
    accepted_stays message behind (length message) g.edition_stands
    (none_accepted (message_fault message) (total_length_1 message) (none_from_parts message g.edition_stands (rejoined message sections g).parts)
    ∙ ap Accepted g.total_stands)
