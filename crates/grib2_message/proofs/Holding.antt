-- What each field of an accepted message holds: its sections pass their rules, and its mask has a bit for each
-- point.
use Rattle.std.proofs.Common.{◌≡◌, ℕ, zero, suc, ◌+◌, ◌-◌, ◌≤◌, ◌<◌, Bool, true, false, not, cond, ◌&&◌, Option, None, List, [], ◌∷◌, length, take, drop, replicate, ◌==◌, unwrap_or, inl, inr, sym, ap, ◌∙◌, arith, subst, eq-eqb, eqb-true}
use Rattle.std.specs.List.{count_by}
use Rattle.std.proofs.lemmas.Bool.{not-false, cases_eq}
use Rattle.grib_bits.specs.Bits.{digit}
use Rattle.grib_bits.specs.Octets.{num_on, octets}
use Rattle.grib_bits.proofs.OctetBits.{AreOctets}
use Rattle.grib_bits.proofs.OctetNumbers.{AreOctets-drop, AreOctets-octet_list}
use Rattle.grib_base.specs.declared.profile.Profile.{Profile}
use Rattle.grib_base.specs.Rules.{first_fault, choose}
use Rattle.grib_bitmap.specs.Mask.{bitmap_indicator, bitmap_rules, mask_of, own_mask}
use Rattle.grib_packing.specs.Packing.{value_count}
use Rattle.grib2_grids.specs.Grid.{grid_points}
use Rattle.grib2_sections.specs.Frame.{Placed, placed_at, section_at, section_number, ends_at}
use Rattle.grib2_message.specs.View.{is_numbered, last_number, octets_in_force, points_in_force, earlier_mask}
use Rattle.grib2_message.specs.Fields.{sections_from, sections_of, sections_up_to_field, field_sections, field_count, field_mask, part_octets}
use Rattle.grib2_message.specs.Grammar.{AreSections}
use Rattle.grib2_message.specs.Kept.{AreSound}
use Rattle.grib2_message.specs.Message.{IsMessageUnder, FieldPassesUnder}
use Rattle.grib2_message.proofs.Latest.{octets_same, octets_other}
use Rattle.grib2_message.proofs.Masks.{long_alone}
use Rattle.grib2_message.proofs.Order.{follows_tells}
use Rattle.grib2_message.proofs.Parted.{message_parted}
use Rattle.grib2_message.proofs.Passed.{passes_from_none}
use Rattle.grib2_message.proofs.Placing.{placed_from}
use Rattle.grib2_message.proofs.Replaced.{left, left_7, left_other}
use Rattle.grib2_message.proofs.Sound.{sound_after, sound_none}
use Rattle.grib2_message.proofs.Walk.{second_fails}
use Rattle.grib2_message.proofs.Ways.{up_here, up_more, up_other}

-- ---- the sections of a field are sound

-- what is in force at the end of a field
pub record EndsField (profile : Profile) (before : List Placed) : Type 0 where
  pub sound : AreSound profile before
  pub ends : last_number before ≡ 7

ends_field : (profile : Profile) (sections : List (List ℕ)) (before : List Placed) (q i : ℕ) → AreSections profile before q sections → AreSound profile before → i < left q sections
    → EndsField profile (sections_up_to_field (suc i) before (placed_from q sections))
ends_field profile [] before q i follow h within = absurd (omega arith)
ends_field profile (s ∷ sections) before q zero follow h within =
    let p = placed_at q s in
    let sound = sound_after profile p before h (follows_tells (last_number before) (section_number s) follow.0.follows) follow.0.rules_hold in
    let rest = placed_from (q + length s) sections in
    elim (cases_eq (section_number s) 7) [
      | inl seven ↦ subst (λ (xs : List Placed). EndsField profile xs) (sym (up_here p before rest seven)) (record { sound = sound; ends = seven })
      | inr other ↦
          subst (λ (xs : List Placed). EndsField profile xs) (sym (up_other p before rest 0 other))
          (ends_field profile sections (p ∷ before) (q + length s) 0 follow.1 sound (omega (arith, left_other q s sections other)))
    ]
ends_field profile (s ∷ sections) before q (suc i) follow h within =
    let p = placed_at q s in
    let sound = sound_after profile p before h (follows_tells (last_number before) (section_number s) follow.0.follows) follow.0.rules_hold in
    let rest = placed_from (q + length s) sections in
    elim (cases_eq (section_number s) 7) [
      | inl seven ↦
          subst (λ (xs : List Placed). EndsField profile xs) (sym (up_more p before rest i seven))
          (ends_field profile sections (p ∷ before) (q + length s) i follow.1 sound (omega (arith, left_7 q s sections seven)))
      | inr other ↦
          subst (λ (xs : List Placed). EndsField profile xs) (sym (up_other p before rest (suc i) other))
          (ends_field profile sections (p ∷ before) (q + length s) (suc i) follow.1 sound (omega (arith, left_other q s sections other)))
    ]

pub field_ends : (profile : Profile) (m : List ℕ) (i : ℕ) → IsMessageUnder profile m → 1 ≤ i → i ≤ field_count m → EndsField profile (field_sections m i)
field_ends profile m i h low high =
    let p = message_parted profile m h in
    let at : suc (i - 1) ≡ i = omega arith in
    let many : field_count m ≡ left 17 p.sections = ap (count_by (is_numbered 7)) p.found in
    subst (λ (n : ℕ). EndsField profile (sections_up_to_field n [] (sections_of m))) at
    (subst (λ (xs : List Placed). EndsField profile (sections_up_to_field (suc (i - 1)) [] xs)) (sym p.found)
    (ends_field profile p.sections [] 17 (i - 1) p.follow (sound_none profile) (omega arith)))

pub field_passes_alone : (profile : Profile) (m : List ℕ) (i : ℕ) → IsMessageUnder profile m → 1 ≤ i → i ≤ field_count m → FieldPassesUnder profile m i
field_passes_alone profile m i h low high =
    let f = field_ends profile m i h low high in
    record {
      identification = f.sound.identification (omega (arith, f.ends));
      grid = f.sound.grid (omega (arith, f.ends));
      product = f.sound.product (omega (arith, f.ends));
      packing = f.sound.packing (omega (arith, f.ends));
      values = f.sound.values (omega (arith, f.ends));
    }

-- ---- the octets of the sections are below 256

abbrev pub EachOctets : List Placed → Type 0
EachOctets [] = Unit {0}
EachOctets (s ∷ before) = AreOctets s.octets × EachOctets before

each_found : (ends : Bool) (later : Unit {0} → List Placed) → EachOctets (later tt) → EachOctets (choose ends (λ _. []) later)
each_found true later h = tt
each_found false later h = h

each_from : (turns : ℕ) (m : List ℕ) (q : ℕ) → AreOctets m → EachOctets (sections_from turns m q)
each_from zero m q small = tt
each_from (suc turns) m q small =
    let s = section_at m q in
    each_found (ends_at m q) (λ _. placed_at q s ∷ sections_from turns m (q + length s))
    (AreOctets-octet_list m q (q - 1 + octets m q (q + 3)) small, each_from turns m (q + length s) small)

each_choice : (b : Bool) (xs ys : List Placed) → EachOctets xs → EachOctets ys → EachOctets (cond b xs ys)
each_choice true xs ys h k = h
each_choice false xs ys h k = k

each_up_to : (i : ℕ) (before sections : List Placed) → EachOctets before → EachOctets sections → EachOctets (sections_up_to_field i before sections)
each_up_to i before [] h k = h
each_up_to i before (s ∷ sections) h k =
    each_choice (is_numbered 7 s && (i == 1)) (s ∷ before) (sections_up_to_field (i - digit (is_numbered 7 s)) (s ∷ before) sections)
    (k.0, h) (each_up_to (i - digit (is_numbered 7 s)) (s ∷ before) sections (k.0, h) k.1)

small_in_force : (k : ℕ) (before : List Placed) → EachOctets before → AreOctets (octets_in_force k before)
small_in_force k [] h = λ i. omega arith
small_in_force k (s ∷ before) h = elim (cases_eq (section_number s.octets) k) [
  | inl same ↦ subst (λ (xs : List ℕ). AreOctets xs) (sym (octets_same s before k same)) h.0
  | inr other ↦ subst (λ (xs : List ℕ). AreOctets xs) (sym (octets_other s before k other)) (small_in_force k before h.1)
]

pub field_octets : (m : List ℕ) (i k : ℕ) → AreOctets m → AreOctets (part_octets m i k)
field_octets m i k small = small_in_force k (field_sections m i) (each_up_to i [] (sections_of m) tt (each_from (length m) m 17 small))

-- ---- its mask has as many bits as the grid has points

first_small : (xs : List ℕ) → AreOctets xs → num_on 0 (take 1 xs) < 256
first_small [] small = omega arith
first_small (x ∷ xs) small = let low : x < 256 = small 0 in omega arith

indicator_small : (s : List ℕ) → AreOctets s → bitmap_indicator s < 256
indicator_small s small = first_small (drop 5 s) (AreOctets-drop 5 s small)

long_mask : (s : List ℕ) (points values : ℕ) (earlier : Option (List Bool)) → bitmap_indicator s < 256 → first_fault (bitmap_rules s points values earlier) ≡ None
    → length (mask_of s points earlier) ≡ points
long_mask s points values earlier small none = elim (cases_eq (bitmap_indicator s) 254) [
  | inl repeats ↦
      let p = passes_from_none (bitmap_rules s points values earlier) none in
      let is : mask_of s points earlier ≡ unwrap_or earlier [] =
      ap (λ (i : ℕ). cond (i == 255) (replicate points true) (cond (i == 254) (unwrap_or earlier []) (own_mask s points))) repeats in
      ap length is
      ∙ eqb-true _ points (not-false (length (unwrap_or earlier []) == points)
      (second_fails (bitmap_indicator s == 254) (not (length (unwrap_or earlier []) == points)) p.1.1.1.1.0 (eq-eqb _ 254 repeats)))
  | inr other ↦ long_alone s points values earlier small other none
]

pub field_mask_long : (profile : Profile) (m : List ℕ) (i : ℕ) → IsMessageUnder profile m → AreOctets m → 1 ≤ i → i ≤ field_count m → length (field_mask m i) ≡ grid_points (part_octets m i 3)
field_mask_long profile m i h small low high =
    let f = field_ends profile m i h low high in
    let before = field_sections m i in
    ap length (f.sound.mask (omega (arith, f.ends)))
    ∙ long_mask (octets_in_force 6 before) (points_in_force before) (value_count (octets_in_force 5 before)) (earlier_mask before)
    (indicator_small (octets_in_force 6 before) (field_octets m i 6 small)) (f.sound.bitmap (omega (arith, f.ends)))
