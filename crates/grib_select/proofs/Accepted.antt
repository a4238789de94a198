-- The sections of an accepted message, up to the end of a field.
use Rattle.std.proofs.Common.{◌≡◌, ◌≢◌, ℕ, zero, suc, ◌+◌, ◌-◌, ◌≤◌, Bool, true, false, cond, ◌==◌, ◌⊎◌, Option, Some, None, IsSome, List, [], ◌∷◌, ◌++◌, length, inl, inr, refl, sym, ap, ◌∙◌, arith, subst, zero-add, eq-eqb, eqb-true, ne_eqb, length-append}
use Rattle.std.specs.List.{concat, count_by}
use Rattle.std.specs.Option.{option_map_or}
use Rattle.std.proofs.lemmas.Bool.{cases_eq}
use Rattle.std.proofs.lemmas.List.Sums.{sum_by-cons}
use Rattle.grib_bits.specs.Octets.{StatesItself}
use Rattle.grib_base.specs.declared.profile.Profile.{Profile}
use Rattle.grib2_sections.specs.Frame.{Placed, placed_at, section_number}
use Rattle.grib2_message.specs.View.{is_numbered, last_number, section_in_force, octets_in_force}
use Rattle.grib2_message.specs.Grammar.{IsSection, AreSections}
use Rattle.grib2_message.specs.Fields.{field_count, sections_up_to_field, field_sections}
use Rattle.grib2_message.specs.Message.{IsMessageUnder}
use Rattle.grib2_message.specs.Kept.{AreSound}
use Rattle.grib2_message.proofs.Order.{follows_tells}
use Rattle.grib2_message.proofs.Parted.{message_parted, message_states}
use Rattle.grib2_message.proofs.Placing.{placed_from}
use Rattle.grib2_message.proofs.Sound.{sound_none, sound_after}
use Rattle.grib2_message.proofs.Ways.{up_here, up_more, up_other}

-- ---- sections that were accepted, the newest first

-- each stands where it may after those before it
abbrev pub AreAccepted : Profile → List Placed → Type 0
AreAccepted profile [] = Unit {0}
AreAccepted profile (s ∷ before) = IsSection profile before s.start s.octets × AreAccepted profile before

-- how many octets they have together
abbrev pub octets_of_all : List Placed → ℕ
octets_of_all [] = 0
octets_of_all (s ∷ before) = length s.octets + octets_of_all before

pub sound_of : (profile : Profile) (before : List Placed) → AreAccepted profile before → AreSound profile before
sound_of profile [] h = sound_none profile
sound_of profile (s ∷ before) h =
    sound_after profile s before (sound_of profile before h.1) (follows_tells (last_number before) (section_number s.octets) h.0.follows) h.0.rules_hold

-- ---- up to the end of a field

pub count_7 : (p : Placed) (rest : List Placed) → section_number p.octets ≡ 7 → count_by (is_numbered 7) (p ∷ rest) ≡ 1 + count_by (is_numbered 7) rest
count_7 p rest seven =
    sum_by-cons (λ t. cond (is_numbered 7 t) 1 0) p rest
    ∙ ap (λ (b : Bool). cond b 1 0 + count_by (is_numbered 7) rest) (eq-eqb (section_number p.octets) 7 seven)

pub count_none : (p : Placed) (rest : List Placed) → section_number p.octets ≢ 7 → count_by (is_numbered 7) (p ∷ rest) ≡ count_by (is_numbered 7) rest
count_none p rest other =
    sum_by-cons (λ t. cond (is_numbered 7 t) 1 0) p rest
    ∙ ap (λ (b : Bool). cond b 1 0 + count_by (is_numbered 7) rest) (ne_eqb (section_number p.octets) 7 other)
    ∙ zero-add (count_by (is_numbered 7) rest)

-- what is in force for a field
pub record UpTo (profile : Profile) (xs : List Placed) (room : ℕ) : Type 0 where
  pub accepted : AreAccepted profile xs
  pub ends : last_number xs ≡ 7
  pub short : octets_of_all xs ≤ room

-- the first section ends no field
up_to_past : (profile : Profile) (s : List ℕ) (sections : List (List ℕ)) (i q : ℕ) (before : List Placed) → section_number s ≢ 7
    → UpTo profile (sections_up_to_field (suc i) (placed_at q s ∷ before) (placed_from (q + length s) sections)) (octets_of_all (placed_at q s ∷ before) + length (concat sections))
    → UpTo profile (sections_up_to_field (suc i) before (placed_from q (s ∷ sections))) (octets_of_all before + length (concat (s ∷ sections)))
up_to_past profile s sections i q before other more =
    let long : length (s ++ concat sections) ≡ length s + length (concat sections) = length-append s (concat sections) in
    subst (λ xs. UpTo profile xs (octets_of_all before + length (s ++ concat sections))) (sym (up_other (placed_at q s) before (placed_from (q + length s) sections) i other))
    (record { accepted = more.accepted; ends = more.ends; short = omega (arith, more.short) })

pub up_to_field : (profile : Profile) (sections : List (List ℕ)) (i q : ℕ) (before : List Placed) → AreSections profile before q sections → AreAccepted profile before
    → suc i ≤ count_by (is_numbered 7) (placed_from q sections)
    → UpTo profile (sections_up_to_field (suc i) before (placed_from q sections)) (octets_of_all before + length (concat sections))
up_to_field profile [] i q before follow accepted some = absurd (omega arith)
up_to_field profile (s ∷ sections) zero q before follow accepted some =
    let p = placed_at q s in
    let rest = placed_from (q + length s) sections in
    let long : length (s ++ concat sections) ≡ length s + length (concat sections) = length-append s (concat sections) in
    elim (cases_eq (section_number s) 7) [
      | inl seven ↦
          subst (λ xs. UpTo profile xs (octets_of_all before + length (s ++ concat sections))) (sym (up_here p before rest seven))
          (record { accepted = (follow.0, accepted); ends = seven; short = omega arith })
      | inr other ↦
          up_to_past profile s sections zero q before other
          (up_to_field profile sections zero (q + length s) (p ∷ before) follow.1 (follow.0, accepted) (omega (arith, count_none p rest other)))
    ]
up_to_field profile (s ∷ sections) (suc i) q before follow accepted some =
    let p = placed_at q s in
    let rest = placed_from (q + length s) sections in
    let long : length (s ++ concat sections) ≡ length s + length (concat sections) = length-append s (concat sections) in
    elim (cases_eq (section_number s) 7) [
      | inl seven ↦
          let more = up_to_field profile sections i (q + length s) (p ∷ before) follow.1 (follow.0, accepted) (omega (arith, count_7 p rest seven)) in
          subst (λ xs. UpTo profile xs (octets_of_all before + length (s ++ concat sections))) (sym (up_more p before rest i seven))
          (record { accepted = more.accepted; ends = more.ends; short = omega (arith, more.short) })
      | inr other ↦
          up_to_past profile s sections (suc i) q before other
          (up_to_field profile sections (suc i) (q + length s) (p ∷ before) follow.1 (follow.0, accepted) (omega (arith, count_none p rest other)))
    ]

-- what is in force for field i of an accepted message
pub field_up_to : (profile : Profile) (m : List ℕ) (i : ℕ) → IsMessageUnder profile m → 1 ≤ i → i ≤ field_count m → UpTo profile (field_sections m i) (length m - 20)
field_up_to profile m zero h low high = absurd (omega arith)
field_up_to profile m (suc i) h low high =
    let p = message_parted profile m h in
    let count : suc i ≤ count_by (is_numbered 7) (placed_from 17 p.sections) = subst (λ xs. suc i ≤ count_by (is_numbered 7) xs) p.found high in
    let up = up_to_field profile p.sections i 17 [] p.follow tt count in
    subst (λ xs. UpTo profile (sections_up_to_field (suc i) [] xs) (length m - 20)) (sym p.found)
    (record { accepted = up.accepted; ends = up.ends; short = omega (arith, up.short, p.ends, message_states profile m h) })

-- ---- a section in force

found_first : (b : Bool) (s t : Placed) (rest : Option Placed) → cond b (Some s) rest ≡ Some t
    → ((b ≡ true) × (s ≡ t)) ⊎ ((b ≡ false) × (rest ≡ Some t))
found_first true s t rest e = inl (refl, cc)
found_first false s t rest e = inr (refl, e)

-- it states its length and its number
pub in_force_itself : (profile : Profile) (k : ℕ) (before : List Placed) (s : Placed) → AreAccepted profile before → section_in_force k before ≡ Some s → StatesItself k s.octets
in_force_itself profile k [] s h e = cc
in_force_itself profile k (t ∷ before) s h e =
    elim (found_first (section_number t.octets == k) t s (section_in_force k before) e) [
      | inl here ↦
          let numbered : section_number t.octets ≡ k = eqb-true (section_number t.octets) k here.0 in
          subst (λ (x : Placed). StatesItself k x.octets) here.1
          (record { length_stands = h.0.length_stands; least = h.0.least; number_stands = numbered })
      | inr behind ↦ in_force_itself profile k before s h.1 behind.1
    ]

itself_by : (k : ℕ) (o : Option Placed) → IsSome o → ((s : Placed) → o ≡ Some s → StatesItself k s.octets) → StatesItself k (option_map_or (λ s. s.octets) o [])
itself_by k None some each = absurd (cc)
itself_by k (Some s) some each = each s refl

pub part_itself : (profile : Profile) (k : ℕ) (before : List Placed) → AreAccepted profile before → 1 ≤ k → k ≤ last_number before → k ≢ 2 → StatesItself k (octets_in_force k before)
part_itself profile k before h low high two =
    itself_by k (section_in_force k before) ((sound_of profile before h).present k low high two) (λ s e. in_force_itself profile k before s h e)

-- Section 2 stands so, or is absent
pub local_itself : (profile : Profile) (before : List Placed) → AreAccepted profile before → (octets_in_force 2 before ≡ []) ⊎ StatesItself 2 (octets_in_force 2 before)
local_itself profile before h = go (section_in_force 2 before) (λ s e. in_force_itself profile 2 before s h e) where
  go : (o : Option Placed) → ((s : Placed) → o ≡ Some s → StatesItself 2 s.octets)
      → (option_map_or (λ s. s.octets) o [] ≡ []) ⊎ StatesItself 2 (option_map_or (λ s. s.octets) o [])
  go None each = inl refl
  go (Some s) each = inr (each s refl)
