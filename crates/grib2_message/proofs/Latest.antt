-- Which sections are in force, and where they begin.
use Rattle.std.proofs.Common.{◌≡◌, ◌≢◌, ℕ, ◌+◌, ◌-◌, ◌<◌, ◌≤◌, Bool, true, false, cond, ◌&&◌, ◌⊎◌, Option, Some, None, IsSome, List, [], ◌∷◌, get_or, eqb, inl, inr, refl, sym, ap, ◌∙◌, arith, subst, eq-eqb, ne_eqb, eqb-true, take, drop}
use Rattle.std.specs.Option.{option_map_or}
use Rattle.grib_bits.specs.Octets.{octets, StatesItself}
use Rattle.grib2_sections.specs.Frame.{Placed, placed_at, section_at, section_number}
use Rattle.grib2_sections.proofs.Frames.{states_itself}
use Rattle.grib_base.specs.Rules.{choose}
use Rattle.grib_bitmap.specs.Mask.{bitmap_indicator}
use Rattle.grib_packings.specs.Field.{IsDataOf}
use Rattle.grib_packings.specs.declared.data_representation.DataRepresentation.{DataRepresentation}
use Rattle.grib2_message.specs.View.{last_number, section_in_force, octets_in_force, earlier_bitmap, first_octets, first_start, own_bitmap, own_bitmap_start}
use Rattle.grib2_message.specs.Kept.{StandsAt, ArePlaced, start_in_force, KeepsRepresentation, HasInForce, HasPlaces}
use Rattle.grib2_message.specs.declared.in_force.InForce.{InForce}
use Rattle.grib2_message.specs.declared.places.Places.{Places}

-- a section that stands at its place states its own length and number
pub stands_itself : (m : List ℕ) (start number : ℕ) → StandsAt m start number → StatesItself number (section_at m start)
stands_itself m start number h =
    let l = octets m start (start + 3) in
    let long : l ≡ (start - 1 + l) + 1 - start = omega (arith, h.low) in
    subst (λ (k : ℕ). StatesItself number (take k (drop (start - 1) m))) long
    (states_itself m start l number h.low refl h.numbered h.least h.whole)

-- what is found first, or behind the first
found_first : (b : Bool) (s t : Placed) (rest : Option Placed) → cond b (Some s) rest ≡ Some t
    → ((b ≡ true) × (s ≡ t)) ⊎ ((b ≡ false) × (rest ≡ Some t))
found_first true s t rest e = inl (refl, cc)
found_first false s t rest e = inr (refl, e)

-- a section in force that stands where it is said to
pub record Found (m : List ℕ) (number : ℕ) (t : Placed) : Type 0 where
  pub stands : StandsAt m t.start number
  pub octets_are : t.octets ≡ section_at m t.start
  pub numbered : section_number t.octets ≡ number

pub found : (m : List ℕ) (number : ℕ) (before : List Placed) (t : Placed) → ArePlaced m before → section_in_force number before ≡ Some t → Found m number t
found m number [] t placed e = cc
found m number (s ∷ before) t placed e =
    elim (found_first (eqb (section_number s.octets) number) s t (section_in_force number before) e) [
      | inl here ↦
          let numbered : section_number s.octets ≡ number = eqb-true (section_number s.octets) number here.0 in
          subst (λ (x : Placed). Found m number x) here.1
          (record { stands = subst (λ (n : ℕ). StandsAt m s.start n) numbered placed.0; octets_are = placed.1; numbered = numbered })
      | inr behind ↦ found m number before t placed.2 behind.1
    ]

-- by the octet at which it begins
found_by_start : (m : List ℕ) (number start : ℕ) (o : Option Placed) → ((t : Placed) → o ≡ Some t → Found m number t)
    → start ≡ option_map_or (λ s. s.start) o 0 → 1 ≤ start
    → section_at m start ≡ option_map_or (λ s. s.octets) o []
found_by_start m number start None each is low = absurd (omega arith)
found_by_start m number start (Some t) each is low = ap (section_at m) is ∙ sym (each t refl).octets_are

pub in_force_octets : (m : List ℕ) (before : List Placed) (places : Places) (number : ℕ) → HasPlaces m before places → number < 8
    → 1 ≤ get_or places.starts number 0 → section_at m (get_or places.starts number 0) ≡ octets_in_force number before
in_force_octets m before places number h low some =
    found_by_start m number (get_or places.starts number 0) (section_in_force number before)
    (λ t e. found m number before t h.placed e) (h.starts number low) some

stands_by_start : (m : List ℕ) (number : ℕ) (o : Option Placed) → ((t : Placed) → o ≡ Some t → Found m number t) → IsSome o
    → StandsAt m (option_map_or (λ s. s.start) o 0) number
stands_by_start m number None each some = cc
stands_by_start m number (Some t) each some = (each t refl).stands

-- a section in force stands where its place is kept
pub in_force_stands : (m : List ℕ) (before : List Placed) (places : Places) (number : ℕ) → HasPlaces m before places → number < 8
    → IsSome (section_in_force number before) → StandsAt m (get_or places.starts number 0) number
in_force_stands m before places number h low some =
    subst (λ (start : ℕ). StandsAt m start number) (sym (h.starts number low))
    (stands_by_start m number (section_in_force number before) (λ t e. found m number before t h.placed e) some)

-- where the place is kept, a section is in force
some_by_start : (start : ℕ) (o : Option Placed) → start ≡ option_map_or (λ s. s.start) o 0 → 1 ≤ start → IsSome o
some_by_start start None is low = absurd (omega arith)
some_by_start start (Some t) is low = refl

pub kept_in_force : (m : List ℕ) (before : List Placed) (places : Places) (number : ℕ) → HasPlaces m before places → number < 8
    → 1 ≤ get_or places.starts number 0 → IsSome (section_in_force number before)
kept_in_force m before places number h low some = some_by_start (get_or places.starts number 0) (section_in_force number before) (h.starts number low) some

-- and where none is kept, none is
none_by_start : (m : List ℕ) (number : ℕ) (o : Option Placed) → ((t : Placed) → o ≡ Some t → Found m number t)
    → option_map_or (λ s. s.start) o 0 ≡ 0 → o ≡ None
none_by_start m number None each none = refl
none_by_start m number (Some t) each none = absurd (omega (arith, (each t refl).stands.low))

pub none_in_force : (m : List ℕ) (before : List Placed) (places : Places) (number : ℕ) → HasPlaces m before places → number < 8
    → get_or places.starts number 0 ≡ 0 → section_in_force number before ≡ None
none_in_force m before places number h low none =
    none_by_start m number (section_in_force number before) (λ t e. found m number before t h.placed e) (sym (h.starts number low) ∙ none)

-- ---- what the Section 5 in force says

read_of : (o : Option DataRepresentation) (p : Option Placed) (representation : DataRepresentation) → KeepsRepresentation o p → o ≡ Some representation
    → IsDataOf representation (option_map_or (λ s. s.octets) p [])
read_of None p representation kept is = cc
read_of (Some x) None representation kept is = absurd kept
read_of (Some x) (Some s) representation kept is = (let e : x ≡ representation = cc in subst (λ (y : DataRepresentation). IsDataOf y s.octets) e kept)

pub represents : (before : List Placed) (force : InForce) (representation : DataRepresentation) → HasInForce before force
    → force.representation ≡ Some representation → IsDataOf representation (octets_in_force 5 before)
represents before force representation h is = read_of force.representation (section_in_force 5 before) representation h.representation is

none_read : (o : Option DataRepresentation) (p : Option Placed) → KeepsRepresentation o p → IsSome p → o ≡ None → ⊥
none_read None None kept some is = cc
none_read None (Some s) kept some is = kept
none_read (Some x) p kept some is = cc

pub is_read : (before : List Placed) (force : InForce) → HasInForce before force → 5 ≤ last_number before → force.representation ≡ None → ⊥
is_read before force h within is =
    none_read force.representation (section_in_force 5 before) h.representation (h.sound.present 5 (omega arith) within (λ e. absurd (omega arith))) is

-- ---- the last Section 6 with bits of its own

-- a section that stands where it is said to
abbrev Stands : List ℕ → Placed → Type 0
Stands m s = StandsAt m s.start (section_number s.octets) × (s.octets ≡ section_at m s.start)

first_stands : (m : List ℕ) (b : Bool) (t s : Placed) (before earlier rest : List Placed) → Stands m t → (earlier ≡ s ∷ rest → Stands m s)
    → choose b (λ _. t ∷ before) (λ _. earlier) ≡ s ∷ rest → Stands m s
first_stands m true t s before earlier rest here behind e = (let same : t ≡ s = cc in subst (λ (x : Placed). Stands m x) same here)
first_stands m false t s before earlier rest here behind e = behind e

pub earlier_stands : (m : List ℕ) (before : List Placed) (s : Placed) (rest : List Placed) → ArePlaced m before → earlier_bitmap before ≡ s ∷ rest
    → StandsAt m s.start (section_number s.octets) × (s.octets ≡ section_at m s.start)
earlier_stands m [] s rest placed e = cc
earlier_stands m (t ∷ before) s rest placed e =
    first_stands m (eqb (section_number t.octets) 6 && eqb (bitmap_indicator t.octets) 0) t s before (earlier_bitmap before) rest (placed.0, placed.1)
    (earlier_stands m before s rest placed.2) e

-- ---- after one more section

pub in_force_same : (s : Placed) (before : List Placed) (k : ℕ) → section_number s.octets ≡ k → section_in_force k (s ∷ before) ≡ Some s
in_force_same s before k e = ap (λ (b : Bool). cond b (Some s) (section_in_force k before)) (eq-eqb (section_number s.octets) k e)

pub in_force_other : (s : Placed) (before : List Placed) (k : ℕ) → section_number s.octets ≢ k → section_in_force k (s ∷ before) ≡ section_in_force k before
in_force_other s before k ne = ap (λ (b : Bool). cond b (Some s) (section_in_force k before)) (ne_eqb (section_number s.octets) k ne)

pub octets_same : (s : Placed) (before : List Placed) (k : ℕ) → section_number s.octets ≡ k → octets_in_force k (s ∷ before) ≡ s.octets
octets_same s before k e = ap (λ (o : Option Placed). option_map_or (λ t. t.octets) o []) (in_force_same s before k e)

pub octets_other : (s : Placed) (before : List Placed) (k : ℕ) → section_number s.octets ≢ k → octets_in_force k (s ∷ before) ≡ octets_in_force k before
octets_other s before k ne = ap (λ (o : Option Placed). option_map_or (λ t. t.octets) o []) (in_force_other s before k ne)

-- the Section 6 with the bits in force
pub own_alone : (before : List Placed) → bitmap_indicator (octets_in_force 6 before) ≢ 254 → own_bitmap before ≡ octets_in_force 6 before
own_alone before other =
    let s = octets_in_force 6 before in
    ap (λ (b : Bool). choose b (λ _. first_octets (earlier_bitmap before)) (λ _. s)) (ne_eqb (bitmap_indicator s) 254 other)

pub own_repeated : (before : List Placed) → bitmap_indicator (octets_in_force 6 before) ≡ 254 → own_bitmap before ≡ first_octets (earlier_bitmap before)
own_repeated before repeats =
    let s = octets_in_force 6 before in
    ap (λ (b : Bool). choose b (λ _. first_octets (earlier_bitmap before)) (λ _. s)) (eq-eqb (bitmap_indicator s) 254 repeats)

-- and the octet at which it begins
pub start_alone : (before : List Placed) → bitmap_indicator (octets_in_force 6 before) ≢ 254 → own_bitmap_start before ≡ start_in_force 6 before
start_alone before other =
    ap (λ (b : Bool). choose b (λ _. first_start (earlier_bitmap before)) (λ _. start_in_force 6 before)) (ne_eqb (bitmap_indicator (octets_in_force 6 before)) 254 other)

pub start_repeated : (before : List Placed) → bitmap_indicator (octets_in_force 6 before) ≡ 254 → own_bitmap_start before ≡ first_start (earlier_bitmap before)
start_repeated before repeats =
    ap (λ (b : Bool). choose b (λ _. first_start (earlier_bitmap before)) (λ _. start_in_force 6 before)) (eq-eqb (bitmap_indicator (octets_in_force 6 before)) 254 repeats)

-- the section in force by its start and its octets
placed_by_start : (start : ℕ) (o : Option Placed) → start ≡ option_map_or (λ s. s.start) o 0 → 1 ≤ start
    → o ≡ Some (placed_at start (option_map_or (λ s. s.octets) o []))
placed_by_start start None is low = absurd (omega arith)
placed_by_start start (Some t) is low = ap (λ (x : ℕ). Some (placed_at x t.octets)) (sym is)

pub in_force_placed : (m : List ℕ) (before : List Placed) (places : Places) (number : ℕ) → HasPlaces m before places → number < 8
    → 1 ≤ get_or places.starts number 0
    → section_in_force number before ≡ Some (placed_at (get_or places.starts number 0) (octets_in_force number before))
in_force_placed m before places number h low some = placed_by_start (get_or places.starts number 0) (section_in_force number before) (h.starts number low) some
