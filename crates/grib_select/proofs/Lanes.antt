-- The places of two keys that can be set do not meet: proved for each form of a place, and for the keys by trying all
-- pairs of the list of all keys.
use Rattle.std.proofs.Common.{◌≡◌, ◌≢◌, ℕ, ◌+◌, ◌≤◌, ◌<◌, Bool, true, false, not, cond, ◌&&◌, ◌||◌, ◌==◌, ◌⊎◌, nat_lt, option_map, Option, Some, None, List, [], ◌∷◌, get_or, inl, inr, refl, sym, ap, ◌∙◌, arith, subst, ltb-true, ltb-false, eqb-true, eq-eqb}
use Rattle.std.specs.List.{list_all}
use Rattle.std.specs.Option.{option_map_or}
use Rattle.grib_keys.specs.declared.key.Key.{Key}
use Rattle.grib_keys.specs.declared.key.Key.TheVariants.{Discipline}
use Rattle.grib_keys.specs.declared.table.Layout.{Layout}
use Rattle.grib_keys.specs.declared.table.Octets.{Octets}
use Rattle.grib_keys.specs.declared.table.Place.{Place}
use Rattle.grib_keys.specs.declared.table.Place.TheVariants.{At, Stated, ScanningMode, FirstPoint, Instant, Ensemble, Interval, FirstRange}
use Rattle.grib2_sections.specs.Instant.{is_shifted, begins_as_template_0}
use Rattle.grib_keys.specs.Keys.{row_of, key_place, can_set, keys, span, octets_by, is_of, is_by_angles}
use Rattle.grib_keys.proofs.Every.{both, index, at_index, of_each}
use Rattle.grib_select.proofs.Changes.{not_true}
use Rattle.grib_select.proofs.Places.{shift_by}
use Rattle.grib_select.proofs.Within.{or_parts_true, by_template}

-- ---- the lane of a place: in grids by latitude and longitude or in others; in template 4.8 or in others, and in a
-- template that shifts what template 4.0 has, which has no ensemble and no interval

abbrev interval_lane : Bool → Bool → ℕ → ℕ → Option Octets
interval_lane late eight first last = cond late None (cond eight (Some (span first last)) (Some (span (first + 3) (last + 3))))

abbrev lane : Bool → Bool → Bool → Place → Option Octets
lane angles late eight (At q) = Some q
lane angles late eight (Stated q) = Some q
lane angles late eight ScanningMode = Some (span 55 72)
lane angles late eight (FirstPoint by_angles other) = cond angles (Some (span by_angles (by_angles + 3))) (Some (span other (other + 3)))
lane angles late eight (Instant first last) = cond late (Some (span (first + 2) (last + 2))) (Some (span (first + 0) (last + 0)))
lane angles late eight (Ensemble q) = cond late None (cond eight None (Some q))
lane angles late eight (Interval first last) = interval_lane late eight first last
lane angles late eight (FirstRange first last) = interval_lane late eight first last

-- a place, if there is one, is within a lane
abbrev lies_within : Option Octets → Option Octets → Bool
lies_within lane o = option_map_or (λ p. option_map_or (λ l. not (nat_lt p.first l.first) && not (nat_lt l.last p.last)) lane false) o true

not_below : (n : ℕ) → not (nat_lt n n) ≡ true
not_below n = ap not (go (nat_lt n n) refl) where
  go : (b : Bool) → nat_lt n n ≡ b → b ≡ false
  go true e = absurd (let below : n < n = ltb-true n n e in omega arith)
  go false e = refl

itself : (q : Octets) → lies_within (Some q) (Some q) ≡ true
itself q = λ i. not_below q.first i && not_below q.last i

scanning_lane : (o a b c : Bool) → lies_within (Some (span 55 72)) (cond o None (cond a (Some (span 72 72)) (cond b (Some (span 60 60)) (cond c (Some (span 65 65)) None)))) ≡ true
scanning_lane true a b c = refl
scanning_lane false true b c = refl
scanning_lane false false true c = refl
scanning_lane false false false true = refl
scanning_lane false false false false = refl

point_lane : (q r : Octets) (o a b : Bool) → lies_within (cond a (Some q) (Some r)) (cond o None (cond a (Some q) (cond b (Some r) None))) ≡ true
point_lane q r true a b = refl
point_lane q r false true b = itself q
point_lane q r false false true = itself r
point_lane q r false false false = refl

stated_lane : (q : Octets) (b : Bool) → lies_within (Some q) (cond b None (Some q)) ≡ true
stated_lane q true = refl
stated_lane q false = itself q

instant_lane : (first last : ℕ) (late early : Bool)
    → lies_within (cond late (Some (span (first + 2) (last + 2))) (Some (span (first + 0) (last + 0)))) (option_map (λ (k : ℕ). span (first + k) (last + k)) (shift_by late early)) ≡ true
instant_lane first last true early = itself (span (first + 2) (last + 2))
instant_lane first last false true = itself (span (first + 0) (last + 0))
instant_lane first last false false = refl

-- a template that shifts what template 4.0 has is none of those of ensembles and intervals
shifted_is : (P : ℕ → Type 0) (t : ℕ) → is_shifted t ≡ true → P 40 → P 41 → P 42 → P 43 → P t
shifted_is P t e p q r s = by_template P 40 t _ e p (λ e1. by_template P 41 t _ e1 q (λ e2. by_template P 42 t _ e2 r (λ e3. by_template P 43 t _ e3 s (λ e4. cc))))

ensemble_lane : (q : Octets) (t : ℕ) (late eight : Bool) → is_shifted t ≡ late → (t == 8) ≡ eight
    → lies_within (cond late None (cond eight None (Some q))) (cond (is_of (1 ∷ 11 ∷ []) t) (Some q) None) ≡ true
ensemble_lane q t true eight shifts is = shifted_is (λ (n : ℕ). lies_within None (cond (is_of (1 ∷ 11 ∷ []) n) (Some q) None) ≡ true) t shifts refl refl refl refl
ensemble_lane q t false true shifts is = subst (λ (n : ℕ). lies_within None (cond (is_of (1 ∷ 11 ∷ []) n) (Some q) None) ≡ true) (sym (eqb-true t 8 is)) refl
ensemble_lane q t false false shifts is = go (is_of (1 ∷ 11 ∷ []) t) where
  go : (b : Bool) → lies_within (Some q) (cond b (Some q) None) ≡ true
  go true = itself q
  go false = refl

in_interval : (q r : Octets) (t : ℕ) (late eight : Bool) → is_shifted t ≡ late → (t == 8) ≡ eight
    → lies_within (cond late None (cond eight (Some q) (Some r))) (cond eight (Some q) (cond (t == 11) (Some r) None)) ≡ true
in_interval q r t true eight shifts is =
    subst (λ (b : Bool). lies_within None (cond b (Some q) (cond (t == 11) (Some r) None)) ≡ true) is
    (shifted_is (λ (n : ℕ). lies_within None (cond (n == 8) (Some q) (cond (n == 11) (Some r) None)) ≡ true) t shifts refl refl refl refl)
in_interval q r t false true shifts is = itself q
in_interval q r t false false shifts is = go (t == 11) where
  go : (b : Bool) → lies_within (Some r) (cond b (Some r) None) ≡ true
  go true = itself r
  go false = refl

in_range : (l o : Option Octets) (none : Bool) → lies_within l o ≡ true → lies_within l (cond none None o) ≡ true
in_range l o true e = refl
in_range l o false e = e

abbrev lane_by : Layout → Place → Option Octets
lane_by l place = lane (is_by_angles l.template) (is_shifted l.template) (l.template == 8) place

in_lane : (l : Layout) (place : Place) → lies_within (lane_by l place) (octets_by place l) ≡ true
in_lane l (At q) = itself q
in_lane l (Stated q) = stated_lane q l.is_opaque
in_lane l ScanningMode = scanning_lane l.is_opaque (is_by_angles l.template) (is_of (10 ∷ []) l.template) (is_of (20 ∷ 30 ∷ []) l.template)
in_lane l (FirstPoint by_angles other) =
    point_lane (span by_angles (by_angles + 3)) (span other (other + 3)) l.is_opaque (is_by_angles l.template) (is_of (10 ∷ 20 ∷ 30 ∷ []) l.template)
in_lane l (Instant first last) = instant_lane first last (is_shifted l.template) (begins_as_template_0 l.template)
in_lane l (Ensemble q) = ensemble_lane q l.template (is_shifted l.template) (l.template == 8) refl refl
in_lane l (Interval first last) = in_interval (span first last) (span (first + 3) (last + 3)) l.template (is_shifted l.template) (l.template == 8) refl refl
in_lane l (FirstRange first last) =
    in_range (lane_by l (FirstRange first last)) _ (l.ranges == 0)
    (in_interval (span first last) (span (first + 3) (last + 3)) l.template (is_shifted l.template) (l.template == 8) refl refl)

-- the lane of a key that has a place, and the place within it
record HasLane (lane : Option Octets) (p : Octets) : Type 0 where
  pub l : Octets
  pub is : lane ≡ Some l
  pub low : l.first ≤ p.first
  pub high : p.last ≤ l.last

has_lane : (lane : Option Octets) (p : Octets) → lies_within lane (Some p) ≡ true → HasLane lane p
has_lane None p e = absurd (cc)
has_lane (Some l) p e =
    let parts = both (not (nat_lt p.first l.first)) _ e in
    record {
      l = l;
      is = refl;
      low = ltb-false p.first l.first (not_true (nat_lt p.first l.first) parts.0);
      high = ltb-false l.last p.last (not_true (nat_lt l.last p.last) parts.1);
    }

lane_tells : (l : Layout) (key : Key) (p : Octets) → key_place key l ≡ Some p → HasLane (lane_by l (row_of key).place) p
lane_tells l key p place =
    let place_of = (row_of key).place in
    has_lane (lane_by l place_of) p (sym (ap (lies_within (lane_by l place_of)) place) ∙ in_lane l place_of)

-- ---- lanes that do not meet

abbrev clear : Option Octets → Option Octets → Bool
clear x y = option_map_or (λ l. option_map_or (λ k. nat_lt l.last k.first || nat_lt k.last l.first) y true) x true

abbrev lanes_apart : Bool → Bool → Bool → Key → Key → Bool
lanes_apart a l e key other =
    let mine = row_of key in
    let its = row_of other in
    (index key == index other) || (not (mine.section == its.section) || (not (can_set key) || (not (can_set other) || clear (lane a l e mine.place) (lane a l e its.place))))

abbrev all_apart : Bool → Bool → Bool → Key → Bool
all_apart a l e key = list_all (lanes_apart a l e key) keys

apart_by : (a l e : Bool) → list_all (all_apart a l e) keys ≡ true
apart_by true true true = refl
apart_by true true false = refl
apart_by true false true = refl
apart_by true false false = refl
apart_by false true true = refl
apart_by false true false = refl
apart_by false false true = refl
apart_by false false false = refl

-- two keys stand apart in a section
pub places_apart : (l : Layout) (key other : Key) (p q : Octets) → key ≢ other → can_set key ≡ true → can_set other ≡ true → (row_of key).section ≡ (row_of other).section
    → key_place key l ≡ Some p → key_place other l ≡ Some q → (p.last < q.first) ⊎ (q.last < p.first)
places_apart l key other p q differ set also section here there =
    let a = is_by_angles l.template in
    let late = is_shifted l.template in
    let e = l.template == 8 in
    let mine = lane_tells l key p here in
    let its = lane_tells l other q there in
    let each = of_each (lanes_apart a late e key) (of_each (all_apart a late e) (apart_by a late e) key) other in
    let told : ((index key == index other) || (nat_lt mine.l.last its.l.first || nat_lt its.l.last mine.l.first)) ≡ true =
    sym (λ i. (index key == index other) || (not (eq-eqb (row_of key).section (row_of other).section section i) || (not (set i) || (not (also i) || clear (mine.is i) (its.is i))))) ∙ each in
    elim (or_parts_true (index key == index other) (nat_lt mine.l.last its.l.first || nat_lt its.l.last mine.l.first) told) [
      | inl same ↦
          absurd (differ (sym (at_index key) ∙ ap (λ (n : ℕ). get_or keys n Discipline) (eqb-true (index key) (index other) same) ∙ at_index other))
      | inr apart ↦ elim (or_parts_true (nat_lt mine.l.last its.l.first) (nat_lt its.l.last mine.l.first) apart) [
        | inl first ↦ (let lt : mine.l.last < its.l.first = ltb-true mine.l.last its.l.first first in inl (omega (arith, mine.high, its.low)))
        | inr second ↦ (let lt : its.l.last < mine.l.first = ltb-true its.l.last mine.l.first second in inr (omega (arith, mine.low, its.high)))
      ]
    ]
