-- Where the octets of a key stand: proved for each form of a place under a test of its numbers, and for the keys by
-- trying the test on the list of all keys.
use Rattle.std.proofs.Common.{◌≡◌, ◌≢◌, ℕ, ◌+◌, ◌-◌, ◌≤◌, ◌<◌, Bool, true, false, not, cond, ◌&&◌, ◌||◌, ◌==◌, ◌⊎◌, nat_lt, option_map, Option, Some, None, List, [], ◌∷◌, length, inl, inr, refl, sym, ap, ◌∙◌, arith, ltb-true, eqb-true}
use Rattle.std.specs.List.{list_all}
use Rattle.grib_keys.specs.declared.key.Key.{Key}
use Rattle.grib_keys.specs.declared.table.Layout.{Layout}
use Rattle.grib_keys.specs.declared.table.Octets.{Octets}
use Rattle.grib_keys.specs.declared.table.Place.{Place}
use Rattle.grib_keys.specs.declared.table.Place.TheVariants.{At, Stated, ScanningMode, FirstPoint, Instant, Ensemble, Interval, FirstRange}
use Rattle.grib2_sections.specs.Instant.{instant_shift, is_shifted, begins_as_template_0}
use Rattle.grib_keys.specs.Keys.{row_of, key_place, can_set, keys, span, octets_by, is_of, is_by_angles}
use Rattle.grib_keys.proofs.Every.{both, of_each}
use Rattle.grib_select.specs.Values.{count_octet, octet_count, IsWithin}
use Rattle.grib_select.specs.Changed.{key_octets}

-- ---- the octets that a place names, by its form

-- those of an interval, in template 4.8 and in template 4.11
abbrev InInterval : Layout → ℕ → ℕ → Octets → Type 0
InInterval l first last p =
    (((l.template == 8) ≡ true) × (p ≡ span first last)) ⊎ (((l.template == 8) ≡ false) × ((l.template == 11) ≡ true) × (p ≡ span (first + 3) (last + 3)))

abbrev Stands : Layout → Place → Octets → Type 0
Stands l (At q) p = p ≡ q
Stands l (Stated q) p = (l.is_opaque ≡ false) × (p ≡ q)
Stands l ScanningMode p =
    (l.is_opaque ≡ false) × (((is_by_angles l.template ≡ true) × (p ≡ span 72 72)) ⊎ ((p ≡ span 60 60) ⊎ (p ≡ span 65 65)))
Stands l (FirstPoint by_angles other) p =
    (l.is_opaque ≡ false) × (((is_by_angles l.template ≡ true) × (p ≡ span by_angles (by_angles + 3))) ⊎ (p ≡ span other (other + 3)))
Stands l (Instant first last) p =
    ((instant_shift l.template ≡ Some 2) × (p ≡ span (first + 2) (last + 2))) ⊎ ((instant_shift l.template ≡ Some 0) × (p ≡ span (first + 0) (last + 0)))
Stands l (Ensemble q) p = (is_of (1 ∷ 11 ∷ []) l.template ≡ true) × (p ≡ q)
Stands l (Interval first last) p = InInterval l first last p
Stands l (FirstRange first last) p = ((l.ranges == 0) ≡ false) × InInterval l first last p

this : (p q : Octets) → Some q ≡ Some p → p ≡ q
this p q e = cc

stated_by : (b : Bool) (o : Option Octets) (p : Octets) → cond b None o ≡ Some p → (b ≡ false) × (o ≡ Some p)
stated_by true o p e = absurd (cc)
stated_by false o p e = (refl, e)

scanning_by : (a b c : Bool) (p : Octets) → cond a (Some (span 72 72)) (cond b (Some (span 60 60)) (cond c (Some (span 65 65)) None)) ≡ Some p
    → ((a ≡ true) × (p ≡ span 72 72)) ⊎ ((p ≡ span 60 60) ⊎ (p ≡ span 65 65))
scanning_by true b c p e = inl (refl, this p (span 72 72) e)
scanning_by false true c p e = inr (inl (this p (span 60 60) e))
scanning_by false false true p e = inr (inr (this p (span 65 65) e))
scanning_by false false false p e = absurd (cc)

point_by : (a b : Bool) (q r p : Octets) → cond a (Some q) (cond b (Some r) None) ≡ Some p → ((a ≡ true) × (p ≡ q)) ⊎ (p ≡ r)
point_by true b q r p e = inl (refl, this p q e)
point_by false true q r p e = inr (this p r e)
point_by false false q r p e = absurd (cc)

-- by how many octets what template 4.0 has is shifted
abbrev pub shift_by : Bool → Bool → Option ℕ
shift_by late early = cond late (Some 2) (cond early (Some 0) None)

instant_by : (late early : Bool) (first last : ℕ) (p : Octets) → option_map (λ (k : ℕ). span (first + k) (last + k)) (shift_by late early) ≡ Some p
    → ((shift_by late early ≡ Some 2) × (p ≡ span (first + 2) (last + 2))) ⊎ ((shift_by late early ≡ Some 0) × (p ≡ span (first + 0) (last + 0)))
instant_by true early first last p e = inl (refl, this p (span (first + 2) (last + 2)) e)
instant_by false true first last p e = inr (refl, this p (span (first + 0) (last + 0)) e)
instant_by false false first last p e = absurd (cc)

ensemble_by : (b : Bool) (q p : Octets) → cond b (Some q) None ≡ Some p → (b ≡ true) × (p ≡ q)
ensemble_by true q p e = (refl, this p q e)
ensemble_by false q p e = absurd (cc)

interval_by : (e f : Bool) (q r p : Octets) → cond e (Some q) (cond f (Some r) None) ≡ Some p → ((e ≡ true) × (p ≡ q)) ⊎ ((e ≡ false) × (f ≡ true) × (p ≡ r))
interval_by true f q r p e = inl (refl, this p q e)
interval_by false true q r p e = inr (refl, refl, this p r e)
interval_by false false q r p e = absurd (cc)

stands : (l : Layout) (place : Place) (p : Octets) → octets_by place l ≡ Some p → Stands l place p
stands l (At q) p e = this p q e
stands l (Stated q) p e = let o = stated_by l.is_opaque (Some q) p e in (o.0, this p q o.1)
stands l ScanningMode p e =
    let o = stated_by l.is_opaque _ p e in
    (o.0, scanning_by (is_by_angles l.template) (is_of (10 ∷ []) l.template) (is_of (20 ∷ 30 ∷ []) l.template) p o.1)
stands l (FirstPoint by_angles other) p e =
    let o = stated_by l.is_opaque _ p e in
    (o.0, point_by (is_by_angles l.template) (is_of (10 ∷ 20 ∷ 30 ∷ []) l.template) (span by_angles (by_angles + 3)) (span other (other + 3)) p o.1)
stands l (Instant first last) p e = instant_by (is_shifted l.template) (begins_as_template_0 l.template) first last p e
stands l (Ensemble q) p e = ensemble_by (is_of (1 ∷ 11 ∷ []) l.template) q p e
stands l (Interval first last) p e = interval_by (l.template == 8) (l.template == 11) (span first last) (span (first + 3) (last + 3)) p e
stands l (FirstRange first last) p e =
    let o = stated_by (l.ranges == 0) _ p e in
    (o.0, interval_by (l.template == 8) (l.template == 11) (span first last) (span (first + 3) (last + 3)) p o.1)

-- all of them
abbrev all_octets : Place → List Octets
all_octets (At q) = q ∷ []
all_octets (Stated q) = q ∷ []
all_octets ScanningMode = span 72 72 ∷ span 60 60 ∷ span 65 65 ∷ []
all_octets (FirstPoint by_angles other) = span by_angles (by_angles + 3) ∷ span other (other + 3) ∷ []
all_octets (Instant first last) = span (first + 2) (last + 2) ∷ span (first + 0) (last + 0) ∷ []
all_octets (Ensemble q) = q ∷ []
all_octets (Interval first last) = span first last ∷ span (first + 3) (last + 3) ∷ []
all_octets (FirstRange first last) = span first last ∷ span (first + 3) (last + 3) ∷ []

-- what a test says of all of them it says of each
module _ (f : Octets → Bool) (l : Layout) where
  first_of : (q : Octets) (rest : Bool) (p : Octets) → (f q && rest) ≡ true → p ≡ q → f p ≡ true
  first_of q rest p e is = ap f is ∙ (both (f q) rest e).0

  second_of : (q r : Octets) (rest : Bool) (p : Octets) → (f q && (f r && rest)) ≡ true → p ≡ r → f p ≡ true
  second_of q r rest p e is = first_of r rest p (both (f q) (f r && rest) e).1 is

  in_interval : (first last : ℕ) (p : Octets) → list_all f (span first last ∷ span (first + 3) (last + 3) ∷ []) ≡ true → InInterval l first last p → f p ≡ true
  in_interval first last p e at = elim at [
    | inl here ↦ first_of (span first last) _ p e here.1
    | inr there ↦ second_of (span first last) (span (first + 3) (last + 3)) true p e there.2
  ]

  pub each_octets : (place : Place) (p : Octets) → list_all f (all_octets place) ≡ true → Stands l place p → f p ≡ true
  each_octets (At q) p e at = first_of q true p e at
  each_octets (Stated q) p e at = first_of q true p e at.1
  each_octets ScanningMode p e at = elim at.1 [
    | inl here ↦ first_of (span 72 72) _ p e here.1
    | inr other ↦ elim other [
      | inl there ↦ second_of (span 72 72) (span 60 60) _ p e there
      | inr there ↦ second_of (span 60 60) (span 65 65) true p (both (f (span 72 72)) _ e).1 there
    ]
  ]
  each_octets (FirstPoint by_angles other) p e at = elim at.1 [
    | inl here ↦ first_of (span by_angles (by_angles + 3)) _ p e here.1
    | inr there ↦ second_of (span by_angles (by_angles + 3)) (span other (other + 3)) true p e there
  ]
  each_octets (Instant first last) p e at = elim at [
    | inl late ↦ first_of (span (first + 2) (last + 2)) _ p e late.1
    | inr early ↦ second_of (span (first + 2) (last + 2)) (span (first + 0) (last + 0)) true p e early.1
  ]
  each_octets (Ensemble q) p e at = first_of q true p e at.1
  each_octets (Interval first last) p e at = in_interval first last p e at
  each_octets (FirstRange first last) p e at = in_interval first last p e at.1

-- ---- they stand free, where nothing else is read

-- whether a place is within the octets first to last
abbrev pub lies_in : ℕ → ℕ → Octets → Bool
lies_in first last p = not (nat_lt p.first first) && not (nat_lt last p.last)

abbrev pub lies_free : ℕ → Octets → Bool
lies_free number p =
    cond (number == 0) (lies_in 7 7 p)
    (cond (number == 1) (lies_in 6 21 p)
    (cond (number == 3) (lies_in 15 30 p || lies_in 39 72 p)
    (cond (number == 4) (lies_in 10 56 p) false)))

-- A key has as many octets in each layout that has it, 1 to 4; one that can be set stands free.
abbrev sound : Key → Octets → Bool
sound key p =
    nat_lt 0 p.first
    && (nat_lt p.first (p.last + 1) && (nat_lt p.last (p.first + 4) && ((octet_count p == key_octets key) && (not (can_set key) || lies_free (row_of key).section p))))

-- ---- none is the octet with the number of time ranges, which only Section 4 has

abbrev pub clear_of : ℕ → ℕ → Octets → Bool
clear_of count number p = not (number == 4) || (nat_lt p.last count || nat_lt count p.first)

-- whatever the template
abbrev clear_of_each : ℕ → Octets → Bool
clear_of_each number p = clear_of 42 number p && (clear_of 45 number p && clear_of 0 number p)

-- in template 4.8, and three octets later in template 4.11
abbrev clear_interval : ℕ → ℕ → ℕ → Bool
clear_interval number first last = clear_of 42 number (span first last) && clear_of 45 number (span (first + 3) (last + 3))

abbrev clear : ℕ → Place → Bool
clear number (Interval first last) = clear_interval number first last
clear number (FirstRange first last) = clear_interval number first last
clear number place = list_all (clear_of_each number) (all_octets place)

module _ (number : ℕ) (l : Layout) where
  of_each_count : (p : Octets) → clear_of_each number p ≡ true → (e f : Bool) → clear_of (cond e 42 (cond f 45 0)) number p ≡ true
  of_each_count p h true f = (both (clear_of 42 number p) _ h).0
  of_each_count p h false true = (both (clear_of 45 number p) _ (both (clear_of 42 number p) _ h).1).0
  of_each_count p h false false = (both (clear_of 45 number p) _ (both (clear_of 42 number p) _ h).1).1

  interval_clear : (first last : ℕ) (p : Octets) → clear_interval number first last ≡ true → InInterval l first last p → clear_of (count_octet l.template) number p ≡ true
  interval_clear first last p h at = elim at [
    | inl here ↦ (λ i. clear_of (cond (here.0 i) 42 (cond (l.template == 11) 45 0)) number (here.1 i)) ∙ (both (clear_of 42 number (span first last)) _ h).0
    | inr there ↦
        (λ i. clear_of (cond (there.0 i) 42 (cond (there.1 i) 45 0)) number (there.2 i))
        ∙ (both (clear_of 42 number (span first last)) (clear_of 45 number (span (first + 3) (last + 3))) h).1
  ]

  stands_clear : (place : Place) (p : Octets) → clear number place ≡ true → Stands l place p → clear_of (count_octet l.template) number p ≡ true
  stands_clear (Interval first last) p h at = interval_clear first last p h at
  stands_clear (FirstRange first last) p h at = interval_clear first last p h at.1
  stands_clear place p h at = of_each_count p (each_octets (clear_of_each number) l place p h at) (l.template == 8) (l.template == 11)

-- ---- they end within the section

-- the octets before the template of a section, and those that each stated template has at least
abbrev pub header : ℕ → ℕ
header number = cond (number == 0) 16 (cond (number == 1) 21 (cond (number == 3) 14 11))

abbrev pub stated_header : ℕ → ℕ
stated_header number = cond (number == 0) 16 (cond (number == 1) 21 (cond (number == 3) 65 (cond (number == 4) 34 21)))

abbrev ends : ℕ → Octets → Bool
ends most p = nat_lt p.last (most + 1)

abbrev fits : ℕ → Place → Bool
fits number (At q) = ends (header number) q
fits number (Stated q) = ends (stated_header number) q
fits number ScanningMode = number == 3
fits number (FirstPoint by_angles other) = (number == 3) && (ends 72 (span by_angles (by_angles + 3)) && ends 65 (span other (other + 3)))
fits number (Instant first last) = (number == 4) && ends 34 (span first last)
fits number (Ensemble q) = (number == 4) && ends 37 q
fits number (Interval first last) = (number == 4) && ends 46 (span first last)
fits number (FirstRange first last) = (number == 4) && ends 58 (span first last)

-- the octets of the first time range, where there is one
abbrev pub range_octets : Bool → ℕ
range_octets none = cond none 0 12

-- a Section 4 of this layout has at least so many octets as its template says
pub record IsLongProduct (l : Layout) (least : ℕ) : Type 0 where
  pub instant : (k : ℕ) → instant_shift l.template ≡ Some k → 34 + k ≤ least
  pub ensemble : is_of (1 ∷ 11 ∷ []) l.template ≡ true → 37 ≤ least
  pub eight : (l.template == 8) ≡ true → 46 + range_octets (l.ranges == 0) ≤ least
  pub eleven : (l.template == 11) ≡ true → 49 + range_octets (l.ranges == 0) ≤ least

-- a section with this number and layout has
pub record IsLong (number : ℕ) (l : Layout) (least : ℕ) : Type 0 where
  pub header : header number ≤ least
  pub stated : l.is_opaque ≡ false → stated_header number ≤ least
  pub angles : number ≡ 3 → l.is_opaque ≡ false → is_by_angles l.template ≡ true → 72 ≤ least
  pub product : number ≡ 4 → IsLongProduct l least

module _ (number : ℕ) (l : Layout) (least : ℕ) (long : IsLong number l least) where
  ended : (most : ℕ) (p q : Octets) → ends most q ≡ true → most ≤ least → p ≡ q → p.last ≤ least
  ended most p q e more is =
      let last : p.last ≡ q.last = ap (λ (o : Octets). o.last) is in
      let low : q.last < most + 1 = ltb-true q.last (most + 1) e in
      omega arith

  -- those of an interval with so many octets after the first time range
  interval_ends : (first last most : ℕ) (p : Octets) → last ≤ most → (l.template == 8 ≡ true → most ≤ least) → (l.template == 11 ≡ true → most + 3 ≤ least) → InInterval l first last p
      → p.last ≤ least
  interval_ends first last most p low in_8 in_11 at = elim at [
    | inl here ↦ (let last_is : p.last ≡ last = ap (λ (o : Octets). o.last) here.1 in let more = in_8 here.0 in omega arith)
    | inr there ↦ (let last_is : p.last ≡ last + 3 = ap (λ (o : Octets). o.last) there.2 in let more = in_11 there.1 in omega arith)
  ]

  grid_stated : number ≡ 3 → l.is_opaque ≡ false → 65 ≤ least
  grid_stated three stated = omega (arith, long.stated stated, ap stated_header three)

  stands_within : (place : Place) (p : Octets) → fits number place ≡ true → Stands l place p → p.last ≤ least
  stands_within (At q) p e at = ended (header number) p q e long.header at
  stands_within (Stated q) p e at = ended (stated_header number) p q e (long.stated at.0) at.1
  stands_within ScanningMode p e at =
      let three = eqb-true number 3 e in
      elim at.1 [
        | inl here ↦ ended 72 p (span 72 72) refl (long.angles three at.0 here.0) here.1
        | inr other ↦ elim other [
          | inl there ↦ ended 65 p (span 60 60) refl (grid_stated three at.0) there
          | inr there ↦ ended 65 p (span 65 65) refl (grid_stated three at.0) there
        ]
      ]
  stands_within (FirstPoint by_angles other) p e at =
      let parts = both (number == 3) _ e in
      let three = eqb-true number 3 parts.0 in
      let end = both (ends 72 (span by_angles (by_angles + 3))) (ends 65 (span other (other + 3))) parts.1 in
      elim at.1 [
        | inl here ↦ ended 72 p (span by_angles (by_angles + 3)) end.0 (long.angles three at.0 here.0) here.1
        | inr there ↦ ended 65 p (span other (other + 3)) end.1 (grid_stated three at.0) there
      ]
  stands_within (Instant first last) p e at =
      let parts = both (number == 4) _ e in
      let product = long.product (eqb-true number 4 parts.0) in
      let low : last < 35 = ltb-true last 35 parts.1 in
      elim at [
        | inl late ↦ (let last_is : p.last ≡ last + 2 = ap (λ (o : Octets). o.last) late.1 in let more = product.instant 2 late.0 in omega arith)
        | inr early ↦ (let last_is : p.last ≡ last + 0 = ap (λ (o : Octets). o.last) early.1 in let more = product.instant 0 early.0 in omega arith)
      ]
  stands_within (Ensemble q) p e at =
      let parts = both (number == 4) _ e in
      ended 37 p q parts.1 ((long.product (eqb-true number 4 parts.0)).ensemble at.0) at.1
  stands_within (Interval first last) p e at =
      let parts = both (number == 4) _ e in
      let product = long.product (eqb-true number 4 parts.0) in
      let low : last < 47 = ltb-true last 47 parts.1 in
      interval_ends first last 46 p (omega arith) (λ t. omega (arith, product.eight t)) (λ t. omega (arith, product.eleven t)) at
  stands_within (FirstRange first last) p e at =
      let parts = both (number == 4) _ e in
      let product = long.product (eqb-true number 4 parts.0) in
      let low : last < 59 = ltb-true last 59 parts.1 in
      let range : range_octets (l.ranges == 0) ≡ 12 = ap range_octets at.0 in
      interval_ends first last 58 p (omega arith) (λ t. omega (arith, range, product.eight t)) (λ t. omega (arith, range, product.eleven t)) at.1

-- ---- the keys

abbrev key_test : Key → Bool
key_test key =
    let row = row_of key in
    list_all (sound key) (all_octets row.place) && (fits row.section row.place && (not (can_set key) || clear row.section row.place))

passes : (key : Key) → key_test key ≡ true
passes = of_each key_test refl

unless : (set other : Bool) → (not set || other) ≡ true → set ≡ true → other ≡ true
unless true other e on = e
unless false other e on = absurd (cc)

-- what is so of the octets of a key
pub record HasShape (key : Key) (l : Layout) (p : Octets) : Type 0 where
  pub low : 1 ≤ p.first
  pub some : p.first ≤ p.last
  pub few : p.last + 1 ≤ p.first + 4
  pub count : octet_count p ≡ key_octets key
  pub free : can_set key ≡ true → lies_free (row_of key).section p ≡ true
  pub clear : can_set key ≡ true → clear_of (count_octet l.template) (row_of key).section p ≡ true

pub shape_tells : (key : Key) (l : Layout) (p : Octets) → key_place key l ≡ Some p → HasShape key l p
shape_tells key l p place =
    let row = row_of key in
    let at = stands l row.place p place in
    let tests = both (list_all (sound key) (all_octets row.place)) _ (passes key) in
    let e0 = both (nat_lt 0 p.first) _ (each_octets (sound key) l row.place p tests.0 at) in
    let e1 = both (nat_lt p.first (p.last + 1)) _ e0.1 in
    let e2 = both (nat_lt p.last (p.first + 4)) _ e1.1 in
    let e3 = both (octet_count p == key_octets key) _ e2.1 in
    let low : 0 < p.first = ltb-true 0 p.first e0.0 in
    let some : p.first < p.last + 1 = ltb-true p.first (p.last + 1) e1.0 in
    let few : p.last < p.first + 4 = ltb-true p.last (p.first + 4) e2.0 in
    record {
      low = omega arith;
      some = omega arith;
      few = omega arith;
      count = eqb-true (octet_count p) (key_octets key) e3.0;
      free = unless (can_set key) (lies_free row.section p) e3.1;
      clear = λ set. stands_clear row.section l row.place p (unless (can_set key) (clear row.section row.place) (both (fits row.section row.place) _ tests.1).1 set) at;
    }

-- the octets of a key end within a section that is as long as its layout says
pub key_within : (key : Key) (l : Layout) (least : ℕ) (p : Octets) → IsLong (row_of key).section l least → key_place key l ≡ Some p → IsWithin least p
key_within key l least p long place =
    let row = row_of key in
    let shape = shape_tells key l p place in
    let tests = both (list_all (sound key) (all_octets row.place)) _ (passes key) in
    record {
      low = shape.low;
      high = stands_within row.section l least long row.place p (both (fits row.section row.place) _ tests.1).0 (stands l row.place p place);
      some = shape.some;
      few = shape.few;
    }
