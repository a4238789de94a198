-- A section with changes is like the section outside the keys that can be set.
use Rattle.std.proofs.Common.{◌≡◌, ◌≢◌, ℕ, ◌+◌, ◌-◌, ◌≤◌, ◌<◌, Bool, true, false, not, cond, ◌&&◌, ◌||◌, ◌==◌, ◌⊎◌, nat_lt, option_map, Option, Some, None, unwrap_or, List, [], ◌∷◌, length, inl, inr, refl, sym, ap, ap₂, ◌∙◌, arith, subst, ltb-false, ltb-true, eq-eqb, ne_eqb, eqb-true}
use Rattle.std.specs.Option.{option_map_or}
use Rattle.std.proofs.lemmas.Bool.{cases_eq}
use Rattle.grib_bits.specs.Octets.{octets, num_on}
use Rattle.grib_base.specs.Rules.{choose}
use Rattle.grib_bits.specs.Encoding.{octets_of}
use Rattle.grib_bits.proofs.Encoding.{length-octets_of}
use Rattle.grib_keys.specs.declared.key.Key.{Key}
use Rattle.grib_keys.proofs.Every.{of_each}
use Rattle.grib_keys.specs.declared.condition.Change.{Change}
use Rattle.grib_keys.specs.declared.table.Layout.{Layout}
use Rattle.grib_keys.specs.declared.table.Octets.{Octets}
use Rattle.grib2_products.specs.Product.{time_ranges}
use Rattle.grib_keys.specs.Keys.{row_of, key_place, can_set}
use Rattle.grib_select.specs.Values.{template_of, is_opaque, ranges_of, count_octet, layout_of, octet_count, HasKeys, IsWithin}
use Rattle.grib_select.specs.Changed.{key_octets, new_number, put, put_number, with_key, with_changes}
use Rattle.grib_select.proofs.Puts.{length-put, put-before, put-behind}
use Rattle.grib_select.proofs.Stand.{outside, is_fixed, KeepsFixed, AreAlike, alike_self, alike_then, template_stays, opaque_stays}
use Rattle.grib_select.proofs.Places.{lies_in, lies_free, clear_of, shape_tells}
use Rattle.grib_select.proofs.Within.{KeysWithin, laid_out, or_parts_true, and_first, and_second}

-- ---- a free place has no fixed octets

pub not_true : (x : Bool) → not x ≡ true → x ≡ false
not_true true e = sym e
not_true false e = refl

-- two intervals that do not meet
apart : (first last : ℕ) (p : Octets) → lies_in first last p ≡ true → (a b : ℕ) → outside first last a b ≡ true → (b < p.first) ⊎ (p.last < a)
apart first last p lies a b out =
    let low : first ≤ p.first = ltb-false p.first first (not_true (nat_lt p.first first) (and_first (not (nat_lt p.first first)) (not (nat_lt last p.last)) lies)) in
    let high : p.last ≤ last = ltb-false last p.last (not_true (nat_lt last p.last) (and_second (not (nat_lt p.first first)) (not (nat_lt last p.last)) lies)) in
    elim (or_parts_true (nat_lt b first) (nat_lt last a) out) [
      | inl before ↦ (let lt : b < first = ltb-true b first before in inl (omega arith))
      | inr behind ↦ (let lt : last < a = ltb-true last a behind in inr (omega arith))
    ]

-- the place of a key that can be set has no fixed octets
abbrev pub IsFree : ℕ → Octets → Type 0
IsFree number p = (a b : ℕ) → is_fixed number a b ≡ true → (b < p.first) ⊎ (p.last < a)

free_3 : (p : Octets) → lies_free 3 p ≡ true → IsFree 3 p
free_3 p lies a b out =
    elim (or_parts_true (lies_in 15 30 p) (lies_in 39 72 p) lies) [
      | inl first ↦ apart 15 30 p first a b (and_first (outside 15 30 a b) (outside 39 72 a b) out)
      | inr second ↦ apart 39 72 p second a b (and_second (outside 15 30 a b) (outside 39 72 a b) out)
    ]

free_any : (number : ℕ) (p : Octets) → lies_free number p ≡ true → IsFree number p
free_any number p lies = elim (cases_eq number 0) [
  | inl e ↦ subst (λ (n : ℕ). IsFree n p) (sym e) (apart 7 7 p (subst (λ (n : ℕ). lies_free n p ≡ true) e lies))
  | inr not_0 ↦ elim (cases_eq number 1) [
    | inl e ↦ subst (λ (n : ℕ). IsFree n p) (sym e) (apart 6 21 p (subst (λ (n : ℕ). lies_free n p ≡ true) e lies))
    | inr not_1 ↦ elim (cases_eq number 3) [
      | inl e ↦ subst (λ (n : ℕ). IsFree n p) (sym e) (free_3 p (subst (λ (n : ℕ). lies_free n p ≡ true) e lies))
      | inr not_3 ↦ elim (cases_eq number 4) [
        | inl e ↦ subst (λ (n : ℕ). IsFree n p) (sym e) (apart 10 56 p (subst (λ (n : ℕ). lies_free n p ≡ true) e lies))
        | inr not_4 ↦
            let none : false ≡ true =
            sym (λ i. cond (ne_eqb number 0 not_0 i) (lies_in 7 7 p) (cond (ne_eqb number 1 not_1 i) (lies_in 6 21 p)
            (cond (ne_eqb number 3 not_3 i) (lies_in 15 30 p || lies_in 39 72 p) (cond (ne_eqb number 4 not_4 i) (lies_in 10 56 p) false)))) ∙ lies in
            absurd (cc)
      ]
    ]
  ]
]

-- ---- a section in which changes can be made

-- the octet with the number of time ranges, by whether the template is 4.8 and whether it is 4.11
abbrev count_by : Bool → Bool → ℕ
count_by e f = cond e 42 (cond f 45 0)

-- the octet with the number of time ranges is none of a place
abbrev pub IsClear : ℕ → Octets → Type 0
IsClear count p = (p.last < count) ⊎ (count < p.first)

clear_tells : (number count : ℕ) (p : Octets) → number ≡ 4 → clear_of count number p ≡ true → IsClear count p
clear_tells number count p is e =
    let told : (nat_lt p.last count || nat_lt count p.first) ≡ true =
    sym (ap (λ (b : Bool). not b || (nat_lt p.last count || nat_lt count p.first)) (eq-eqb number 4 is)) ∙ e in
    elim (or_parts_true (nat_lt p.last count) (nat_lt count p.first) told) [
      | inl before ↦ inl (ltb-true p.last count before)
      | inr behind ↦ inr (ltb-true count p.first behind)
    ]

-- the keys with this number stand in it, and those that can be set stand free
pub record IsReady (number : ℕ) (s : List ℕ) : Type 0 where
  pub within : KeysWithin number s
  pub free : (key : Key) (p : Octets) → (row_of key).section ≡ number → can_set key ≡ true → key_place key (layout_of number s) ≡ Some p → IsFree number p
  pub clear : (key : Key) (p : Octets) → (row_of key).section ≡ number → can_set key ≡ true → key_place key (layout_of number s) ≡ Some p → number ≡ 4
      → IsClear (count_octet (template_of number s)) p
  pub counted : number ≡ 4 → count_octet (template_of number s) ≤ length s

pub ready : (number : ℕ) (s : List ℕ) → HasKeys number s → IsReady number s
ready number s h = record {
  within = λ key p section place.
      let shape = shape_tells key (layout_of number s) p place in
      record { low = shape.low; high = h.keys key p section place; some = shape.some; few = shape.few };
  free = λ key p section settable place.
      subst (λ (n : ℕ). IsFree n p) section (free_any (row_of key).section p ((shape_tells key (layout_of number s) p place).free settable));
  clear = λ key p section settable place four.
      clear_tells (row_of key).section (count_octet (template_of number s)) p (section ∙ four) ((shape_tells key (layout_of number s) p place).clear settable);
  counted = h.counted;
}

pub ready_keys : (number : ℕ) (s : List ℕ) → IsReady number s → HasKeys number s
ready_keys number s r = record { keys = λ key p section place. (r.within key p section place).high; counted = r.counted }

pub ready_stays : (number : ℕ) (s t : List ℕ) → AreAlike number s t → IsReady number s → IsReady number t
ready_stays number s t h r =
    let same = h.layout in
    let count : count_octet (template_of number t) ≡ count_octet (template_of number s) = ap (λ (l : Layout). count_octet l.template) same in
    let back = λ (key : Key) (p : Octets) (place : key_place key (layout_of number t) ≡ Some p). sym (ap (key_place key) same) ∙ place in
    record {
      within = λ key p section place. subst (λ (l : ℕ). IsWithin l p) (sym h.long) (r.within key p section (back key p place));
      free = λ key p section settable place. r.free key p section settable (back key p place);
      clear = λ key p section settable place four. subst (λ (n : ℕ). IsClear n p) (sym count) (r.clear key p section settable (back key p place) four);
      counted = λ four. omega (arith, r.counted four, count, h.long);
    }

-- other octets at the place of a key
module _ (number : ℕ) (s : List ℕ) (p : Octets) (xs : List ℕ) (within : IsWithin (length s) p) (count : length xs ≡ octet_count p) (free : IsFree number p)
    (clear : number ≡ 4 → IsClear (count_octet (template_of number s)) p) where
  abbrev t : List ℕ
  t = put s p.first xs

  room : p.first - 1 + length xs ≤ length s
  room = omega (arith, count, within.high, within.some, within.low)

  behind_last : p.first + length xs ≡ p.last + 1
  behind_last = omega (arith, count, within.some, within.low)

  put_fixed : KeepsFixed number s t
  put_fixed a b first order e = elim (free a b e) [
    | inl before ↦ put-before s p.first xs within.low room a b first order before
    | inr behind ↦ put-behind s p.first xs within.low room a b (omega (arith, behind_last))
  ]

  -- an octet beside the place
  put_beside : (n : ℕ) → 1 ≤ n → IsClear n p → octets t n n ≡ octets s n n
  put_beside n some beside = ap (num_on 0) (elim beside [
    | inl before ↦ put-behind s p.first xs within.low room n n (omega (arith, behind_last, before))
    | inr behind ↦ put-before s p.first xs within.low room n n some (omega arith) behind
  ])

  -- the number of time ranges
  ranges_by : (e f : Bool) → IsClear (count_by e f) p
      → cond e (octets t 42 42) (cond f (octets t 45 45) 0) ≡ cond e (octets s 42 42) (cond f (octets s 45 45) 0)
  ranges_by true f beside = put_beside 42 (omega arith) beside
  ranges_by false true beside = put_beside 45 (omega arith) beside
  ranges_by false false beside = refl

  -- in Section 4
  as_template : number ≡ 4 → (u : List ℕ) → template_of number u ≡ octets u 8 9
  as_template four u = ap (λ (n : ℕ). template_of n u) four

  as_ranges : number ≡ 4 → (u : List ℕ) → ranges_of number u ≡ time_ranges u
  as_ranges four u = ap (λ (n : ℕ). ranges_of n u) four

  put_ranges : ranges_of number t ≡ ranges_of number s
  put_ranges = elim (cases_eq number 4) [
    | inl four ↦
        let template : octets t 8 9 ≡ octets s 8 9 = sym (as_template four t) ∙ template_stays number s t put_fixed ∙ as_template four s in
        let beside : IsClear (count_octet (octets s 8 9)) p = subst (λ (n : ℕ). IsClear (count_octet n) p) (as_template four s) (clear four) in
        as_ranges four t
        ∙ ap (λ (u : ℕ). cond (u == 8) (octets t 42 42) (cond (u == 11) (octets t 45 45) 0)) template
        ∙ ranges_by (octets s 8 9 == 8) (octets s 8 9 == 11) beside
        ∙ sym (as_ranges four s)
    | inr other ↦
        let none : (u : List ℕ) → ranges_of number u ≡ 0 = λ u. ap (λ (b : Bool). cond b (time_ranges u) 0) (ne_eqb number 4 other) in
        none t ∙ sym (none s)
  ]

  pub put_alike : AreAlike number s t
  put_alike =
      let same : template_of number t ≡ template_of number s = template_stays number s t put_fixed in
      let opaque : is_opaque number t ≡ is_opaque number s = opaque_stays number s t put_fixed in
      record {
        long = length-put s p.first xs within.low room;
        fixed = put_fixed;
        layout = λ i. laid_out (same i) (opaque i) (put_ranges i);
      }

-- a change
number_alike : (number : ℕ) (s : List ℕ) (change : Change) (o : Option Octets) → IsReady number s → (row_of change.key).section ≡ number → can_set change.key ≡ true
    → key_place change.key (layout_of number s) ≡ o → AreAlike number s (put_number change s o)
number_alike number s change None r section settable place = alike_self number s
number_alike number s change (Some p) r section settable place =
    put_alike number s p (octets_of (octet_count p) (unwrap_or (new_number change) 0)) (r.within change.key p section place)
    (length-octets_of (octet_count p) (unwrap_or (new_number change) 0)) (r.free change.key p section settable place)
    (r.clear change.key p section settable place)

-- where the key stands in the section, and where not
pub with_key_here : (change : Change) (number : ℕ) (s : List ℕ) → (row_of change.key).section ≡ number
    → with_key change number s ≡ put_number change s (key_place change.key (layout_of number s))
with_key_here change number s section =
    ap (λ (b : Bool). choose b (λ _. put_number change s (key_place change.key (layout_of number s))) (λ _. s)) (eq-eqb (row_of change.key).section number section)

pub with_key_other : (change : Change) (number : ℕ) (s : List ℕ) → (row_of change.key).section ≢ number → with_key change number s ≡ s
with_key_other change number s other =
    ap (λ (b : Bool). choose b (λ _. put_number change s (key_place change.key (layout_of number s))) (λ _. s)) (ne_eqb (row_of change.key).section number other)

pub key_alike : (number : ℕ) (s : List ℕ) (change : Change) → IsReady number s → can_set change.key ≡ true → AreAlike number s (with_key change number s)
key_alike number s change r settable = elim (cases_eq (row_of change.key).section number) [
  | inl section ↦
      subst (λ (t : List ℕ). AreAlike number s t) (sym (with_key_here change number s section))
      (number_alike number s change (key_place change.key (layout_of number s)) r section settable refl)
  | inr other ↦ subst (λ (t : List ℕ). AreAlike number s t) (sym (with_key_other change number s other)) (alike_self number s)
]

-- all changes
abbrev pub CanBeSet : List Change → Type 0
CanBeSet [] = Unit {0}
CanBeSet (change ∷ changes) = (can_set change.key ≡ true) × CanBeSet changes

pub changes_alike : (changes : List Change) (number : ℕ) (s : List ℕ) → IsReady number s → CanBeSet changes → AreAlike number s (with_changes changes number s)
changes_alike [] number s r settable = alike_self number s
changes_alike (change ∷ changes) number s r settable =
    let first = key_alike number s change r settable.0 in
    alike_then number s (with_key change number s) (with_changes changes number (with_key change number s)) first
    (changes_alike changes number (with_key change number s) (ready_stays number s (with_key change number s) first r) settable.1)

-- no key that can be set stands in Sections 2, 5, 6 and 7
pub changes_none : (changes : List Change) (number : ℕ) (s : List ℕ) → CanBeSet changes → ((key : Key) → can_set key ≡ true → (row_of key).section ≢ number)
    → with_changes changes number s ≡ s
changes_none [] number s settable none = refl
changes_none (change ∷ changes) number s settable none =
    ap (with_changes changes number) (with_key_other change number s (none change.key settable.0)) ∙ changes_none changes number s settable.1 none

-- whether the key, if it can be set, stands elsewhere
abbrev elsewhere : ℕ → Key → Bool
elsewhere number key = not (can_set key) || not ((row_of key).section == number)

elsewhere_tells : (number : ℕ) (key : Key) → elsewhere number key ≡ true → can_set key ≡ true → (row_of key).section ≢ number
elsewhere_tells number key e settable same =
    let told : not true ≡ true = sym (ap₂ (λ (b c : Bool). not b || not c) settable (eq-eqb (row_of key).section number same)) ∙ e in
    absurd (cc)

pub unchanged : (changes : List Change) (number : ℕ) (s : List ℕ) → CanBeSet changes → (number ≡ 2) ⊎ ((number ≡ 5) ⊎ ((number ≡ 6) ⊎ (number ≡ 7)))
    → with_changes changes number s ≡ s
unchanged changes number s settable one =
    changes_none changes number s settable (λ key set. elim one [
      | inl e ↦ subst (λ (n : ℕ). (row_of key).section ≢ n) (sym e) (elsewhere_tells 2 key (of_each (elsewhere 2) refl key) set)
      | inr other ↦ elim other [
        | inl e ↦ subst (λ (n : ℕ). (row_of key).section ≢ n) (sym e) (elsewhere_tells 5 key (of_each (elsewhere 5) refl key) set)
        | inr rest ↦ elim rest [
          | inl e ↦ subst (λ (n : ℕ). (row_of key).section ≢ n) (sym e) (elsewhere_tells 6 key (of_each (elsewhere 6) refl key) set)
          | inr e ↦ subst (λ (n : ℕ). (row_of key).section ≢ n) (sym e) (elsewhere_tells 7 key (of_each (elsewhere 7) refl key) set)
        ]
      ]
    ])
