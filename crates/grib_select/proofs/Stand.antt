-- Octets of a section that no change touches, and what they decide.
use Rattle.std.proofs.Common.{◌≡◌, ℕ, zero, suc, ◌+◌, ◌-◌, ◌*◌, ◌/◌, ◌≤◌, Bool, true, false, not, cond, ◌&&◌, ◌||◌, ◌==◌, min, nat_lt, List, [], ◌∷◌, length, map, inl, inr, refl, sym, ap, ◌∙◌, arith, subst, lt-ltb, ne_eqb}
use Rattle.std.specs.Prelude.{sum}
use Rattle.std.specs.List.{range_with_len}
use Rattle.std.proofs.lemmas.Bool.{cases_eq}
use Rattle.grib_bits.specs.Octets.{octets, octet_list, num_on}
use Rattle.grib_base.specs.declared.fault.Reason.TheVariants.{SectionLength, GridSource, GridTemplate, PointCount, ListShape, FieldCount, ProductTemplate}
use Rattle.grib_base.specs.declared.profile.Profile.{Profile}
use Rattle.grib_base.specs.declared.profile.Profile.TheVariants.{Stated, Open}
use Rattle.grib_base.specs.Rules.{Rule, rule}
use Rattle.grib_base.specs.declared.limits.TheConstants.{MOST_POINTS}
use Rattle.grib2_sections.specs.Template.{is_template, least_length}
use Rattle.grib2_sections.specs.Identification.{identification_rules}
use Rattle.grib2_grids.specs.Grid.{grid_rules, grid_points, grid_template, grid_templates, list_octets, list_start, row_list, ni, nj, may_have_list}
use Rattle.grib2_grids.specs.Opaque.{is_opaque_grid, grid_rules_under}
use Rattle.grib2_products.specs.Opaque.{is_opaque_product, opaque_least, product_rules_under}
use Rattle.grib_packing.specs.Entries.{is_packing, is_opaque_packing}
use Rattle.grib2_products.specs.Product.{product_rules, product_templates, time_ranges}
use Rattle.grib_keys.specs.declared.table.Layout.{Layout}
use Rattle.grib_select.specs.Values.{template_of, is_opaque, layout_of}

-- whether octets a to b are outside the octets first to last
abbrev pub outside : ℕ → ℕ → ℕ → ℕ → Bool
outside first last a b = nat_lt b first || nat_lt last a

-- whether octets a to b of a section with this number are none of a key that can be set
abbrev pub is_fixed : ℕ → ℕ → ℕ → Bool
is_fixed number a b =
    cond (number == 0) (outside 7 7 a b)
    (cond (number == 1) (outside 6 21 a b)
    (cond (number == 3) (outside 15 30 a b && outside 39 72 a b)
    (cond (number == 4) (outside 10 56 a b) true)))

-- the same octets there
abbrev pub KeepsFixed : ℕ → List ℕ → List ℕ → Type 0
KeepsFixed number s t = (a b : ℕ) → 1 ≤ a → a ≤ b → is_fixed number a b ≡ true → octet_list t a b ≡ octet_list s a b

-- two sections with this number that are the same there and have one layout
pub record AreAlike (number : ℕ) (s t : List ℕ) : Type 0 where
  pub long : length t ≡ length s
  pub fixed : KeepsFixed number s t
  pub layout : layout_of number t ≡ layout_of number s

pub alike_self : (number : ℕ) (s : List ℕ) → AreAlike number s s
alike_self number s = record { long = refl; fixed = λ a b low order e. refl; layout = refl }

pub alike_then : (number : ℕ) (s t u : List ℕ) → AreAlike number s t → AreAlike number t u → AreAlike number s u
alike_then number s t u h k = record {
  long = k.long ∙ h.long;
  fixed = λ a b low order e. k.fixed a b low order e ∙ h.fixed a b low order e;
  layout = k.layout ∙ h.layout;
}

-- the number of such octets
pub alike_octets : (number a b : ℕ) (s t : List ℕ) → AreAlike number s t → 1 ≤ a → a ≤ b → is_fixed number a b ≡ true → octets t a b ≡ octets s a b
alike_octets number a b s t h low order e = ap (num_on 0) (h.fixed a b low order e)

-- ---- the template

pub template_stays : (number : ℕ) (s t : List ℕ) → KeepsFixed number s t → template_of number t ≡ template_of number s
template_stays number s t h = elim (cases_eq number 3) [
  | inl e ↦
      subst (λ (n : ℕ). KeepsFixed n s t → template_of n t ≡ template_of n s) (sym e)
      (λ k. ap (num_on 0) (k 13 14 (omega arith) (omega arith) refl)) h
  | inr not_3 ↦ elim (cases_eq number 4) [
    | inl e ↦
        subst (λ (n : ℕ). KeepsFixed n s t → template_of n t ≡ template_of n s) (sym e)
        (λ k. ap (num_on 0) (k 8 9 (omega arith) (omega arith) refl)) h
    | inr not_4 ↦ elim (cases_eq number 5) [
      | inl e ↦
          subst (λ (n : ℕ). KeepsFixed n s t → template_of n t ≡ template_of n s) (sym e)
          (λ k. ap (num_on 0) (k 10 11 (omega arith) (omega arith) refl)) h
      | inr not_5 ↦
          let other : (u : List ℕ) → template_of number u ≡ 0 =
          λ u. λ i. cond (ne_eqb number 3 not_3 i) (octets u 13 14) (cond (ne_eqb number 4 not_4 i) (octets u 8 9) (cond (ne_eqb number 5 not_5 i) (octets u 10 11) 0)) in
          other t ∙ sym (other s)
    ]
  ]
]

-- whether the section is opaque
pub opaque_stays : (number : ℕ) (s t : List ℕ) → KeepsFixed number s t → is_opaque number t ≡ is_opaque number s
opaque_stays number s t h = elim (cases_eq number 3) [
  | inl e ↦
      subst (λ (n : ℕ). KeepsFixed n s t → is_opaque n t ≡ is_opaque n s) (sym e)
      (λ k.
      let source : octets t 6 6 ≡ octets s 6 6 = ap (num_on 0) (k 6 6 (omega arith) (omega arith) refl) in
      let template : octets t 13 14 ≡ octets s 13 14 = ap (num_on 0) (k 13 14 (omega arith) (omega arith) refl) in
      λ i. not (source i == 0) || not (is_template grid_templates (template i))) h
  | inr not_3 ↦ elim (cases_eq number 4) [
    | inl e ↦
        subst (λ (n : ℕ). KeepsFixed n s t → is_opaque n t ≡ is_opaque n s) (sym e)
        (λ k. ap (λ (xs : List ℕ). not (is_template product_templates (num_on 0 xs))) (k 8 9 (omega arith) (omega arith) refl)) h
    | inr not_4 ↦ elim (cases_eq number 5) [
      | inl e ↦
          subst (λ (n : ℕ). KeepsFixed n s t → is_opaque n t ≡ is_opaque n s) (sym e)
          (λ k. ap (λ (xs : List ℕ). not (is_packing (num_on 0 xs))) (k 10 11 (omega arith) (omega arith) refl)) h
      | inr not_5 ↦
          let other : (u : List ℕ) → is_opaque number u ≡ false =
          λ u. λ i. cond (ne_eqb number 3 not_3 i) (is_opaque_grid u) (cond (ne_eqb number 4 not_4 i) (is_opaque_product u) (cond (ne_eqb number 5 not_5 i) (is_opaque_packing u) false)) in
          other t ∙ sym (other s)
    ]
  ]
]

pub alike_identification : (s t : List ℕ) → AreAlike 1 s t → identification_rules t ≡ identification_rules s
alike_identification s t h = ap (λ (l : ℕ). rule (nat_lt l 21) 1 SectionLength l ∷ []) h.long

-- ---- Section 3

pub or_right : (a b : Bool) → b ≡ true → (a || b) ≡ true
or_right true b e = refl
or_right false b e = e

and_both : (a b : Bool) → a ≡ true → b ≡ true → (a && b) ≡ true
and_both true b e f = f
and_both false b e f = cc

-- the list of rows stands behind all keys
fixed_behind : (a b : ℕ) → 73 ≤ a → is_fixed 3 a b ≡ true
fixed_behind a b high =
    and_both (outside 15 30 a b) (outside 39 72 a b) (or_right (nat_lt b 15) (nat_lt 30 a) (lt-ltb 30 a (omega arith))) (or_right (nat_lt b 39) (nat_lt 72 a) (lt-ltb 72 a (omega arith)))

start_low : (b : Bool) → 73 ≤ cond b 85 73
start_low true = omega arith
start_low false = omega arith

list_with : List ℕ → ℕ → ℕ → ℕ → List ℕ
list_with s size f count = map (λ j. octets s (f + j * size) (f + j * size + size - 1)) (range_with_len 0 count)

list_same : (s t : List ℕ) (size f count : ℕ) → AreAlike 3 s t → 1 ≤ size → 73 ≤ f → list_with t size f count ≡ list_with s size f count
unfolding list_with
list_same s t size f count h some high =
    let each : (j : ℕ) → octets t (f + j * size) (f + j * size + size - 1) ≡ octets s (f + j * size) (f + j * size + size - 1) =
    λ j. alike_octets 3 (f + j * size) (f + j * size + size - 1) s t h (omega arith) (omega arith) (fixed_behind (f + j * size) (f + j * size + size - 1) (omega arith)) in
    λ i. map (λ j. each j i) (range_with_len 0 count)

list_count : ℕ → ℕ → ℕ → ℕ → ℕ
list_count size n l f = cond (size == 0) 0 (min n ((l + 1 - f) / size))

list_sized : (s t : List ℕ) (size f count : ℕ) → AreAlike 3 s t → 73 ≤ f → list_with t size f (cond (size == 0) 0 count) ≡ list_with s size f (cond (size == 0) 0 count)
unfolding list_with
list_sized s t zero f count h high = refl
list_sized s t (suc size) f count h high = list_same s t (suc size) f (cond (suc size == 0) 0 count) h (omega arith) high

module _ (s t : List ℕ) (h : AreAlike 3 s t) where
  template_3 : grid_template t ≡ grid_template s
  template_3 = alike_octets 3 13 14 s t h (omega arith) (omega arith) refl

  pub points_3 : grid_points t ≡ grid_points s
  points_3 = alike_octets 3 7 10 s t h (omega arith) (omega arith) refl

  size_3 : list_octets t ≡ list_octets s
  size_3 = alike_octets 3 11 11 s t h (omega arith) (omega arith) refl

  nj_3 : nj t ≡ nj s
  nj_3 = alike_octets 3 35 38 s t h (omega arith) (omega arith) refl

  ni_3 : ni t ≡ ni s
  ni_3 = alike_octets 3 31 34 s t h (omega arith) (omega arith) refl

  list_3 : row_list t ≡ row_list s
  unfolding list_with list_count
  list_3 =
      (λ i. list_with t (size_3 i) (cond (template_3 i == 1) 85 73) (list_count (size_3 i) (nj_3 i) (h.long i) (cond (template_3 i == 1) 85 73)))
      ∙ list_sized s t (list_octets s) (list_start s) (min (nj s) ((length s + 1 - list_start s) / list_octets s)) h (start_low (grid_template s == 1))

-- the rows of a grid by the numbers that they test
grid_by : ℕ → ℕ → ℕ → ℕ → ℕ → ℕ → ℕ → ℕ → List ℕ → List Rule
grid_by l source t points size meaning n_i n_j list =
    let listed = not (size == 0) in
    let f = cond (t == 1) 85 73 in
    rule (nat_lt l 14) 1 SectionLength l
    ∷ rule (not (source == 0)) 6 GridSource source
    ∷ rule (not (is_template grid_templates t)) 13 GridTemplate t
    ∷ rule (nat_lt l (least_length grid_templates t)) 1 SectionLength l
    ∷ rule (points == 0 || nat_lt MOST_POINTS points) 7 PointCount points
    ∷ rule (listed && not (meaning == 1) && not (meaning == 2)) 12 ListShape meaning
    ∷ rule (nat_lt 4 size || (listed && not (may_have_list t))) 11 ListShape size
    ∷ rule (listed && (n_j == 0 || n_j == 4294967295)) 35 ListShape n_j
    ∷ rule (listed && nat_lt l (f - 1 + size * n_j)) f ListShape n_j
    ∷ rule (listed && not (sum list == points)) 7 PointCount (sum list)
    ∷ rule (not listed && not (n_i * n_j == points)) 7 PointCount (n_i * n_j)
    ∷ []

pub alike_grid : (s t : List ℕ) → AreAlike 3 s t → grid_rules t ≡ grid_rules s
unfolding grid_by
alike_grid s t h =
    let source = alike_octets 3 6 6 s t h (omega arith) (omega arith) refl in
    let meaning = alike_octets 3 12 12 s t h (omega arith) (omega arith) refl in
    λ i. grid_by (h.long i) (source i) (template_3 s t h i) (points_3 s t h i) (size_3 s t h i) (meaning i) (ni_3 s t h i) (nj_3 s t h i) (list_3 s t h i)

-- under a profile
opaque_grid_by : ℕ → ℕ → List Rule
opaque_grid_by l points = rule (nat_lt l 14) 1 SectionLength l ∷ rule (points == 0 || nat_lt MOST_POINTS points) 7 PointCount points ∷ []

pub alike_grid_under : (profile : Profile) (s t : List ℕ) → AreAlike 3 s t → grid_rules_under profile t ≡ grid_rules_under profile s
unfolding opaque_grid_by
alike_grid_under Stated s t h = alike_grid s t h
alike_grid_under Open s t h =
    let opaque : is_opaque_grid t ≡ is_opaque_grid s = ap (λ (l : Layout). l.is_opaque) h.layout in
    let rules = alike_grid s t h in
    λ i. cond (opaque i) (opaque_grid_by (h.long i) (points_3 s t h i)) (rules i)

-- ---- Section 4

product_by : ℕ → ℕ → ℕ → ℕ → ℕ → List Rule
product_by l t n coordinates ranges =
    rule (nat_lt l 9) 1 SectionLength l
    ∷ rule (n == 4097) 1 FieldCount 4097
    ∷ rule (not (is_template product_templates t)) 8 ProductTemplate t
    ∷ rule (nat_lt l (least_length product_templates t)) 1 SectionLength l
    ∷ rule (nat_lt l (least_length product_templates t + 12 * ranges + 4 * coordinates)) 1 SectionLength l
    ∷ []

pub alike_product : (s t : List ℕ) (n : ℕ) → AreAlike 4 s t → product_rules t n ≡ product_rules s n
unfolding product_by
alike_product s t n h =
    let template = alike_octets 4 8 9 s t h (omega arith) (omega arith) refl in
    let coordinates = alike_octets 4 6 7 s t h (omega arith) (omega arith) refl in
    let ranges : time_ranges t ≡ time_ranges s = ap (λ (l : Layout). l.ranges) h.layout in
    λ i. product_by (h.long i) (template i) n (coordinates i) (ranges i)

-- under a profile
opaque_product_by : ℕ → ℕ → ℕ → List Rule
opaque_product_by l t n =
    rule (nat_lt l 9) 1 SectionLength l ∷ rule (n == 4097) 1 FieldCount 4097 ∷ rule (nat_lt l (opaque_least t)) 1 SectionLength l ∷ []

pub alike_product_under : (profile : Profile) (s t : List ℕ) (n : ℕ) → AreAlike 4 s t → product_rules_under profile t n ≡ product_rules_under profile s n
unfolding opaque_product_by
alike_product_under Stated s t n h = alike_product s t n h
alike_product_under Open s t n h =
    let opaque : is_opaque_product t ≡ is_opaque_product s = ap (λ (l : Layout). l.is_opaque) h.layout in
    let template = alike_octets 4 8 9 s t h (omega arith) (omega arith) refl in
    let rules = alike_product s t n h in
    λ i. cond (opaque i) (opaque_product_by (h.long i) (template i) n) (rules i)
