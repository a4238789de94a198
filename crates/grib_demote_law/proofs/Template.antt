-- Section 2 as it is written, by the template of Section 3.
use Rattle.std.proofs.Common.{◌≡◌, ℕ, ◌+◌, ◌*◌, ◌^◌, ◌<◌, ◌≤◌, ◌&&◌, ◌||◌, ◌==◌, Bool, true, false, not, cond, Some, None, List, [], ◌∷◌, ◌++◌, length, get_or, suc, zero, sum, nat_lt, refl, sym, ap, ◌∙◌, subst, arith, length-append, eqb-true, ltb-true}
use Rattle.std.specs.Prelude.{is_none, find, unwrap_or, option_map}
use Rattle.std.proofs.lemmas.Bool.{ltb-false, not-false, or_parts}
use Rattle.grib_bits.specs.Listed.{numbers_octets}
use Rattle.grib_bits.proofs.Listed.{length-numbers_octets, length-numbers_at}
use Rattle.grib_base.specs.Rules.{first_fault}
use Rattle.grib_base.proofs.Passing.{passes_from_none, second_fails}
use Rattle.grib_base.specs.declared.limits.TheConstants.{MOST_POINTS}
use Rattle.grib2_sections.specs.Template.{is_template, least_length}
use Rattle.grib2_grids.specs.Grid as grid2
use Rattle.grib2_grids.specs.Grid.{grid_template, list_octets, list_meaning, list_start, row_list, may_have_list}
use Rattle.grib2_grids.proofs.Lists.{row_list-whole, row_list-none}
use Rattle.grib2_grids.proofs.Numbers.{has_numbers}
use Rattle.grib1_sections.specs.Grid.{grid_types, grid_rules, grid_points, is_regular}
use Rattle.grib1_sections.specs.Grammar.{IsSection}
use Rattle.grib_reasons.specs.declared.demotion.Demotion.TheVariants.{GridNumber}
use Rattle.grib_bits.specs.declared.adding.Number.{Number}
use Rattle.grib_bits.specs.declared.adding.Number.TheVariants.{One, Two, Four}
use Rattle.grib_demote.specs.declared.tested.Tested.{Tested}
use Rattle.grib_bits.specs.Encoding.{number_octets, all_octets}
use Rattle.grib_demote.specs.Grids.{type_of, four, scanning, are_given, increment, is_listed, has_long_row, loses_rows, template_numbers, mercator, polar, polar_end, lambert, lat_lon, last_number, loss_among, grid_loss, tested_ni, tested_nj}
use Rattle.grib_demote.specs.Products.{coordinate_numbers}
use Rattle.grib_demote_law.proofs.Grids.{MayStand, section_2, place_with, is_section_2, plain_points, listed_points}

-- ---- the octets of a template

last_two : (b : Bool) (x y : ℕ) → length (number_octets (cond b (Two x) (Two y))) ≡ 2
last_two true x y = refl
last_two false x y = refl

abbrev pub numbers_by : ℕ → List ℕ → List Number
numbers_by t s = cond (t == 10) (mercator s) (cond (t == 20) (polar s ++ polar_end) (cond (t == 30) (polar s ++ lambert s) (lat_lon s)))

abbrev pub start_by : ℕ → ℕ
start_by t = cond ((t == 10) || (t == 30)) 43 33

-- what is known of a template
record IsTemplate (t : ℕ) (s : List ℕ) : Type 0 where
  known : is_template grid_types (unwrap_or (type_of t) 0) ≡ true
  small : unwrap_or (type_of t) 0 < 256
  least : least_length grid_types (unwrap_or (type_of t) 0) < start_by t
  start_is : start_by t ≡ 11 + length (all_octets (numbers_by t s))
  start_few : start_by t ≤ 43
  irregular : may_have_list t ≡ true → is_regular (unwrap_or (type_of t) 0) ≡ false

lat_lon_long : (s : List ℕ) → 33 ≡ 11 + length (all_octets (lat_lon s))
lat_lon_long s =
    let two : length (number_octets (last_number s)) ≡ 2 = last_two (grid_template s == 40) (four s 68) (increment (are_given s) (four s 68)) in
    omega (arith, two, length-append (number_octets (last_number s)) (all_octets (One (scanning s) ∷ Four 0 ∷ [])))

template_0 : (s : List ℕ) → IsTemplate 0 s
template_0 s = record { known = refl; small = omega arith; least = omega arith; start_is = lat_lon_long s; start_few = omega arith; irregular = λ may. refl }

template_10 : (s : List ℕ) → IsTemplate 10 s
template_10 s = record { known = refl; small = omega arith; least = omega arith; start_is = refl; start_few = omega arith; irregular = λ may. (let no : ⊥ = cc in absurd no) }

template_20 : (s : List ℕ) → IsTemplate 20 s
template_20 s = record { known = refl; small = omega arith; least = omega arith; start_is = refl; start_few = omega arith; irregular = λ may. (let no : ⊥ = cc in absurd no) }

template_30 : (s : List ℕ) → IsTemplate 30 s
template_30 s = record { known = refl; small = omega arith; least = omega arith; start_is = refl; start_few = omega arith; irregular = λ may. (let no : ⊥ = cc in absurd no) }

template_40 : (s : List ℕ) → IsTemplate 40 s
template_40 s = record { known = refl; small = omega arith; least = omega arith; start_is = lat_lon_long s; start_few = omega arith; irregular = λ may. refl }

known_type : (t : ℕ) (s : List ℕ) → is_none (type_of t) ≡ false → IsTemplate t s
known_type t s some = by (0 == t) (10 == t) (20 == t) (30 == t) (40 == t) refl refl refl refl refl some where
  by : (a b c d e : Bool) → (0 == t) ≡ a → (10 == t) ≡ b → (20 == t) ≡ c → (30 == t) ≡ d → (40 == t) ≡ e
      → is_none {T = ℕ} (cond a (Some 0) (cond b (Some 1) (cond c (Some 5) (cond d (Some 3) (cond e (Some 4) None))))) ≡ false → IsTemplate t s
  by true b c d e is_0 is_10 is_20 is_30 is_40 some = subst (λ n. IsTemplate n s) (eqb-true 0 t is_0) (template_0 s)
  by false true c d e is_0 is_10 is_20 is_30 is_40 some = subst (λ n. IsTemplate n s) (eqb-true 10 t is_10) (template_10 s)
  by false false true d e is_0 is_10 is_20 is_30 is_40 some = subst (λ n. IsTemplate n s) (eqb-true 20 t is_20) (template_20 s)
  by false false false true e is_0 is_10 is_20 is_30 is_40 some = subst (λ n. IsTemplate n s) (eqb-true 30 t is_30) (template_30 s)
  by false false false false true is_0 is_10 is_20 is_30 is_40 some = subst (λ n. IsTemplate n s) (eqb-true 40 t is_40) (template_40 s)
  by false false false false false is_0 is_10 is_20 is_30 is_40 some = let no : ⊥ = cc in absurd no

-- ---- Ni and Nj fit

abbrev pub NoneLost : List Tested → Type 0
NoneLost numbers = loss_among numbers ≡ None

pub first_fits : (x : Tested) (xs : List Tested) → NoneLost (x ∷ xs) → (x.fits ≡ true) × NoneLost xs
first_fits x xs none = by x.fits refl none where
  by : (b : Bool) → x.fits ≡ b → option_map (λ n. GridNumber n.first) (cond (not b) (Some x) (find (λ n. not n.fits) xs)) ≡ None → (x.fits ≡ true) × NoneLost xs
  by true is none = (is, none)
  by false is none = let no : ⊥ = cc in absurd no

front_fits : (x y : Tested) (a b c d : List Tested) (p q r : Bool)
    → NoneLost (cond p (x ∷ y ∷ a) (cond q (x ∷ y ∷ b) (cond r (x ∷ y ∷ c) (x ∷ y ∷ d)))) → (x.fits ≡ true) × (y.fits ≡ true)
front_fits x y a b c d true q r none = let one = first_fits x (y ∷ a) none in (one.0, (first_fits y a one.1).0)
front_fits x y a b c d false true r none = let one = first_fits x (y ∷ b) none in (one.0, (first_fits y b one.1).0)
front_fits x y a b c d false false true none = let one = first_fits x (y ∷ c) none in (one.0, (first_fits y c one.1).0)
front_fits x y a b c d false false false none = let one = first_fits x (y ∷ d) none in (one.0, (first_fits y d one.1).0)

counts_fit : (s : List ℕ) → grid_loss s ≡ None → ((tested_ni s).fits ≡ true) × ((tested_nj s).fits ≡ true)
counts_fit s none = front_fits (tested_ni s) (tested_nj s) _ _ _ _ (grid_template s == 10) (grid_template s == 20) (grid_template s == 30) none

-- ---- lists

length-coordinates : (words : List ℕ) → length (all_octets (coordinate_numbers words)) ≡ 4 * length words
length-coordinates [] = refl
length-coordinates (word ∷ words) = omega (arith, length-coordinates words)

pub rows_fit : (xs : List ℕ) → has_long_row xs ≡ false → (k : ℕ) → k < length xs → get_or xs k 0 < 256 ^ 2
rows_fit [] e k less = absurd (omega arith)
rows_fit (x ∷ xs) e zero less =
    let both = or_parts (nat_lt 65535 x) (has_long_row xs) e in
    let few = ltb-false 65535 x both.0 in
    omega arith
rows_fit (x ∷ xs) e (suc k) less =
    let both = or_parts (nat_lt 65535 x) (has_long_row xs) e in
    rows_fit xs both.1 k (omega arith)

second_of : (a b : Bool) → (a || b) ≡ true → a ≡ false → b ≡ true
second_of true b e off = cc
second_of false b e off = e

same_from : (m n : ℕ) → (m == n) ≡ true → m ≡ n
same_from m n e = eqb-true m n e

module _ (s words : List ℕ) (passes : first_fault (grid2.grid_rules s) ≡ None) (known : is_none (type_of (grid_template s)) ≡ false)
    (fits : grid_loss s ≡ None) (rows_kept : loses_rows s ≡ false) (few : length words ≤ 255) where
  abbrev t : ℕ
  t = unwrap_or (type_of (grid_template s)) 0

  abbrev start : ℕ
  start = start_by (grid_template s)

  abbrev numbers : List ℕ
  numbers = all_octets (template_numbers s)

  abbrev coordinates : List ℕ
  coordinates = all_octets (coordinate_numbers words)

  abbrev columns : Bool → ℕ
  columns b = cond b 65535 (grid2.ni s)

  abbrev section_by : Bool → List ℕ
  section_by b = section_2 (length words) (place_with (length words) b start) t (columns b) (grid2.nj s) numbers coordinates (numbers_octets 2 (row_list s))

  is : IsTemplate (grid_template s) s
  is = known_type (grid_template s) s known

  pub rows_few : grid2.nj s < 65535
  rows_few = ltb-true (grid2.nj s) 65535 (counts_fit s fits).1

  -- where there is no list
  plain_columns : is_listed s ≡ false → grid2.ni s < 65535
  plain_columns off = ltb-true (grid2.ni s) 65535 (second_of (is_listed s) (nat_lt (grid2.ni s) 65535) (counts_fit s fits).0 off)

  no_list : is_listed s ≡ false → list_octets s ≡ 0
  no_list off = eqb-true (list_octets s) 0 (not-false (list_octets s == 0) off)

  -- where there is one
  some_octets : is_listed s ≡ true → 0 < list_octets s
  some_octets on = by (list_octets s) refl on where
    by : (n : ℕ) → list_octets s ≡ n → not (n == 0) ≡ true → 0 < list_octets s
    by zero e on = let no : ⊥ = cc in absurd no
    by (suc n) e on = omega arith

  pub as_many : is_listed s ≡ true → length (row_list s) ≡ grid2.nj s
  as_many on =
      ap length (sym (row_list-whole s (list_start s) (list_octets s) (grid2.nj s) (has_numbers s passes).list refl refl refl (some_octets on)))
      ∙ length-numbers_at s (list_start s) (list_octets s) (grid2.nj s)

  pub long_rows : is_listed s ≡ true → has_long_row (row_list s) ≡ false
  long_rows on =
      (or_parts (not (list_meaning s == 1)) (has_long_row (row_list s))
      (second_fails (is_listed s) (not (list_meaning s == 1) || has_long_row (row_list s)) rows_kept on)).1

  may_list : is_listed s ≡ true → may_have_list (grid_template s) ≡ true
  may_list on =
      let p = passes_from_none (grid2.grid_rules s) passes in
      not-false (may_have_list (grid_template s))
      (second_fails (is_listed s) (not (may_have_list (grid_template s)))
      (or_parts (nat_lt 4 (list_octets s)) (is_listed s && not (may_have_list (grid_template s))) p.1.1.1.1.1.1.0).1 on)

  list_long : (b : Bool) → is_listed s ≡ b → length (numbers_octets 2 (row_list s)) ≡ cond b (2 * grid2.nj s) 0
  list_long true on = length-numbers_octets 2 (row_list s) ∙ ap (λ n. 2 * n) (as_many on)
  list_long false off = ap (λ xs. length (numbers_octets 2 xs)) (row_list-none s (no_list off))

  never : (b : Bool) → b ≡ true → b ≡ false → ⊥
  never true on off = cc
  never false on off = cc

  columns_of : (b : Bool) → b ≡ true → columns b ≡ 65535
  columns_of true on = refl
  columns_of false on = let no : ⊥ = cc in absurd no

  columns_few : (b : Bool) → is_listed s ≡ b → b ≡ false → columns b < 65535
  columns_few true e off = let no : ⊥ = cc in absurd no
  columns_few false e off = plain_columns e

  pub may_stand : (b : Bool) → is_listed s ≡ b → MayStand (length words) start t (columns b) (grid2.nj s) b numbers coordinates (numbers_octets 2 (row_list s))
  may_stand b e = record {
    few_coordinates = few;
    known = is.known;
    small = is.small;
    least = is.least;
    start_is = is.start_is;
    start_few = is.start_few;
    columns_plain = λ off. columns_few b e off;
    columns_listed = λ on. columns_of b on;
    rows_few = rows_few;
    irregular = λ on. is.irregular (may_list (e ∙ on));
    coordinates_long = length-coordinates words;
    list_long = list_long b e;
  }

  points_by : (b : Bool) → is_listed s ≡ b → grid_points (section_by b) ≡ grid2.grid_points s
  points_by true on =
      let p = passes_from_none (grid2.grid_rules s) passes in
      listed_points (length words) start t (columns true) (grid2.nj s) numbers coordinates (row_list s) (may_stand true on) (rows_fit (row_list s) (long_rows on)) (as_many on)
      ∙ eqb-true (sum (row_list s)) (grid2.grid_points s)
      (not-false (sum (row_list s) == grid2.grid_points s)
      (second_fails (is_listed s) (not (sum (row_list s) == grid2.grid_points s)) p.1.1.1.1.1.1.1.1.1.0 on))
  points_by false off =
      let p = passes_from_none (grid2.grid_rules s) passes in
      plain_points (length words) start t (columns false) (grid2.nj s) false numbers coordinates (numbers_octets 2 (row_list s)) (may_stand false off) refl
      ∙ eqb-true (grid2.ni s * grid2.nj s) (grid2.grid_points s)
      (not-false (grid2.ni s * grid2.nj s == grid2.grid_points s)
      (second_fails (not (is_listed s)) (not (grid2.ni s * grid2.nj s == grid2.grid_points s)) p.1.1.1.1.1.1.1.1.1.1.0 (ap not off)))

  pub points_are : grid_points (section_by (is_listed s)) ≡ grid2.grid_points s
  points_are = points_by (is_listed s) refl

  pub grid_is_section : 1 ≤ grid2.grid_points s → grid2.grid_points s ≤ MOST_POINTS → length (section_by (is_listed s)) ≤ 16777215 → IsSection 6 grid_rules (section_by (is_listed s))
  grid_is_section low high short =
      is_section_2 (length words) start t (columns (is_listed s)) (grid2.nj s) (is_listed s) numbers coordinates (numbers_octets 2 (row_list s)) (may_stand (is_listed s) refl)
      (grid2.grid_points s) low high points_are short
