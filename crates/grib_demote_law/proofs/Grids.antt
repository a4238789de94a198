-- Section 2 as it is written passes its rules.
use Rattle.std.proofs.Common.{◌≡◌, ℕ, ◌+◌, ◌-◌, ◌*◌, ◌^◌, ◌<◌, ◌≤◌, ◌&&◌, ◌||◌, ◌==◌, Bool, true, false, not, cond, List, [], ◌∷◌, ◌++◌, length, get_or, sum, nat_lt, refl, sym, ap, ap₂, ◌∙◌, arith, lt-ltb, le-ltb, eq-eqb, ne_eqb, length-append, append_assoc}
use Rattle.grib_bits.specs.Encoding.{octets_of, all_octets, section1_of}
use Rattle.grib_bits.specs.Listed.{numbers_octets, numbers_at}
use Rattle.grib_bits.proofs.Encoding.{num_on-octets_of}
use Rattle.grib_bits.proofs.Listed.{numbers_at-behind}
use Rattle.grib_base.proofs.Passing.{none_from_passes}
use Rattle.grib_base.specs.declared.limits.TheConstants.{MOST_POINTS}
use Rattle.grib2_sections.specs.Template.{is_template, least_length}
use Rattle.grib1_sections.specs.Grid.{grid_types, grid_rules, grid_type, grid_points, nv, ni, nj, list_place, lists_rows, has_list, row_count, row_list, lists_end, is_regular}
use Rattle.grib1_sections.specs.Grammar.{IsSection}
use Rattle.grib_bits.specs.declared.adding.Number.{Number}
use Rattle.grib_bits.specs.declared.adding.Number.TheVariants.{One, Two}
use Rattle.grib_demote_law.proofs.Joined.{stands}

-- a Section 2 by its numbers: octets 4-10, the octets of its template, and its lists
abbrev pub header_with : ℕ → ℕ → ℕ → ℕ → ℕ → List Number
header_with count place t columns rows = One count ∷ One place ∷ One t ∷ Two columns ∷ Two rows ∷ []

abbrev pub section_2 : ℕ → ℕ → ℕ → ℕ → ℕ → List ℕ → List ℕ → List ℕ → List ℕ
section_2 count place t columns rows numbers coordinates list =
    section1_of (all_octets (header_with count place t columns rows) ++ (numbers ++ (coordinates ++ list)))

-- where the lists begin, behind the octets of the template
abbrev pub place_with : ℕ → Bool → ℕ → ℕ
place_with count listed start = cond ((count == 0) && not listed) 255 start

-- what is known of the numbers
pub record MayStand (count start t columns rows : ℕ) (listed : Bool) (numbers coordinates list : List ℕ) : Type 0 where
  pub few_coordinates : count ≤ 255
  pub known : is_template grid_types t ≡ true
  pub small : t < 256
  pub least : least_length grid_types t < start
  pub start_is : start ≡ 11 + length numbers
  pub start_few : start ≤ 43
  pub columns_plain : listed ≡ false → columns < 65535
  pub columns_listed : listed ≡ true → columns ≡ 65535
  pub rows_few : rows < 65535
  pub irregular : listed ≡ true → is_regular t ≡ false
  pub coordinates_long : length coordinates ≡ 4 * count
  pub list_long : length list ≡ cond listed (2 * rows) 0

start_listed : (b : Bool) (start : ℕ) → cond (b && not true) 255 start ≡ start
start_listed true start = refl
start_listed false start = refl

module _ (count start t columns rows : ℕ) (listed : Bool) (numbers coordinates list : List ℕ) (is : MayStand count start t columns rows listed numbers coordinates list) where
  abbrev place : ℕ
  place = place_with count listed start

  abbrev s : List ℕ
  s = section_2 count place t columns rows numbers coordinates list

  place_few : place < 256
  place_few = by ((count == 0) && not listed) where
    by : (b : Bool) → cond b 255 start < 256
    by true = omega arith
    by false = let few = is.start_few in omega arith

  pub count_stands : nv s ≡ count
  count_stands = num_on-octets_of 1 count (let few = is.few_coordinates in omega arith)

  pub place_stands : list_place s ≡ place
  place_stands = num_on-octets_of 1 place (let few = place_few in omega arith)

  pub type_stands : grid_type s ≡ t
  type_stands = num_on-octets_of 1 t (let few = is.small in omega arith)

  columns_fit : columns < 65536
  columns_fit = by listed refl where
    by : (b : Bool) → listed ≡ b → columns < 65536
    by true e = let same = is.columns_listed e in omega arith
    by false e = let few = is.columns_plain e in omega arith

  pub columns_stand : ni s ≡ columns
  columns_stand = num_on-octets_of 2 columns (let few = columns_fit in omega arith)

  pub rows_stand : nj s ≡ rows
  rows_stand = num_on-octets_of 2 rows (let few = is.rows_few in omega arith)

  pub length_2 : length s ≡ 10 + length numbers + length coordinates + length list
  length_2 = omega (arith, length-append numbers (coordinates ++ list), length-append coordinates list)

  pub listed_stands : lists_rows s ≡ listed
  listed_stands = by listed refl where
    by : (b : Bool) → listed ≡ b → (ni s == 65535) ≡ listed
    by true e = eq-eqb (ni s) 65535 (columns_stand ∙ is.columns_listed e) ∙ sym e
    by false e = ne_eqb (ni s) 65535 (λ same. let few = is.columns_plain e in omega (arith, columns_stand, same, few)) ∙ sym e

  row_count_stands : row_count s ≡ cond listed rows 0
  row_count_stands = ap₂ (λ (b : Bool) (n : ℕ). cond b n 0) listed_stands rows_stand

  known_row : not (is_template grid_types (grid_type s)) ≡ false
  known_row = ap (λ (n : ℕ). not (is_template grid_types n)) type_stands ∙ ap not is.known

  length_row : nat_lt (length s) (least_length grid_types (grid_type s)) ≡ false
  length_row =
      ap (λ (n : ℕ). nat_lt (length s) (least_length grid_types n)) type_stands
      ∙ le-ltb (length s) (least_length grid_types t) (let low = is.least in let start_at = is.start_is in omega (arith, length_2, low, start_at))

  rows_row : (nj s == 65535) ≡ false
  rows_row = ne_eqb (nj s) 65535 (λ same. let few = is.rows_few in omega (arith, rows_stand, same, few))

  regular_row : (lists_rows s && is_regular (grid_type s)) ≡ false
  regular_row = ap₂ (λ (b : Bool) (n : ℕ). b && is_regular n) listed_stands type_stands ∙ by listed refl where
    by : (b : Bool) → listed ≡ b → (listed && is_regular t) ≡ false
    by true e = ap (λ (l : Bool). l && is_regular t) e ∙ is.irregular e
    by false e = ap (λ (l : Bool). l && is_regular t) e

  placed : listed ≡ true → place ≡ start
  placed e = ap (λ (l : Bool). place_with count l start) e ∙ start_listed (count == 0) start

  place_row : (lists_rows s && (list_place s == 255)) ≡ false
  place_row = ap₂ (λ (b : Bool) (n : ℕ). b && (n == 255)) listed_stands place_stands ∙ by listed refl where
    by : (b : Bool) → listed ≡ b → (listed && (place == 255)) ≡ false
    by true e =
        ap (λ (l : Bool). l && (place == 255)) e
        ∙ ne_eqb place 255 (λ same. let few = is.start_few in omega (arith, placed e, same, few))
    by false e = ap (λ (l : Bool). l && (place == 255)) e

  -- where the lists stand
  abbrev rows_listed : ℕ
  rows_listed = cond listed rows 0

  list_is : length list ≡ 2 * rows_listed
  list_is = is.list_long ∙ by listed where
    by : (b : Bool) → cond b (2 * rows) 0 ≡ 2 * cond b rows 0
    by true = refl
    by false = omega arith

  ends_row : place ≡ start → (has_list s && (not (nat_lt (least_length grid_types (grid_type s)) (list_place s)) || nat_lt (length s) (lists_end s))) ≡ false
  ends_row there =
      let here : list_place s ≡ start = place_stands ∙ there in
      let low : not (nat_lt (least_length grid_types (grid_type s)) (list_place s)) ≡ false =
      ap₂ (λ (n p : ℕ). not (nat_lt (least_length grid_types n) p)) type_stands here ∙ ap not (lt-ltb (least_length grid_types t) start is.least) in
      let end : lists_end s ≡ start - 1 + 4 * count + 2 * rows_listed =
      ap₂ (λ (p c : ℕ). p - 1 + 4 * c + 2 * row_count s) here count_stands ∙ ap (λ (n : ℕ). start - 1 + 4 * count + 2 * n) row_count_stands in
      let high : nat_lt (length s) (lists_end s) ≡ false =
      ap (nat_lt (length s)) end
      ∙ le-ltb (length s) (start - 1 + 4 * count + 2 * rows_listed)
      (let start_at = is.start_is in let long = is.coordinates_long in omega (arith, length_2, start_at, long, list_is)) in
      ap₂ (λ (a b : Bool). has_list s && (a || b)) low high ∙ never (has_list s)
    where
      never : (b : Bool) → (b && false) ≡ false
      never true = refl
      never false = refl

  nothing_row : place ≡ 255 → (has_list s && (not (nat_lt (least_length grid_types (grid_type s)) (list_place s)) || nat_lt (length s) (lists_end s))) ≡ false
  nothing_row none =
      let off : (list_place s == 255) ≡ true = eq-eqb (list_place s) 255 (place_stands ∙ none) in
      ap (λ (b : Bool). (not b && (nat_lt 0 (nv s) || lists_rows s)) && (not (nat_lt (least_length grid_types (grid_type s)) (list_place s)) || nat_lt (length s) (lists_end s))) off

  lists_row : (has_list s && (not (nat_lt (least_length grid_types (grid_type s)) (list_place s)) || nat_lt (length s) (lists_end s))) ≡ false
  lists_row = by ((count == 0) && not listed) refl where
    by : (b : Bool) → ((count == 0) && not listed) ≡ b
        → (has_list s && (not (nat_lt (least_length grid_types (grid_type s)) (list_place s)) || nat_lt (length s) (lists_end s))) ≡ false
    by true e = nothing_row (ap (λ (b : Bool). cond b 255 start) e)
    by false e = ends_row (ap (λ (b : Bool). cond b 255 start) e)

  module _ (points : ℕ) (some : 1 ≤ points) (few : points ≤ MOST_POINTS) (total : grid_points s ≡ points) where
    points_row : (grid_points s == 0 || nat_lt MOST_POINTS (grid_points s)) ≡ false
    points_row = ap₂ ◌||◌ (ne_eqb (grid_points s) 0 (λ none. omega (arith, total, none, some))) (le-ltb MOST_POINTS (grid_points s) (omega (arith, total, few)))

    pub is_section_2 : length s ≤ 16777215 → IsSection 6 grid_rules s
    is_section_2 short = record {
      length_stands = stands (all_octets (header_with count place t columns rows) ++ (numbers ++ (coordinates ++ list))) (omega (arith, short));
      long = omega (arith, length_2);
      rules_hold = none_from_passes (grid_rules s) (known_row, (length_row, (rows_row, (regular_row, (place_row, (lists_row, (points_row, tt)))))));
    }

  pub plain_points : listed ≡ false → grid_points s ≡ columns * rows
  plain_points e = ap (λ (b : Bool). cond b (sum (row_list s)) (ni s * nj s)) (listed_stands ∙ e) ∙ ap₂ ◌*◌ columns_stand rows_stand

-- with a list of rows
module _ (count start t columns rows : ℕ) (numbers coordinates xs : List ℕ) (is : MayStand count start t columns rows true numbers coordinates (numbers_octets 2 xs))
    (fit : (k : ℕ) → k < length xs → get_or xs k 0 < 256 ^ 2) (as_many : length xs ≡ rows) where
  abbrev r : List ℕ
  r = section_2 count (place_with count true start) t columns rows numbers coordinates (numbers_octets 2 xs)

  pub list_stands : row_list r ≡ xs
  list_stands =
      let header = all_octets (header_with count (place_with count true start) t columns rows) in
      let size = length (header ++ (numbers ++ (coordinates ++ numbers_octets 2 xs))) in
      let front = octets_of 3 (3 + size) ++ (header ++ (numbers ++ coordinates)) in
      let list = numbers_octets 2 xs in
      let joined : r ≡ front ++ list = ap (λ (ys : List ℕ). octets_of 3 (3 + size) ++ (header ++ ys)) (sym (append_assoc numbers coordinates list)) in
      let long : length front ≡ 10 + length numbers + length coordinates = omega (arith, length-append numbers coordinates) in
      let first : list_place r + 4 * nv r ≡ start + 4 * count =
      ap₂ (λ (p n : ℕ). p + 4 * n) (place_stands count start t columns rows true numbers coordinates list is ∙ placed count start t columns rows true numbers coordinates list is refl)
      (count_stands count start t columns rows true numbers coordinates list is) in
      let many : row_count r ≡ length xs = row_count_stands count start t columns rows true numbers coordinates list is ∙ sym as_many in
      let place : start + 4 * count ≡ length front + 1 = (let start_at = is.start_is in let long_4 = is.coordinates_long in omega (arith, long, start_at, long_4)) in
      ap₂ (λ (f n : ℕ). numbers_at r f 2 n) first many ∙ ap (λ (ys : List ℕ). numbers_at ys (start + 4 * count) 2 (length xs)) joined
      ∙ sym (numbers_at-behind front 2 xs (start + 4 * count) place (omega arith) fit)

  pub listed_points : grid_points r ≡ sum xs
  listed_points =
      ap (λ (b : Bool). cond b (sum (row_list r)) (ni r * nj r)) (listed_stands count start t columns rows true numbers coordinates (numbers_octets 2 xs) is) ∙ ap sum list_stands
