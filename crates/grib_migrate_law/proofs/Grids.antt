-- Section 3 as it is written passes its rules.
use Rattle.std.proofs.Common.{◌≡◌, ℕ, ◌+◌, ◌-◌, ◌*◌, ◌/◌, ◌^◌, ◌<◌, ◌≤◌, ◌⊎◌, ◌&&◌, ◌||◌, ◌==◌, Bool, true, false, not, cond, min, None, List, [], ◌∷◌, ◌++◌, length, take, drop, sum, nat_lt, refl, sym, ap, ap₂, ◌∙◌, subst, arith, inl, inr, le-ltb, eq-eqb, ne_eqb}
use Rattle.std.proofs.Math.Nat.{min-eq_left, eq-zero-or-pos}
use Rattle.std.proofs.lemmas.Bool.{eqb-true}
use Rattle.std.proofs.lemmas.List.{length-append, length-take, length-take-le, length-drop}
use Rattle.grib_bits.specs.Bits.{bit, digit}
use Rattle.grib_bits.specs.Octets.{octets, StatesItself}
use Rattle.grib_bits.specs.Encoding.{octets_of, section_of, all_octets, missing_1, missing_4}
use Rattle.grib_bits.specs.Listed.{numbers_at}
use Rattle.grib_bits.proofs.Encoding.{num_on-octets_of, StatesItself-section_of}
use Rattle.grib_bits.proofs.OctetBits.{AreOctets}
use Rattle.grib_bits.proofs.OctetNumbers.{octets-lt}
use Rattle.grib_base.specs.Rules.{first_fault}
use Rattle.grib_base.proofs.Passing.{passes_from_none, none_from_passes, second_fails}
use Rattle.grib_base.specs.declared.limits.TheConstants.{MOST_POINTS}
use Rattle.grib2_sections.specs.Template.{is_template, least_length}
use Rattle.grib2_grids.specs.Grid.{grid_templates, grid_rules, grid_points, grid_template, may_have_list, list_start, row_list}
use Rattle.grib2_grids.specs.Grid as grid2
use Rattle.grib1_sections.specs.Grid.{grid_types, grid_type, ni, nj, nv, list_place, lists_rows, row_count, lists_end, is_regular}
use Rattle.grib1_sections.specs.Grid as grid1
use Rattle.grib_migrate.specs.Held.{HoldsGrid}
use Rattle.grib_bits.specs.declared.adding.Number.{Number}
use Rattle.grib_bits.specs.declared.adding.Number.TheVariants.{One, Two, Four}
use Rattle.grib_migrate.specs.Grids.{template_of, flags, mercator, polar, lambert, lat_lon, angle, three, centre, true_latitude, increment, row_octets, grid_octets}
use Rattle.grib_migrate.proofs.Grids.{few_octets}
use Rattle.grib_migrate_law.proofs.Lists.{numbers_moved}

-- ---- a section by its numbers

-- octets 6-14 and 15-38
abbrev header_with : Bool → ℕ → ℕ → List Number
header_with listed points t = One 0 ∷ Four points ∷ One (2 * digit listed) ∷ One (digit listed) ∷ Two t ∷ []

abbrev common_with : ℕ → ℕ → ℕ → List Number
common_with shape columns rows =
    One shape ∷ One missing_1 ∷ Four missing_4 ∷ One missing_1 ∷ Four missing_4 ∷ One missing_1 ∷ Four missing_4 ∷ Four columns ∷ Four rows ∷ []

abbrev section_with : Bool → ℕ → ℕ → ℕ → ℕ → ℕ → List ℕ → List ℕ → List ℕ
section_with listed points t shape columns rows numbers list =
    section_of 3 (all_octets (header_with listed points t) ++ (all_octets (common_with shape columns rows) ++ (numbers ++ list)))

-- what stands before the list
abbrev front_with : Bool → ℕ → ℕ → ℕ → ℕ → ℕ → List ℕ → ℕ → List ℕ
front_with listed points t shape columns rows numbers size =
    octets_of 4 (5 + size) ++ 3 ∷ (all_octets (header_with listed points t) ++ (all_octets (common_with shape columns rows) ++ numbers))

-- a template of the profile, as a whole
record IsTemplate (t : ℕ) (numbers : List ℕ) : Type 0 where
  small : t < 65536
  known : is_template grid_templates t ≡ true
  long : 38 + length numbers ≡ least_length grid_templates t

module _ (listed : Bool) (points t shape columns rows : ℕ) (numbers list : List ℕ) (some : 1 ≤ points) (few : points ≤ MOST_POINTS) (is : IsTemplate t numbers)
    (columns_fit : columns < 2 ^ 32) (rows_fit : rows < 2 ^ 32) where
  points_stand : grid_points (section_with listed points t shape columns rows numbers list) ≡ points
  points_stand = num_on-octets_of 4 points (omega arith)

  template_stands : grid_template (section_with listed points t shape columns rows numbers list) ≡ t
  template_stands = num_on-octets_of 2 t is.small

  columns_stand : grid2.ni (section_with listed points t shape columns rows numbers list) ≡ columns
  columns_stand = num_on-octets_of 4 columns columns_fit

  rows_stand : grid2.nj (section_with listed points t shape columns rows numbers list) ≡ rows
  rows_stand = num_on-octets_of 4 rows rows_fit

  length-with : length (section_with listed points t shape columns rows numbers list) ≡ 38 + length numbers + length list
  length-with = omega (arith, length-append numbers list)

  long_enough : nat_lt (length (section_with listed points t shape columns rows numbers list)) 14 ≡ false
  long_enough = le-ltb (length (section_with listed points t shape columns rows numbers list)) 14 (omega (arith, length-with))

  template_known : not (is_template grid_templates (grid_template (section_with listed points t shape columns rows numbers list))) ≡ false
  template_known = ap (λ (n : ℕ). not (is_template grid_templates n)) template_stands ∙ ap not is.known

  template_whole :
      nat_lt (length (section_with listed points t shape columns rows numbers list)) (least_length grid_templates (grid_template (section_with listed points t shape columns rows numbers list))) ≡ false
  template_whole =
      let l = length (section_with listed points t shape columns rows numbers list) in
      ap (λ (n : ℕ). nat_lt l (least_length grid_templates n)) template_stands
      ∙ le-ltb l (least_length grid_templates t) (omega (arith, is.long, length-with))

  counted : (grid_points (section_with listed points t shape columns rows numbers list) == 0 || nat_lt MOST_POINTS (grid_points (section_with listed points t shape columns rows numbers list))) ≡ false
  counted =
      let n = grid_points (section_with listed points t shape columns rows numbers list) in
      ap₂ ◌||◌ (ne_eqb n 0 (λ none. omega (arith, points_stand, none))) (le-ltb MOST_POINTS n (omega (arith, points_stand)))

-- ---- without a list

module _ (points t shape columns rows : ℕ) (numbers list : List ℕ) (some : 1 ≤ points) (few : points ≤ MOST_POINTS) (is : IsTemplate t numbers)
    (columns_fit : columns < 2 ^ 32) (rows_fit : rows < 2 ^ 32) (product : columns * rows ≡ points) where
  agreed :
      not (grid2.ni (section_with false points t shape columns rows numbers list) * grid2.nj (section_with false points t shape columns rows numbers list)
      == grid_points (section_with false points t shape columns rows numbers list)) ≡ false
  agreed =
      let s = section_with false points t shape columns rows numbers list in
      let same : grid2.ni s * grid2.nj s ≡ grid_points s =
      ap₂ ◌*◌ (columns_stand false points t shape columns rows numbers list some few is columns_fit rows_fit)
      (rows_stand false points t shape columns rows numbers list some few is columns_fit rows_fit) ∙ product
      ∙ sym (points_stand false points t shape columns rows numbers list some few is columns_fit rows_fit) in
      ap not (eq-eqb (grid2.ni s * grid2.nj s) (grid_points s) same)

  plain_passes : first_fault (grid_rules (section_with false points t shape columns rows numbers list)) ≡ None
  plain_passes = none_from_passes (grid_rules (section_with false points t shape columns rows numbers list)) (
    long_enough false points t shape columns rows numbers list some few is columns_fit rows_fit,
    (
      refl,
      (
        template_known false points t shape columns rows numbers list some few is columns_fit rows_fit,
        (
          template_whole false points t shape columns rows numbers list some few is columns_fit rows_fit,
          (
            counted false points t shape columns rows numbers list some few is columns_fit rows_fit,
            (refl, (refl, (refl, (refl, (refl, (agreed, tt)))))),
          ),
        ),
      ),
    ),
  )

-- ---- with a list

-- where a list begins
abbrev start_for : ℕ → ℕ
start_for t = cond (t == 1) 85 73

-- a template that may have a list, which begins at octet 73
record MayList (t : ℕ) : Type 0 where
  may : may_have_list t ≡ true
  start : start_for t ≡ 73
  long : least_length grid_templates t ≡ 72

module _ (points t shape columns rows : ℕ) (numbers s : List ℕ) (at count : ℕ) (some : 1 ≤ points) (few : points ≤ MOST_POINTS) (is : IsTemplate t numbers)
    (columns_fit : columns < 2 ^ 32) (rows_few : rows < 65536) (lists : MayList t) (counts : count ≡ rows) (within : at + 2 * count ≤ length s)
    (total : sum (numbers_at s (at + 1) 2 count) ≡ points) where
  rows_fit : rows < 2 ^ 32
  rows_fit = omega arith

  length-list : length (take (2 * count) (drop at s)) ≡ 2 * rows
  length-list = length-take-le (2 * count) (drop at s) (omega (arith, length-drop at s)) ∙ ap (λ (n : ℕ). 2 * n) counts

  length-listed : length (section_with true points t shape columns rows numbers (take (2 * count) (drop at s))) ≡ 72 + 2 * rows
  length-listed =
      omega (arith, length-with true points t shape columns rows numbers (take (2 * count) (drop at s)) some few is columns_fit rows_fit, length-list, is.long, lists.long)

  start_stands : list_start (section_with true points t shape columns rows numbers (take (2 * count) (drop at s))) ≡ 73
  start_stands =
      ap start_for (template_stands true points t shape columns rows numbers (take (2 * count) (drop at s)) some few is columns_fit rows_fit)
      ∙ lists.start

  nj_stands : grid2.nj (section_with true points t shape columns rows numbers (take (2 * count) (drop at s))) ≡ rows
  nj_stands = rows_stand true points t shape columns rows numbers (take (2 * count) (drop at s)) some few is columns_fit rows_fit

  some_rows : 1 ≤ rows
  some_rows = by (eq-zero-or-pos rows)
    where
      by : (rows ≡ 0) ⊎ (0 < rows) → 1 ≤ rows
      by (inl none) =
          let empty : sum (numbers_at s (at + 1) 2 count) ≡ 0 = ap (λ (n : ℕ). sum (numbers_at s (at + 1) 2 n)) (counts ∙ none) in
          absurd (omega (arith, empty, total, some))
      by (inr h) = h

  list_stands : row_list (section_with true points t shape columns rows numbers (take (2 * count) (drop at s))) ≡ numbers_at s (at + 1) 2 count
  list_stands =
      let list = take (2 * count) (drop at s) in
      let w = section_with true points t shape columns rows numbers list in
      let size = length (all_octets (header_with true points t) ++ (all_octets (common_with shape columns rows) ++ (numbers ++ list))) in
      let front = front_with true points t shape columns rows numbers size in
      let room : rows ≤ (length w + 1 - 73) / 2 = omega (arith, length-listed) in
      let long : 73 ≡ length front + 1 = omega (arith, is.long, lists.long) in
      ap₂ (λ (f n : ℕ). numbers_at w f 2 (min n ((length w + 1 - f) / 2))) start_stands nj_stands
      ∙ ap (numbers_at w 73 2) (min-eq_left room ∙ sym counts) ∙ numbers_moved front s 73 at count long

  may_list : (nat_lt 4 2 || (true && not (may_have_list (grid_template (section_with true points t shape columns rows numbers (take (2 * count) (drop at s))))))) ≡ false
  may_list =
      ap (λ (n : ℕ). not (may_have_list n)) (template_stands true points t shape columns rows numbers (take (2 * count) (drop at s)) some few is columns_fit rows_fit)
      ∙ ap not lists.may

  rows_known :
      (grid2.nj (section_with true points t shape columns rows numbers (take (2 * count) (drop at s))) == 0
      || grid2.nj (section_with true points t shape columns rows numbers (take (2 * count) (drop at s))) == 4294967295) ≡ false
  rows_known =
      let n = grid2.nj (section_with true points t shape columns rows numbers (take (2 * count) (drop at s))) in
      let low = some_rows in
      ap₂ ◌||◌ (ne_eqb n 0 (λ same. omega (arith, nj_stands, same, low))) (ne_eqb n 4294967295 (λ same. omega (arith, nj_stands, same, rows_few)))

  list_within :
      (let w = section_with true points t shape columns rows numbers (take (2 * count) (drop at s)) in
      nat_lt (length w) (list_start w - 1 + 2 * grid2.nj w) ≡ false)
  list_within =
      let w = section_with true points t shape columns rows numbers (take (2 * count) (drop at s)) in
      ap₂ (λ (f n : ℕ). nat_lt (length w) (f - 1 + 2 * n)) start_stands nj_stands ∙ le-ltb (length w) (73 - 1 + 2 * rows) (omega (arith, length-listed))

  list_sums :
      (let w = section_with true points t shape columns rows numbers (take (2 * count) (drop at s)) in
      not (sum (row_list w) == grid_points w) ≡ false)
  list_sums =
      let list = take (2 * count) (drop at s) in
      let w = section_with true points t shape columns rows numbers list in
      ap not (eq-eqb (sum (row_list w)) (grid_points w)
      (ap sum list_stands ∙ total ∙ sym (points_stand true points t shape columns rows numbers list some few is columns_fit rows_fit)))

  listed_passes : first_fault (grid_rules (section_with true points t shape columns rows numbers (take (2 * count) (drop at s)))) ≡ None
  listed_passes =
      let list = take (2 * count) (drop at s) in
      none_from_passes (grid_rules (section_with true points t shape columns rows numbers list)) (
        long_enough true points t shape columns rows numbers list some few is columns_fit rows_fit,
        (
          refl,
          (
            template_known true points t shape columns rows numbers list some few is columns_fit rows_fit,
            (
              template_whole true points t shape columns rows numbers list some few is columns_fit rows_fit,
              (
                counted true points t shape columns rows numbers list some few is columns_fit rows_fit,
                (refl, (may_list, (rows_known, (list_within, (list_sums, (refl, tt)))))),
              ),
            ),
          ),
        ),
      )

-- ---- the types of grid

abbrev numbers_for : List ℕ → ℕ → List Number
numbers_for s t =
    cond (t == 1) (mercator s)
    (cond (t == 3) (polar s (angle (three s 29)) ++ lambert s)
    (cond (t == 4) (lat_lon s (octets s 26 27)) (cond (t == 5) (polar s (true_latitude (centre s))) (lat_lon s (increment s 26)))))

abbrev Type5 : ℕ → Type 0
Type5 t = (t ≡ 0) ⊎ ((t ≡ 1) ⊎ ((t ≡ 3) ⊎ ((t ≡ 4) ⊎ (t ≡ 5))))

which_by : (t : ℕ) (a b c d e : Bool) → (0 == t) ≡ a → (1 == t) ≡ b → (3 == t) ≡ c → (4 == t) ≡ d → (5 == t) ≡ e → (a || (b || (c || (d || (e || false))))) ≡ true → Type5 t
which_by t true b c d e ea eb ec ed ee h = inl (sym (eqb-true 0 t ea))
which_by t false true c d e ea eb ec ed ee h = inr (inl (sym (eqb-true 1 t eb)))
which_by t false false true d e ea eb ec ed ee h = inr (inr (inl (sym (eqb-true 3 t ec))))
which_by t false false false true e ea eb ec ed ee h = inr (inr (inr (inl (sym (eqb-true 4 t ed)))))
which_by t false false false false true ea eb ec ed ee h = inr (inr (inr (inr (sym (eqb-true 5 t ee)))))
which_by t false false false false false ea eb ec ed ee h = absurd (cc)

which : (t : ℕ) → is_template grid_types t ≡ true → Type5 t
which t h = which_by t (0 == t) (1 == t) (3 == t) (4 == t) (5 == t) refl refl refl refl refl h

template_for : (s : List ℕ) (t : ℕ) → Type5 t → IsTemplate (template_of t) (all_octets (numbers_for s t))
template_for s t (inl e) =
    subst (λ (n : ℕ). IsTemplate (template_of n) (all_octets (numbers_for s n))) (sym e) (record { small = omega arith; known = refl; long = refl })
template_for s t (inr (inl e)) =
    subst (λ (n : ℕ). IsTemplate (template_of n) (all_octets (numbers_for s n))) (sym e) (record { small = omega arith; known = refl; long = refl })
template_for s t (inr (inr (inl e))) =
    subst (λ (n : ℕ). IsTemplate (template_of n) (all_octets (numbers_for s n))) (sym e) (record { small = omega arith; known = refl; long = refl })
template_for s t (inr (inr (inr (inl e)))) =
    subst (λ (n : ℕ). IsTemplate (template_of n) (all_octets (numbers_for s n))) (sym e) (record { small = omega arith; known = refl; long = refl })
template_for s t (inr (inr (inr (inr e)))) =
    subst (λ (n : ℕ). IsTemplate (template_of n) (all_octets (numbers_for s n))) (sym e) (record { small = omega arith; known = refl; long = refl })

list_for : (t : ℕ) → Type5 t → is_regular t ≡ false → MayList (template_of t)
list_for t (inl e) free = subst (λ (n : ℕ). MayList (template_of n)) (sym e) (record { may = refl; start = refl; long = refl })
list_for t (inr (inl e)) free = let both : true ≡ false = sym (ap is_regular e) ∙ free in absurd (cc)
list_for t (inr (inr (inl e))) free = let both : true ≡ false = sym (ap is_regular e) ∙ free in absurd (cc)
list_for t (inr (inr (inr (inl e)))) free = subst (λ (n : ℕ). MayList (template_of n)) (sym e) (record { may = refl; start = refl; long = refl })
list_for t (inr (inr (inr (inr e)))) free = let both : true ≡ false = sym (ap is_regular e) ∙ free in absurd (cc)

-- ---- the section of a grid

module _ (s : List ℕ) (points : ℕ) (known : AreOctets s) (passes : first_fault (grid1.grid_rules s) ≡ None) (holds : HoldsGrid s) (is : points ≡ grid1.grid_points s)
    (some : 1 ≤ points) (few : points ≤ MOST_POINTS) where
  ni_fits : ni s < 65536
  ni_fits = let long = holds.least in octets-lt s 7 8 2 known (omega arith) (omega arith) (omega arith)

  nj_fits : nj s < 65536
  nj_fits = let long = holds.least in octets-lt s 9 10 2 known (omega arith) (omega arith) (omega arith)

  type_is : Type5 (grid_type s)
  type_is = which (grid_type s) holds.known

  template_is : IsTemplate (template_of (grid_type s)) (all_octets (numbers_for s (grid_type s)))
  template_is = template_for s (grid_type s) type_is

  columns_by : (b : Bool) → cond b missing_4 (ni s) < 2 ^ 32
  columns_by true = omega arith
  columns_by false = let fits = ni_fits in omega arith

  section_by : (b : Bool) → lists_rows s ≡ b
      → first_fault (grid_rules (section_with (lists_rows s) points (template_of (grid_type s)) (2 * digit (bit 2 (flags s)))
      (cond (lists_rows s) missing_4 (ni s)) (nj s) (all_octets (numbers_for s (grid_type s))) (row_octets s))) ≡ None
  section_by false e =
      let columns = cond (lists_rows s) missing_4 (ni s) in
      let columns_are : columns ≡ ni s = ap (λ (b : Bool). cond b missing_4 (ni s)) e in
      let points_are : grid1.grid_points s ≡ ni s * nj s = ap (λ (b : Bool). cond b (sum (grid1.row_list s)) (ni s * nj s)) e in
      let product : columns * nj s ≡ points = ap (λ (n : ℕ). n * nj s) columns_are ∙ sym points_are ∙ sym is in
      subst (λ (b : Bool). first_fault (grid_rules (section_with b points (template_of (grid_type s)) (2 * digit (bit 2 (flags s))) columns (nj s)
      (all_octets (numbers_for s (grid_type s))) (row_octets s))) ≡ None) (sym e)
      (plain_passes points (template_of (grid_type s)) (2 * digit (bit 2 (flags s))) columns (nj s) (all_octets (numbers_for s (grid_type s))) (row_octets s)
      some few template_is (columns_by (lists_rows s)) (let fits = nj_fits in omega arith) product)
  section_by true e =
      let columns = cond (lists_rows s) missing_4 (ni s) in
      let at = list_place s - 1 + 4 * nv s in
      let rows_are : row_count s ≡ nj s = ap (λ (b : Bool). cond b (nj s) 0) e in
      let points_are : grid1.grid_points s ≡ sum (grid1.row_list s) = ap (λ (b : Bool). cond b (sum (grid1.row_list s)) (ni s * nj s)) e in
      let low = holds.placed e in
      let ends = holds.lists e in
      let place : at + 1 ≡ list_place s + 4 * nv s = omega arith in
      let total : sum (numbers_at s (at + 1) 2 (row_count s)) ≡ points =
      ap (λ (n : ℕ). sum (numbers_at s n 2 (row_count s))) place ∙ sym points_are ∙ sym is in
      let p = passes_from_none (grid1.grid_rules s) passes in
      let free : is_regular (grid_type s) ≡ false = second_fails (lists_rows s) (is_regular (grid_type s)) p.1.1.1.0 e in
      subst (λ (b : Bool). first_fault (grid_rules (section_with b points (template_of (grid_type s)) (2 * digit (bit 2 (flags s))) columns (nj s)
      (all_octets (numbers_for s (grid_type s))) (row_octets s))) ≡ None) (sym e)
      (listed_passes points (template_of (grid_type s)) (2 * digit (bit 2 (flags s))) columns (nj s) (all_octets (numbers_for s (grid_type s))) s at (row_count s)
      some few template_is (columns_by (lists_rows s)) nj_fits (list_for (grid_type s) type_is free) rows_are ends total)

  pub grid_passes : first_fault (grid_rules (section_of 3 (grid_octets points s))) ≡ None
  grid_passes = section_by (lists_rows s) refl

  pub grid_points_stand : grid_points (section_of 3 (grid_octets points s)) ≡ points
  grid_points_stand = num_on-octets_of 4 points (omega arith)

  length-rows : length (row_octets s) ≤ 131070
  length-rows = by (lists_rows s)
    where
      by : (b : Bool) → length (take (2 * cond b (nj s) 0) (drop (list_place s - 1 + 4 * nv s) s)) ≤ 131070
      by true = let fits = nj_fits in omega (arith, length-take (2 * nj s) (drop (list_place s - 1 + 4 * nv s) s))
      by false = omega arith

  length-grid : length (grid_octets points s) ≤ 131500
  length-grid = few_octets s points (grid_octets points s) (row_octets s) refl length-rows refl

  pub grid_itself : StatesItself 3 (section_of 3 (grid_octets points s))
  grid_itself = StatesItself-section_of 3 (grid_octets points s) (omega (arith, length-grid))

  pub grid_short : length (section_of 3 (grid_octets points s)) ≤ 131600
  grid_short = omega (arith, length-grid)
