-- What is known of a value that a section has which passes the rules.
use Rattle.std.proofs.Common.{◌≡◌, ℕ, ◌*◌, ◌^◌, ◌<◌, ◌≤◌, List, [], length, sum, All, sym, ap, ap₂, ◌∙◌, arith, subst, inl, inr, refl}
use Rattle.std.proofs.lemmas.Bool.{cases_lt}
use Rattle.std.proofs.lemmas.List.Elements.{All-from_get_or}
use Rattle.std.specs.Prelude.{None}
use Rattle.grib_bits.specs.Octets.{StatesItself}
use Rattle.grib_bits.specs.Listed.{numbers_at}
use Rattle.grib_bits.proofs.OctetBits.{AreOctets}
use Rattle.grib_bits.proofs.OctetNumbers.{octets-lt}
use Rattle.grib_bits.proofs.Listed.{AreOctets-from_All, All-from_AreOctets, length-numbers_at, numbers_at-lt}
use Rattle.grib_base.specs.Rules.{first_fault, first_fault_at}
use Rattle.grib_base.proofs.Passing.{passes_from_none, none-located}
use Rattle.grib2_sections.specs.Template.{least_length}
use Rattle.grib2_grids.specs.Grid.{grid_rules, grid_templates, grid_template, grid_points, list_octets, list_meaning, list_start, ni, nj, row_list, may_have_list}
use Rattle.grib2_grids.specs.Whole.{HasNumbers}
use Rattle.grib2_grids.specs.Spelled.{IsSectionOf, Spelled, common_of, written_length}
use Rattle.grib2_grids.specs.Writable.{ListsRows, ListsNone, IsWritable}
use Rattle.grib2_grids.specs.declared.grid.GridSection.{GridSection}
use Rattle.grib2_grids.proofs.Lists.{row_list-whole, row_list-none, list_start-some}
use Rattle.grib2_grids.proofs.Numbers.{has_numbers}
use Rattle.grib2_grids.proofs.Passing.{listed_test, plain_test, points_test, meaning_test, count_test, same_test}
use Rattle.grib2_grids.proofs.ByTemplate.{common_spelled, list_start-least}

module _ (value : GridSection) (s : List ℕ) (is : IsSectionOf value s) where
  known : AreOctets s
  known = AreOctets-from_All s is.small

  has : HasNumbers s
  has = has_numbers s is.rows

  nj_is : (common_of value.grid).nj ≡ nj s
  nj_is = (common_spelled value.grid s is.spelled.grid).nj

  ni_is : (common_of value.grid).ni ≡ ni s
  ni_is = (common_spelled value.grid s is.spelled.grid).ni

module _ (value : GridSection) (s : List ℕ) (is : IsSectionOf value s) where
  -- with a list there are Nj rows
  whole_list : 0 < list_octets s → value.rows ≡ numbers_at s (list_start s) (list_octets s) (nj s)
  whole_list some =
      is.spelled.rows ∙ sym (row_list-whole s (list_start s) (list_octets s) (nj s) (has value s is).list refl refl refl some)

  row_count : 0 < list_octets s → length value.rows ≡ nj s
  row_count some = ap length (whole_list some) ∙ length-numbers_at s (list_start s) (list_octets s) (nj s)

  -- and without one none
  no_rows : list_octets s ≡ 0 → value.rows ≡ []
  no_rows none = is.spelled.rows ∙ row_list-none s none

module _ (value : GridSection) (s : List ℕ) (is : IsSectionOf value s) where
  -- the section is no shorter than what is written
  within : written_length value ≤ length s
  within =
      let template = ap (least_length grid_templates) is.spelled.template in
      elim (cases_lt 0 (list_octets s)) as (λ _. written_length value ≤ length s) [
        | inl some ↦
            let listed = ap₂ ◌*◌ is.spelled.list_octets (row_count value s is some) in
            let start = list_start-least (grid_template s) ((has value s is).may_list some) in
            omega (arith, (has value s is).list.long some)
        | inr none ↦
            let listed = ap (λ (rows : List ℕ). value.list_octets * length rows) (no_rows value s is (omega arith)) in
            omega (arith, (has value s is).template.long)
      ]

  length-lt : length s < 2 ^ 32
  length-lt =
      let below = octets-lt s 1 4 4 (known value s is) (omega arith) (omega arith) (omega (arith, is.itself.least)) in
      omega (arith, is.itself.length_stands)

  nj-lt : 0 < list_octets s → (1 ≤ nj s) × (nj s < 4294967295)
  nj-lt some =
      let rules = passes_from_none (grid_rules s) is.rows in
      let test = listed_test (list_octets s) _ rules.1.1.1.1.1.1.1.0 some in
      let start = list_start-least (grid_template s) ((has value s is).may_list some) in
      let far = list_start-some s in
      let fits = octets-lt s 35 38 4 (known value s is) (omega arith) (omega arith) (omega (arith, (has value s is).template.long)) in
      count_test (nj s) test (omega arith)

  -- each rule fits its octets
  rows_fit : 0 < list_octets s → All (λ (row : ℕ). row < 256 ^ value.list_octets) value.rows
  rows_fit some =
      let f = list_start s in
      let size = list_octets s in
      let start = list_start-some s in
      let long = (has value s is).list.long some in
      let Fit : ℕ → List ℕ → Type 0 = λ n rows. All (λ (row : ℕ). row < 256 ^ n) rows in
      let fit = All-from_get_or (λ (row : ℕ). row < 256 ^ size) (numbers_at s f size (nj s)) 0
      (λ k below. numbers_at-lt s f size (nj s) (known value s is) (omega arith) some (omega arith) k (omega (arith, length-numbers_at s f size (nj s)))) in
      let again = subst (Fit size) (sym (whole_list value s is some)) fit in
      let Fits : ℕ → Type 0 = λ n. Fit n value.rows in
      subst Fits (sym is.spelled.list_octets) again

module _ (value : GridSection) (s : List ℕ) (is : IsSectionOf value s) where
  lists_rows : 0 < list_octets s → ListsRows value
  lists_rows some =
      let rules = passes_from_none (grid_rules s) is.rows in
      let meaning = meaning_test (list_octets s) (list_meaning s) rules.1.1.1.1.1.0 some in
      let count = row_count value s is some in
      let bounds = nj-lt value s is some in
      record {
        meaning = elim meaning [ inl e ↦ inl (is.spelled.list_meaning ∙ e) | inr e ↦ inr (is.spelled.list_meaning ∙ e) ];
        word = omega (arith, (has value s is).list.word, is.spelled.list_octets);
        template = ap may_have_list is.spelled.template ∙ (has value s is).may_list some;
        count = count ∙ sym (nj_is value s is);
        some = omega (arith, count, bounds.0);
        known = omega (arith, count, bounds.1);
        fit = rows_fit value s is some;
        points = ap sum is.spelled.rows ∙ same_test (sum (row_list s)) (grid_points s) (listed_test (list_octets s) _ rules.1.1.1.1.1.1.1.1.1.0 some) ∙ sym is.spelled.points;
      }

  lists_none : list_octets s ≡ 0 → ListsNone value
  lists_none none =
      let rules = passes_from_none (grid_rules s) is.rows in
      record {
        rows = no_rows value s is none;
        points = ap₂ ◌*◌ (ni_is value s is) (nj_is value s is)
            ∙ same_test (ni s * nj s) (grid_points s) (plain_test (list_octets s) _ rules.1.1.1.1.1.1.1.1.1.1.0 none) ∙ sym is.spelled.points;
      }

  pub writable : IsWritable value
  writable =
      let rules = passes_from_none (grid_rules s) is.rows in
      let points = points_test (grid_points s) rules.1.1.1.1.0 in
      record {
        some = omega (arith, points.0, is.spelled.points);
        few = omega (arith, points.1, is.spelled.points);
        listed = λ some. lists_rows (omega (arith, some, is.spelled.list_octets));
        plain = λ none. lists_none (omega (arith, none, is.spelled.list_octets));
        short = omega (arith, within value s is, length-lt value s is);
      }

-- what `read_grid` answers for octets is what they are a section of
pub IsSectionOf-read : (start : ℕ) (value : GridSection) (s : List ℕ) → AreOctets s → StatesItself 3 s → first_fault_at start (grid_rules s) ≡ None → Spelled value s → IsSectionOf value s
IsSectionOf-read start value s octets itself rows spelled = record {
  small = All-from_AreOctets s octets;
  itself = itself;
  rows = none-located start (first_fault (grid_rules s)) rows;
  spelled = spelled;
}
