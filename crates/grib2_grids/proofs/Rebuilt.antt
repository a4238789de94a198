-- A section that is written from a value has the value again.
use Rattle.std.proofs.Common.{◌≡◌, ℕ, ◌+◌, ◌-◌, ◌*◌, ◌^◌, ◌<◌, ◌≤◌, true, false, not, ◌||◌, ◌⊎◌, eqb, cond, ◌++◌, length, get_or, sum, All, refl, sym, ap, ap₂, ◌∙◌, arith, inl, inr, le-ltb}
use Rattle.std.proofs.lemmas.Bool.{cases_lt}
use Rattle.std.proofs.lemmas.List.{length-append}
use Rattle.std.proofs.lemmas.List.Elements.{All-get_or}
use Rattle.std.specs.Prelude.{None}
use Rattle.grib_bits.specs.Listed.{numbers_octets}
use Rattle.grib_bits.proofs.Listed.{length-numbers_octets, numbers_at-behind}
use Rattle.grib_base.specs.Rules.{first_fault}
use Rattle.grib_base.proofs.Passing.{none_from_passes}
use Rattle.grib2_sections.specs.Template.{least_length, is_template}
use Rattle.grib2_grids.specs.Grid.{grid_rules, grid_templates, grid_template, grid_points, list_octets, list_meaning, list_start, ni, nj, row_list, may_have_list}
use Rattle.grib2_grids.specs.Whole.{HasList}
use Rattle.grib2_grids.specs.Spelled.{IsSectionOf, Spelled, SpelledTemplate, template_of, common_of, written_length}
use Rattle.grib2_grids.specs.Writable.{IsWritable}
use Rattle.grib2_grids.specs.Written.{SpelledHeader, header, template_octets, section_of_grid}
use Rattle.grib2_grids.specs.declared.grid.GridSection.{GridSection}
use Rattle.grib2_grids.proofs.Lists.{row_list-whole, row_list-none}
use Rattle.grib2_grids.proofs.Passing.{test_listed, test_plain, test_points, test_meaning, test_octets, test_count, test_same}
use Rattle.grib2_grids.proofs.ByTemplate.{common_spelled, length-template_octets, template_known, list_start-least}

-- ---- a value that can be written

module _ (value : GridSection) (w : IsWritable value) where
  pub word : value.list_octets ≤ 4
  word = elim (cases_lt 0 value.list_octets) as (λ _. value.list_octets ≤ 4) [ inl some ↦ (w.listed some).word | inr none ↦ omega arith ]

  pub row-lt : (k : ℕ) → k < length value.rows → get_or value.rows k 0 < 256 ^ value.list_octets
  row-lt k below = elim (cases_lt 0 value.list_octets) as (λ _. get_or value.rows k 0 < 256 ^ value.list_octets) [
    | inl some ↦ All-get_or (λ (row : ℕ). row < 256 ^ value.list_octets) value.rows k 0 below (w.listed some).fit
    | inr none ↦ let empty = ap length (w.plain (omega arith)).rows in absurd (omega arith)
  ]

  pub rows-lt : length value.rows < 2 ^ 32
  rows-lt = elim (cases_lt 0 value.list_octets) as (λ _. length value.rows < 2 ^ 32) [
    | inl some ↦ omega (arith, (w.listed some).known)
    | inr none ↦ let empty = ap length (w.plain (omega arith)).rows in omega arith
  ]

pub length-section_of_grid : (value : GridSection) → length (section_of_grid value) ≡ written_length value
length-section_of_grid value =
    let front = header (written_length value) value.points value.list_octets value.list_meaning (template_of value.grid) ++ template_octets value.grid in
    let template = length-template_octets value.grid in
    omega (arith, length-append front (numbers_octets value.list_octets value.rows), length-numbers_octets value.list_octets value.rows)

-- ---- the section that is written

module _ (value : GridSection) (w : IsWritable value)
    (h : SpelledHeader (written_length value) value.points value.list_octets value.list_meaning (template_of value.grid) (section_of_grid value))
    (g : SpelledTemplate value.grid (section_of_grid value)) where
  nj_new : nj (section_of_grid value) ≡ (common_of value.grid).nj
  nj_new = sym (common_spelled value.grid (section_of_grid value) g).nj

  ni_new : ni (section_of_grid value) ≡ (common_of value.grid).ni
  ni_new = sym (common_spelled value.grid (section_of_grid value) g).ni

  size_new : list_octets (section_of_grid value) ≡ value.list_octets
  size_new = sym h.list_octets_octets

  start_new : 0 < value.list_octets → least_length grid_templates (template_of value.grid) + 1 ≡ list_start (section_of_grid value)
  start_new some =
      list_start-least (template_of value.grid) (w.listed some).template ∙ ap (λ (t : ℕ). cond (eqb t 1) 85 73) h.template_number

  -- the list of the section is whole
  long_new : 0 < value.list_octets
      → list_start (section_of_grid value) - 1 + list_octets (section_of_grid value) * nj (section_of_grid value) ≤ length (section_of_grid value)
  long_new some =
      let listed : list_octets (section_of_grid value) * nj (section_of_grid value) ≡ value.list_octets * length value.rows =
      ap₂ ◌*◌ size_new (nj_new ∙ sym (w.listed some).count) in
      omega (arith, start_new some, length-section_of_grid value)

  has_list_new : HasList (section_of_grid value)
  has_list_new = record {
    word = omega (arith, word value w, size_new);
    long = λ some. long_new (omega (arith, some, size_new));
  }

  list_new : value.rows ≡ row_list (section_of_grid value)
  list_new = elim (cases_lt 0 value.list_octets) as (λ _. value.rows ≡ row_list (section_of_grid value)) [
    | inl some ↦
        let front = header (written_length value) value.points value.list_octets value.list_meaning (template_of value.grid) ++ template_octets value.grid in
        let template = length-template_octets value.grid in
        let place : list_start (section_of_grid value) ≡ length front + 1 = omega (arith, start_new some) in
        numbers_at-behind front value.list_octets value.rows (list_start (section_of_grid value)) place some (row-lt value w)
        ∙ row_list-whole (section_of_grid value) (list_start (section_of_grid value)) value.list_octets (length value.rows) has_list_new refl
        h.list_octets_octets ((w.listed some).count ∙ sym nj_new) some
    | inr none ↦
        let no_list : value.list_octets ≡ 0 = omega arith in
        (w.plain no_list).rows ∙ sym (row_list-none (section_of_grid value) (size_new ∙ no_list))
  ]

  again : Spelled value (section_of_grid value)
  again = record {
    source = h.source_octets;
    points = h.points_octets;
    list_octets = h.list_octets_octets;
    list_meaning = h.list_meaning_octets;
    template = h.template_number;
    grid = g;
    rows = list_new;
  }

  -- no rule of the profile refuses it
  least_new : least_length grid_templates (grid_template (section_of_grid value)) ≤ length (section_of_grid value)
  least_new =
      let template = ap (least_length grid_templates) h.template_number in
      omega (arith, length-section_of_grid value)

  may_new : 0 < list_octets (section_of_grid value) → may_have_list (grid_template (section_of_grid value)) ≡ true
  may_new some = ap may_have_list (sym h.template_number) ∙ (w.listed (omega (arith, some, size_new))).template

  count_new : 0 < list_octets (section_of_grid value) → (eqb (nj (section_of_grid value)) 0 || eqb (nj (section_of_grid value)) 4294967295) ≡ false
  count_new some =
      let listed = w.listed (omega (arith, some, size_new)) in
      test_count (nj (section_of_grid value)) (omega (arith, nj_new, listed.count, listed.some)) (omega (arith, nj_new, listed.count, listed.known))

  sum_new : 0 < list_octets (section_of_grid value) → not (eqb (sum (row_list (section_of_grid value))) (grid_points (section_of_grid value))) ≡ false
  sum_new some =
      test_same (sum (row_list (section_of_grid value))) (grid_points (section_of_grid value))
      (ap sum (sym list_new) ∙ (w.listed (omega (arith, some, size_new))).points ∙ h.points_octets)

  product_new : list_octets (section_of_grid value) ≡ 0 → not (eqb (ni (section_of_grid value) * nj (section_of_grid value)) (grid_points (section_of_grid value))) ≡ false
  product_new none =
      test_same (ni (section_of_grid value) * nj (section_of_grid value)) (grid_points (section_of_grid value))
      (ap₂ ◌*◌ ni_new nj_new ∙ (w.plain (sym size_new ∙ none)).points ∙ h.points_octets)

  meaning_new : 0 < list_octets (section_of_grid value) → (list_meaning (section_of_grid value) ≡ 1) ⊎ (list_meaning (section_of_grid value) ≡ 2)
  meaning_new some = elim (w.listed (omega (arith, some, size_new))).meaning [ inl e ↦ inl (sym h.list_meaning_octets ∙ e) | inr e ↦ inr (sym h.list_meaning_octets ∙ e) ]

  passes_new : first_fault (grid_rules (section_of_grid value)) ≡ None
  passes_new =
      let s = section_of_grid value in
      let long = length-section_of_grid value in
      let template = length-template_octets value.grid in
      none_from_passes (grid_rules s) (
        le-ltb (length s) 14 (omega arith),
        (
          ap (λ (n : ℕ). not (eqb n 0)) (sym h.source_octets),
          (
            ap (λ (n : ℕ). not (is_template grid_templates n)) (sym h.template_number) ∙ template_known value.grid,
            (
              le-ltb (length s) (least_length grid_templates (grid_template s)) least_new,
              (
                test_points (grid_points s) (omega (arith, h.points_octets, w.some)) (omega (arith, h.points_octets, w.few)),
                (
                  test_meaning (list_octets s) (list_meaning s) meaning_new,
                  (
                    test_octets (list_octets s) (may_have_list (grid_template s)) (omega (arith, size_new, word value w)) may_new,
                    (
                      test_listed (list_octets s) _ count_new,
                      (
                        test_listed (list_octets s) _ (λ some. le-ltb (length s) _ (has_list_new.long some)),
                        (test_listed (list_octets s) _ sum_new, (test_plain (list_octets s) _ product_new, tt)),
                      ),
                    ),
                  ),
                ),
              ),
            ),
          ),
        ),
      )

  pub rebuilt : All (λ (octet : ℕ). octet < 256) (section_of_grid value) → IsSectionOf value (section_of_grid value)
  rebuilt small =
      let long = length-section_of_grid value in
      let template = length-template_octets value.grid in
      record {
        small = small;
        itself = record {
          length_stands = sym h.length_octets ∙ sym long;
          least = omega arith;
          number_stands = sym h.number_octets;
        };
        rows = passes_new;
        spelled = again;
      }
