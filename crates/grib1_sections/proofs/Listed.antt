-- Lemmas on the lists of a Section 2 that is not refused.
use Rattle.std.proofs.Common.{◌≡◌, ℕ, ◌+◌, ◌*◌, ◌<◌, ◌≤◌, Bool, true, false, not, cond, ◌&&◌, ◌||◌, None, List, [], ◌∷◌, length, nat_lt, ◌==◌, find, refl, sym, ap, ◌∙◌, arith, subst, ltb-false}
use Rattle.std.specs.Option.{option_map_or}
use Rattle.std.proofs.lemmas.Bool.{or_parts, not-false, ltb-true}
use Rattle.std.specs.declared.option.Option.TheVariants.{Some}
use Rattle.grib_base.specs.Rules.{first_fault}
use Rattle.grib2_sections.specs.Template.{Template, is_template, least_length}
use Rattle.grib1_sections.specs.Grid.{grid_types, grid_type, nv, list_place, nj, lists_rows, has_list, row_count, lists_end, grid_rules}
use Rattle.grib1_sections.specs.Coordinates.{coordinate_count}
use Rattle.grib1_sections.specs.Held.{HoldsLists}
use Rattle.grib_base.proofs.Passing.{passes_from_none, second_fails}

-- ---- the least length

-- each type has at least `bound` octets
abbrev AreAtLeast : ℕ → List Template → Type 0
AreAtLeast bound [] = Unit {0}
AreAtLeast bound (t ∷ types) = (bound ≤ t.least) × AreAtLeast bound types

at_least : (types : List Template) (number bound : ℕ) → AreAtLeast bound types → is_template types number ≡ true → bound ≤ least_length types number
at_least [] number bound h e = cc
at_least (t ∷ types) number bound h e = first_or (t.number == number) refl e (at_least types number bound h.1) where
  first_or : (b : Bool) → (t.number == number) ≡ b → ((t.number == number) || is_template types number) ≡ true
      → (is_template types number ≡ true → bound ≤ least_length types number) → bound ≤ least_length (t ∷ types) number
  first_or true here e' rest =
      subst (λ (n : ℕ). bound ≤ n)
      (sym (ap (λ (b : Bool). option_map_or (λ x. x.least) (cond b (Some t) (find (λ x. x.number == number) types)) 0) here)) h.0
  first_or false there e' rest =
      subst (λ (n : ℕ). bound ≤ n)
      (sym (ap (λ (b : Bool). option_map_or (λ x. x.least) (cond b (Some t) (find (λ x. x.number == number) types)) 0) there))
      (rest (sym (ap (λ (b : Bool). b || is_template types number) there) ∙ e'))

-- ---- the lists

module _ (s : List ℕ) (none : first_fault (grid_rules s) ≡ None) where
  least : ℕ
  least = least_length grid_types (grid_type s)

  grid_long : 10 ≤ length s
  unfolding least
  grid_long =
      let p = passes_from_none (grid_rules s) none in
      let known = not-false (is_template grid_types (grid_type s)) p.0 in
      let enough = at_least grid_types (grid_type s) 10 (omega arith, (omega arith, (omega arith, (omega arith, (omega arith, tt))))) known in
      omega (arith, ltb-false (length s) least p.1.0, enough)

  -- they begin behind the grid, and end in the section
  record ListsWhole : Type 0 where
    placed : 1 ≤ list_place s
    whole : lists_end s ≤ length s

  lists_whole : has_list s ≡ true → ListsWhole
  lists_whole has =
      let p = passes_from_none (grid_rules s) none in
      let after = not (nat_lt (least_length grid_types (grid_type s)) (list_place s)) in
      let within = nat_lt (length s) (lists_end s) in
      let both = or_parts after within (second_fails (has_list s) (after || within) p.1.1.1.1.1.0 has) in
      let place = ltb-true (least_length grid_types (grid_type s)) (list_place s) (not-false (nat_lt (least_length grid_types (grid_type s)) (list_place s)) both.0) in
      record {
        placed = omega (arith, place);
        whole = ltb-false (length s) (lists_end s) both.1;
      }

  -- with coordinates there is a list
  counted : (b : Bool) → 0 < cond b (nv s) 0 → (b ≡ true) × (cond b (nv s) 0 ≡ nv s)
  counted true some = (refl, refl)
  counted false some = absurd (omega arith)

  -- and so there is where the rules are listed
  listed : lists_rows s ≡ true → has_list s ≡ true
  listed rows =
      let p = passes_from_none (grid_rules s) none in
      let there : (list_place s == 255) ≡ false = second_fails (lists_rows s) (list_place s == 255) p.1.1.1.1.0 rows in
      (λ i. not (there i) && (nat_lt 0 (nv s) || rows i)) ∙ last (nat_lt 0 (nv s))
    where
      last : (b : Bool) → (b || true) ≡ true
      last true = refl
      last false = refl

  row_count-listed : lists_rows s ≡ true → row_count s ≡ nj s
  row_count-listed rows = ap (λ b. cond b (nj s) 0) rows

  words_end : 0 < coordinate_count s → list_place s + 4 * coordinate_count s ≤ length s + 1
  words_end some =
      let c = counted (has_list s) some in
      let w = lists_whole c.0 in
      omega (arith, c.1, w.placed, w.whole)

  rows_end : lists_rows s ≡ true → list_place s + 4 * nv s + 2 * nj s ≤ length s + 1
  rows_end rows =
      let w = lists_whole (listed rows) in
      omega (arith, row_count-listed rows, w.placed, w.whole)

  pub holds_lists : HoldsLists s
  holds_lists = record {
    whole = grid_long;
    words_placed = λ some. (lists_whole (counted (has_list s) some).0).placed;
    words = words_end;
    rows_placed = λ rows. (lists_whole (listed rows)).placed;
    rows = rows_end;
  }
