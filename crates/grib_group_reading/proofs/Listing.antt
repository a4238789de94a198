-- Lemmas on the lists of groups as they are read.
use Rattle.std.proofs.Common.{◌≡◌, ℕ, ◌+◌, ◌<◌, ◌≤◌, Bool, cond, ltb, Option, Some, None, List, [], ◌∷◌, ◌++◌, length, min, refl, sym, ap, ap₂, ◌∙◌, arith, inl, inr, subst}
use Rattle.std.specs.List.{All}
use Rattle.std.proofs.lemmas.Bool.{cases_lt, lt-ltb, le-ltb}
use Rattle.std.proofs.lemmas.List.{length_push}
use Rattle.std.proofs.lemmas.List.Elements.{All-push}
use Rattle.grib_base.specs.Rules.{first_place}
use Rattle.grib_group_reading.specs.declared.lists.Widths.{Widths}
use Rattle.grib_group_reading.specs.Lists.{IsNoted, WidthsAre, noted_first}
use Rattle.grib_group_reading.proofs.Places.{place_there, place_nowhere, place_before}

-- with one width more, the first over 32
noted_more : (before : Option ℕ) (read : List ℕ) (width : ℕ) → IsNoted before (first_place (λ w. ltb 32 w) read)
    → IsNoted (noted_first before (ltb 32 width) (length read + 1)) (first_place (λ w. ltb 32 w) (read ++ width ∷ []))
noted_more (Some place) read width is = (is.0, is.1 ∙ sym (place_before (λ w. ltb 32 w) read width (omega (arith, is.0, is.1))))
noted_more None read width is =
    let test = λ (w : ℕ). ltb 32 w in
    let P : Bool → Type 0 = λ b. IsNoted (cond b (Some (length read + 1)) None) (first_place test (read ++ width ∷ [])) in
    elim (cases_lt 32 width) [
      | inl over ↦ let wide = lt-ltb 32 width over in subst P (sym wide) (omega arith, sym (place_there test read width is wide))
      | inr within ↦ let narrow = le-ltb 32 width within in subst P (sym narrow) (place_nowhere test read width is narrow)
    ]

-- where none is noted, there was none before and this width is none
none_noted : (before : Option ℕ) (place width : ℕ) → noted_first before (ltb 32 width) place ≡ None → (before ≡ None) × (width ≤ 32)
none_noted (Some earlier) place width none = absurd (cc)
none_noted None place width none = elim (cases_lt 32 width) [
  | inl over ↦ let wide : Some place ≡ None = sym (ap (λ (b : Bool). cond b (Some place) None) (lt-ltb 32 width over)) ∙ none in absurd (cc)
  | inr within ↦ (refl, within)
]

-- one width more
pub width_more : (before after : Widths) (read : List ℕ) (width : ℕ) → WidthsAre before read → after.items.items ≡ before.items.items ++ min width 32 ∷ []
    → after.too_wide ≡ noted_first before.too_wide (ltb 32 width) (length before.items.items + 1) → WidthsAre after (read ++ width ∷ [])
width_more before after read width are is_items is_noted =
    let here = is_noted ∙ ap (λ (n : ℕ). noted_first before.too_wide (ltb 32 width) (n + 1)) are.long in
    record {
      long = omega (arith, ap length is_items, length_push before.items.items (min width 32), length_push read width, are.long);
      items = λ none.
          let nowhere = none_noted before.too_wide (length read + 1) width (sym here ∙ none) in
          let kept : min width 32 ≡ width = omega (arith, nowhere.1) in
          is_items ∙ ap₂ (λ xs x. xs ++ x ∷ []) (are.items nowhere.0) kept;
      place = subst (λ (o : Option ℕ). IsNoted o (first_place (λ w. ltb 32 w) (read ++ width ∷ []))) (sym here) (noted_more before.too_wide read width are.place);
      narrow = subst (λ (xs : List ℕ). All (λ (w : ℕ). w ≤ 32) xs) (sym is_items) (All-push (λ (w : ℕ). w ≤ 32) before.items.items (min width 32) are.narrow (omega arith));
    }
