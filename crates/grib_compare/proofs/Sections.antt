-- The first octet in which two sections differ.
use Rattle.std.proofs.Common.{◌≡◌, ℕ, suc, ◌+◌, ◌-◌, ◌<◌, ◌≤◌, ◌==◌, ◌≢◌, inl, inr, min, true, false, cond, Option, Some, None, List, [], ◌∷◌, length, get_or, drop, refl, sym, ap, ◌∙◌, arith}
use Rattle.std.proofs.lemmas.List.{drop_more, drop_all}
use Rattle.std.proofs.lemmas.Bool.{cases_lt}
use Rattle.grib_file.specs.Filed.{FieldOf}
use Rattle.grib_compare.specs.declared.comparison.Comparison.TheVariants.{Same, Section}
use Rattle.grib_compare.specs.Fields.{octet_from, on_octet, by_sections_from, section_of}

-- a step of the loop, and its end
module _ (xs ys : List ℕ) (i : ℕ) where
  from_here : i < length xs → i < length ys → octet_from (i + 1) (drop i xs) (drop i ys)
      ≡ cond (get_or xs i 0 == get_or ys i 0) (octet_from (i + 1 + 1) (drop (i + 1) xs) (drop (i + 1) ys)) (Some (i + 1))
  from_here less less' =
      ap (λ (l : List ℕ). octet_from (i + 1) l (drop i ys)) (drop_more xs i 0 less)
      ∙ ap (λ (l : List ℕ). octet_from (i + 1) (get_or xs i 0 ∷ drop (i + 1) xs) l) (drop_more ys i 0 less')

  pub octet_same : i < length xs → i < length ys → (get_or xs i 0 == get_or ys i 0) ≡ true
      → octet_from (i + 1) (drop i xs) (drop i ys) ≡ octet_from (i + 1 + 1) (drop (i + 1) xs) (drop (i + 1) ys)
  octet_same less less' same =
      from_here less less' ∙ ap (λ t. cond t (octet_from (i + 1 + 1) (drop (i + 1) xs) (drop (i + 1) ys)) (Some (i + 1))) same

  pub octet_found : i < length xs → i < length ys → (get_or xs i 0 == get_or ys i 0) ≡ false → octet_from (i + 1) (drop i xs) (drop i ys) ≡ Some (i + 1)
  octet_found less less' differs =
      from_here less less' ∙ ap (λ t. cond t (octet_from (i + 1 + 1) (drop (i + 1) xs) (drop (i + 1) ys)) (Some (i + 1))) differs

  pub octet_none : length xs ≤ i → length ys ≤ i → octet_from (i + 1) (drop i xs) (drop i ys) ≡ None
  octet_none all all' =
      ap (λ (l : List ℕ). octet_from (i + 1) l (drop i ys)) (drop_all i xs all) ∙ ap (λ (l : List ℕ). octet_from (i + 1) [] l) (drop_all i ys all')

  pub octet_past : length xs ≤ i → i < length ys → octet_from (i + 1) (drop i xs) (drop i ys) ≡ Some (i + 1)
  octet_past all less =
      ap (λ (l : List ℕ). octet_from (i + 1) l (drop i ys)) (drop_all i xs all) ∙ ap (λ (l : List ℕ). octet_from (i + 1) [] l) (drop_more ys i 0 less)

  pub octet_before : i < length xs → length ys ≤ i → octet_from (i + 1) (drop i xs) (drop i ys) ≡ Some (i + 1)
  octet_before less all =
      ap (λ (l : List ℕ). octet_from (i + 1) l (drop i ys)) (drop_more xs i 0 less) ∙ ap (λ (l : List ℕ). octet_from (i + 1) (get_or xs i 0 ∷ drop (i + 1) xs) l) (drop_all i ys all)

-- where one has more octets than the other
pub octets_end : (xs ys : List ℕ) (i : ℕ) → length xs ≢ length ys → i ≡ min (length xs) (length ys) → octet_from (i + 1) (drop i xs) (drop i ys) ≡ Some (i + 1)
octets_end xs ys i other is = elim (cases_lt (length xs) (length ys)) [
  | inl less ↦ octet_past xs ys i (omega arith) (omega arith)
  | inr more ↦ let differs = other in octet_before xs ys i (omega (arith, differs)) (omega arith)
]

pub none_else : (o : Option ℕ) → ((n : ℕ) → o ≡ Some n → ⊥) → o ≡ None
none_else None other = refl
none_else (Some n) other = absurd (other n refl)

-- ---- the sections, one after another

module _ (left right : FieldOf) (i : ℕ) (octet : Option ℕ) (less : i < 4) (is : octet ≡ octet_from 1 (section_of (i + 1) left) (section_of (i + 1) right)) where
  section_here : by_sections_from (4 - i) (i + 1) left right ≡ on_octet (i + 1) octet (by_sections_from (4 - (i + 1)) (i + 1 + 1) left right)
  section_here =
      let e : 4 - i ≡ suc (4 - (i + 1)) = omega arith in
      ap (λ k. by_sections_from k (i + 1) left right) e ∙ ap (λ o. on_octet (i + 1) o (by_sections_from (4 - (i + 1)) (i + 1 + 1) left right)) (sym is)

  pub section_same : octet ≡ None → by_sections_from (4 - i) (i + 1) left right ≡ by_sections_from (4 - (i + 1)) (i + 1 + 1) left right
  section_same none = section_here ∙ ap (λ o. on_octet (i + 1) o (by_sections_from (4 - (i + 1)) (i + 1 + 1) left right)) none

  pub section_found : (n : ℕ) → octet ≡ Some n → by_sections_from (4 - i) (i + 1) left right ≡ Section (i + 1) n
  section_found n some = section_here ∙ ap (λ o. on_octet (i + 1) o (by_sections_from (4 - (i + 1)) (i + 1 + 1) left right)) some

pub sections_none : (left right : FieldOf) (i n : ℕ) → 4 ≤ i → by_sections_from (4 - i) n left right ≡ Same
sections_none left right i n all = let e : 4 - i ≡ 0 = omega arith in ap (λ k. by_sections_from k n left right) e
