-- Lemmas on the words that codes are kept in.
use Rattle.std.proofs.Common.{◌≡◌, ℕ, suc, zero, ◌+◌, ◌<◌, Bool, true, false, ◌||◌, List, [], ◌∷◌, ◌++◌, length, get_or, drop, drop-cons, append_assoc, ℤ, refl, sym, ap, ap₂, ◌∙◌, arith}
use Rattle.std.specs.List.{list_any}
use Rattle.std.proofs.lemmas.List.{map-append}
use Rattle.grib_base.specs.declared.code.Code.{Code}
use Rattle.grib_base.specs.declared.code.Code.TheVariants.{Present}
use Rattle.grib_codes.specs.Words.{code_of, codes_of}
use Rattle.grib_packing.specs.declared.column.Point.{Point}
use Rattle.grib_packing.specs.declared.column.Point.TheVariants.{Scaled}
use Rattle.grib_packing.specs.Misfits.{scaled_numbers}
use Rattle.grib_packing.specs.Packed.{placed_codes}

-- a word more stands for a code more
pub word_more : (k : ℕ) (old new : List ℕ) (word : ℕ) (code : Code) → new ≡ old ++ word ∷ [] → code_of k word ≡ code → codes_of k new ≡ codes_of k old ++ code ∷ []
word_more k old new word code more is =
    ap (codes_of k) more ∙ map-append (code_of k) old (word ∷ []) ∙ ap (λ (c : Code). codes_of k old ++ c ∷ []) is

pub either_way : (a b : Bool) → b ≡ true → (a || b) ≡ true
either_way true b is = refl
either_way false b is = is

pub any_at : (test : Point → Bool) (points : List Point) (i : ℕ) (d : Point) → i < length points → test (get_or points i d) ≡ true → list_any test points ≡ true
any_at test [] i d within is = absurd (omega arith)
any_at test (p ∷ points) zero d within is = rw is refl
any_at test (p ∷ points) (suc i) d within is = either_way (test p) (list_any test points) (any_at test points i d (omega arith) is)

-- ---- codes at points

-- at this place a code stands, and the codes after it take the numbers from another place on
pub record Step (points : List Point) (i : ℕ) (numbers : List ℕ) (used next : ℕ) (code : Code) : Type 0 where
  pub placed : placed_codes (drop i points) (drop used numbers) ≡ code ∷ placed_codes (drop (i + 1) points) (drop next numbers)

module _ (points : List Point) (i : ℕ) (d : Point) (within : i < length points) (numbers : List ℕ) (used next : ℕ) (code : Code) (left : used + length (scaled_numbers (drop i points)) ≡ length numbers) where
  points_are : (p : Point) → get_or points i d ≡ p → drop i points ≡ p ∷ drop (i + 1) points
  points_are p here =
      let more : suc i ≡ i + 1 = omega arith in
      drop-cons points i d within ∙ ap₂ (λ (q : Point) (n : ℕ). q ∷ drop n points) here more

  pub step_number : (x : ℤ) (place : ℕ) → get_or points i d ≡ Scaled x → code ≡ Present (get_or numbers place 0) → place ≡ used → next ≡ used + 1 → Step points i numbers used next code
  step_number x place here is_code is_place is_next =
      let more : suc used ≡ next = omega arith in
      let points_here = points_are (Scaled x) here in
      let count = ap (λ (ps : List Point). length (scaled_numbers ps)) points_here in
      let some : used < length numbers = omega (arith, count, left) in
      let number : Present (get_or numbers used 0) ≡ code = ap (λ (n : ℕ). Present (get_or numbers n 0)) (sym is_place) ∙ sym is_code in
      record {
        placed =
            ap₂ placed_codes points_here (drop-cons numbers used 0 some ∙ ap (λ (n : ℕ). get_or numbers used 0 ∷ drop n numbers) more)
            ∙ ap (λ (c : Code). c ∷ placed_codes (drop (i + 1) points) (drop next numbers)) number;
      }

  pub step_mark : (p : Point) (mark : Code) → get_or points i d ≡ p → code ≡ mark → next ≡ used → ((ps : List Point) (ns : List ℕ) → placed_codes (p ∷ ps) ns ≡ mark ∷ placed_codes ps ns)
      → Step points i numbers used next code
  step_mark p mark here is_code is_next is =
      let points_here = points_are p here in
      let rest = drop (i + 1) points in
      record {
        placed =
            ap (λ (ps : List Point). placed_codes ps (drop used numbers)) points_here ∙ is rest (drop used numbers)
            ∙ ap₂ (λ (c : Code) (n : ℕ). c ∷ placed_codes rest (drop n numbers)) (sym is_code) (sym is_next);
      }

-- a code more
module _ (k : ℕ) (before after : List Code) (code : Code) (step : before ≡ code ∷ after) where
  pub whole_more : (old new : List ℕ) (word : ℕ) (whole : List Code) → codes_of k old ++ before ≡ whole → new ≡ old ++ word ∷ [] → code_of k word ≡ code
      → codes_of k new ++ after ≡ whole
  whole_more old new word whole so_far more is =
      ap (λ (cs : List Code). cs ++ after) (word_more k old new word code more is) ∙ append_assoc (codes_of k old) (code ∷ []) after
      ∙ ap (λ (cs : List Code). codes_of k old ++ cs) (sym step) ∙ so_far
