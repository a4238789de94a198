-- What words span none of which is a mark.
use Rattle.std.proofs.Common.{◌≡◌, ℕ, ◌+◌, ◌^◌, ◌<◌, ◌≤◌, max, min, true, false, List, [], ◌∷◌, ◌++◌, length, map, refl, sym, ap, ◌∙◌, arith, lt-ltb, subst}
use Rattle.std.specs.List.{list_any}
use Rattle.std.proofs.lemmas.Bool.{cond-true}
use Rattle.grib_base.specs.declared.code.Code.{Code}
use Rattle.grib_base.specs.declared.code.Code.TheVariants.{Present}
use Rattle.grib_codes.specs.declared.span.Span.{Span}
use Rattle.grib_packing.specs.Groupings.{greatest, smallest, present_codes, is_present, is_primary, is_secondary}
use Rattle.grib_codes.specs.Span.{IsSpan}
use Rattle.grib_codes.proofs.Spans.{smallest-more, smallest_at_most}
use Rattle.grib_codes.specs.Words.{code_of, codes_of}

-- ---- one word more

pub greatest-behind : (n : ℕ) (xs : List ℕ) → greatest (xs ++ n ∷ []) ≡ max n (greatest xs)
greatest-behind n [] = refl
greatest-behind n (x ∷ xs) = omega (arith, greatest-behind n xs)

pub smallest-behind : (n x : ℕ) (xs : List ℕ) → smallest (x ∷ (xs ++ n ∷ [])) ≡ min n (smallest (x ∷ xs))
smallest-behind n x [] = omega arith
smallest-behind n x (y ∷ xs) = omega (arith, smallest-behind n y xs)

-- ---- words that are all numbers

pub all_numbers : (reserved : ℕ) (words : List ℕ) → greatest words + reserved < 2 ^ 32 → codes_of reserved words ≡ map Present words
all_numbers reserved [] small = refl
all_numbers reserved (word ∷ words) small =
    let here : code_of reserved word ≡ Present word = cond-true _ (Present word) _ (lt-ltb (word + reserved) (2 ^ 32) (omega (arith, small))) in
    let rest : codes_of reserved words ≡ map Present words = all_numbers reserved words (omega (arith, small)) in
    ap (λ (code : Code). code ∷ codes_of reserved words) here ∙ ap (λ (codes : List Code). Present word ∷ codes) rest

present_numbers : (words : List ℕ) → present_codes (map Present words) ≡ words
present_numbers [] = refl
present_numbers (word ∷ words) = ap (λ (ns : List ℕ). word ∷ ns) (present_numbers words)

some_numbers : (words : List ℕ) → 0 < length words → list_any is_present (map Present words) ≡ true
some_numbers [] some = absurd (omega arith)
some_numbers (word ∷ words) some = refl

no_primary : (words : List ℕ) → list_any is_primary (map Present words) ≡ false
no_primary [] = refl
no_primary (word ∷ words) = no_primary words

no_secondary : (words : List ℕ) → list_any is_secondary (map Present words) ≡ false
no_secondary [] = refl
no_secondary (word ∷ words) = no_secondary words

-- The span of the least and the greatest is that of all.
pub span_between_ends : (span : Span) (reserved least most bound : ℕ) (words : List ℕ) → 0 < length words → most + reserved < 2 ^ 32 → most ≤ bound
    → least ≡ smallest (bound ∷ words) → most ≡ greatest words → IsSpan span (Present most ∷ Present least ∷ []) → IsSpan span (codes_of reserved words)
span_between_ends span reserved least most bound words some small within is_least is_most is =
    let numbers = all_numbers reserved words (omega (arith, small, is_most)) in
    let low : least ≡ smallest words = omega (arith, is_least, smallest-more bound words some, smallest_at_most words, is_most, within) in
    let ordered : least ≤ most = omega (arith, low, is_most, smallest_at_most words) in
    let of_numbers : IsSpan span (map Present words) = record {
      least = omega (arith, is.least, low, ordered, ap smallest (present_numbers words));
      greatest = omega (arith, is.greatest, is_most, ordered, ap greatest (present_numbers words));
      present = is.present ∙ sym (some_numbers words some);
      primary = is.primary ∙ sym (no_primary words);
      secondary = is.secondary ∙ sym (no_secondary words);
    } in
    subst (IsSpan span) (sym numbers) of_numbers
