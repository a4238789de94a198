-- What words span some of which are primary missing, where no other code is reserved.
use Rattle.std.proofs.Common.{◌≡◌, ◌⊎◌, inl, inr, ⊎_elim, ℕ, ◌+◌, ◌^◌, ◌<◌, ◌≤◌, max, min, Bool, true, false, ◌||◌, List, [], ◌∷◌, ◌++◌, length, refl, sym, ap, ◌∙◌, arith, lt-ltb}
use Rattle.std.specs.List.{list_any}
use Rattle.std.proofs.lemmas.Bool.{cond-true, cases_lt}
use Rattle.std.proofs.lemmas.List.{map-append}
use Rattle.std.proofs.lemmas.List.Elements.{filter_map-append}
use Rattle.grib_base.specs.declared.code.Code.{Code}
use Rattle.grib_base.specs.declared.code.Code.TheVariants.{Present, Primary}
use Rattle.grib_codes.specs.declared.span.Span.{Span}
use Rattle.grib_packing.specs.Entries.{present_code}
use Rattle.grib_packing.specs.Groupings.{greatest, smallest, present_codes, is_present, is_primary, is_secondary}
use Rattle.grib_codes.specs.Span.{IsSpan}
use Rattle.grib_codes.proofs.Spans.{smallest-more, smallest_at_most, none_present}
use Rattle.grib_codes.specs.Words.{code_of, codes_of}

greatest_join : (xs ys : List ℕ) → greatest (xs ++ ys) ≡ max (greatest xs) (greatest ys)
greatest_join [] ys = omega arith
greatest_join (x ∷ xs) ys = omega (arith, greatest_join xs ys)

-- one word more
pub greatest_number_behind : (word : ℕ) (words : List ℕ)
    → greatest (present_codes (codes_of 1 (words ++ word ∷ []))) ≡ max (greatest (present_codes (codes_of 1 words))) (greatest (present_codes (code_of 1 word ∷ [])))
greatest_number_behind word words =
    ap (λ (codes : List Code). greatest (present_codes codes)) (map-append (code_of 1) words (word ∷ []))
    ∙ (ap greatest (filter_map-append present_code (codes_of 1 words) (code_of 1 word ∷ []))
    ∙ greatest_join (present_codes (codes_of 1 words)) (present_codes (code_of 1 word ∷ [])))

-- ---- each word is a number or the mark

code_is : (word : ℕ) → word ≤ 4294967295 → ((word < 4294967295) × (code_of 1 word ≡ Present word)) ⊎ ((word ≡ 4294967295) × (code_of 1 word ≡ Primary))
code_is word small =
    ⊎_elim
    (λ (low : word + 1 < 2 ^ 32). inl (omega arith, cond-true _ (Present word) _ (lt-ltb (word + 1) (2 ^ 32) low)))
    (λ (high : 2 ^ 32 ≤ word + 1). let e : word ≡ 4294967295 = omega arith in inr (e, ap (code_of 1) e))
    (cases_lt (word + 1) (2 ^ 32))

least_more : (bound x : ℕ) (xs : List ℕ) → smallest (bound ∷ x ∷ xs) ≡ min x (smallest (bound ∷ xs))
least_more bound x [] = omega arith
least_more bound x (y ∷ xs) = omega arith

least_at_most : (bound : ℕ) (xs : List ℕ) → smallest (bound ∷ xs) ≤ bound
least_at_most bound [] = omega arith
least_at_most bound (x ∷ xs) = omega arith

-- marks are no less than the bound
least_numbers : (words : List ℕ) → greatest words ≤ 4294967295 → smallest (4294967295 ∷ words) ≡ smallest (4294967295 ∷ present_codes (codes_of 1 words))
least_numbers [] small = refl
least_numbers (word ∷ words) small =
    let rest = least_numbers words (omega (arith, small)) in
    let more = least_more 4294967295 word words in
    let others = present_codes (codes_of 1 words) in
    ⊎_elim
    (λ (number : (word < 4294967295) × (code_of 1 word ≡ Present word)).
    let same : present_codes (codes_of 1 (word ∷ words)) ≡ word ∷ others = ap (λ (code : Code). present_codes (code ∷ codes_of 1 words)) number.1 in
    omega (arith, more, rest, least_more 4294967295 word others, ap (λ (ns : List ℕ). smallest (4294967295 ∷ ns)) same))
    (λ (mark : (word ≡ 4294967295) × (code_of 1 word ≡ Primary)).
    let same : present_codes (codes_of 1 (word ∷ words)) ≡ others = ap (λ (code : Code). present_codes (code ∷ codes_of 1 words)) mark.1 in
    omega (arith, more, rest, mark.0, least_at_most 4294967295 others, ap (λ (ns : List ℕ). smallest (4294967295 ∷ ns)) same))
    (code_is word (omega (arith, small)))

no_numbers : (words : List ℕ) → greatest words ≤ 4294967295 → 4294967295 ≤ smallest (4294967295 ∷ words) → list_any is_present (codes_of 1 words) ≡ false
no_numbers [] small high = refl
no_numbers (word ∷ words) small high =
    let more = least_more 4294967295 word words in
    let rest = no_numbers words (omega (arith, small)) (omega (arith, high, more)) in
    ⊎_elim
    (λ (number : (word < 4294967295) × (code_of 1 word ≡ Present word)). absurd (omega (arith, high, more, number.0)))
    (λ (mark : (word ≡ 4294967295) × (code_of 1 word ≡ Primary)). ap (λ (code : Code). is_present code || list_any is_present (codes_of 1 words)) mark.1 ∙ rest)
    (code_is word (omega (arith, small)))

some_primary : (words : List ℕ) → greatest words ≡ 4294967295 → list_any is_primary (codes_of 1 words) ≡ true
some_primary [] is = absurd (omega (arith, is))
some_primary (word ∷ words) is =
    ⊎_elim
    (λ (number : (word < 4294967295) × (code_of 1 word ≡ Present word)).
    ap (λ (code : Code). is_primary code || list_any is_primary (codes_of 1 words)) number.1 ∙ some_primary words (omega (arith, is, number.0)))
    (λ (mark : (word ≡ 4294967295) × (code_of 1 word ≡ Primary)). ap (λ (code : Code). is_primary code || list_any is_primary (codes_of 1 words)) mark.1)
    (code_is word (omega (arith, is)))

no_secondary : (words : List ℕ) → greatest words ≤ 4294967295 → list_any is_secondary (codes_of 1 words) ≡ false
no_secondary [] small = refl
no_secondary (word ∷ words) small =
    let rest = no_secondary words (omega (arith, small)) in
    ⊎_elim
    (λ (number : (word < 4294967295) × (code_of 1 word ≡ Present word)). ap (λ (code : Code). is_secondary code || list_any is_secondary (codes_of 1 words)) number.1 ∙ rest)
    (λ (mark : (word ≡ 4294967295) × (code_of 1 word ≡ Primary)). ap (λ (code : Code). is_secondary code || list_any is_secondary (codes_of 1 words)) mark.1 ∙ rest)
    (code_is word (omega (arith, small)))

-- ---- the spans

no_length : (xs : List ℕ) → length xs ≡ 0 → xs ≡ []
no_length [] is = refl
no_length (x ∷ xs) is = absurd (omega (arith, is))

pub span_of_marks : (span : Span) (words : List ℕ) → greatest words ≡ 4294967295 → smallest (4294967295 ∷ words) ≡ 4294967295
    → IsSpan span (Primary ∷ []) → IsSpan span (codes_of 1 words)
span_of_marks span words most least is =
    let none = no_numbers words (omega (arith, most)) (omega (arith, least)) in
    let empty : present_codes (codes_of 1 words) ≡ [] = no_length (present_codes (codes_of 1 words)) (none_present (codes_of 1 words) none) in
    record {
      least = is.least ∙ sym (ap smallest empty);
      greatest = is.greatest ∙ sym (ap greatest empty);
      present = is.present ∙ sym none;
      primary = is.primary ∙ sym (some_primary words most);
      secondary = is.secondary ∙ sym (no_secondary words (omega (arith, most)));
    }

some_present_by : (words : List ℕ) (b : Bool) → list_any is_present (codes_of 1 words) ≡ b → 0 < length (present_codes (codes_of 1 words)) → list_any is_present (codes_of 1 words) ≡ true
some_present_by words true is some = is
some_present_by words false is some = absurd (omega (arith, none_present (codes_of 1 words) is))

some_length : (bound : ℕ) (xs : List ℕ) → smallest (bound ∷ xs) < bound → 0 < length xs
some_length bound [] low = absurd (omega (arith, low))
some_length bound (x ∷ xs) low = omega arith

pub span_around_mark : (span : Span) (words : List ℕ) (least most : ℕ) → greatest words ≡ 4294967295 → least ≡ smallest (4294967295 ∷ words) → least < 4294967295
    → most ≡ greatest (present_codes (codes_of 1 words)) → IsSpan span (Present most ∷ Present least ∷ Primary ∷ []) → IsSpan span (codes_of 1 words)
span_around_mark span words least most top is_least low is_most is =
    let numbers = present_codes (codes_of 1 words) in
    let same = least_numbers words (omega (arith, top)) in
    let some : 0 < length numbers = some_length 4294967295 numbers (omega (arith, same, is_least, low)) in
    let least_is : least ≡ smallest numbers = omega (arith, same, is_least, low, smallest-more 4294967295 numbers some) in
    let ordered : least ≤ most = omega (arith, least_is, is_most, smallest_at_most numbers) in
    record {
      least = omega (arith, is.least, least_is, ordered);
      greatest = omega (arith, is.greatest, is_most, ordered);
      present = is.present ∙ sym (some_present_by words (list_any is_present (codes_of 1 words)) refl some);
      primary = is.primary ∙ sym (some_primary words top);
      secondary = is.secondary ∙ sym (no_secondary words (omega (arith, top)));
    }
