use Rattle.std.proofs.Common.{◌≡◌, ◌≢◌, ℕ, ◌+◌, ◌-◌, ◌<◌, true, false, None, List, [], ◌∷◌, ◌++◌, length, get_or, take, refl, sym, ap, ◌∙◌, lit<, arith, ⊎_elim, eqb-true}
use Rattle.std.proofs.lemmas.Bool.{cases_Bool}
use Rattle.std.proofs.lemmas.List.{take_more, take_all}
use Rattle.std.proofs.lemmas.Str.Pattern.{strip_suffix_char}
use Rattle.grib_words.specs.Reading.{is_marked, unmarked}
use Rattle.grib_words.proofs.wanted.unmarked.Goals as goal

not_empty : (name : List ℕ) → get_or name (length name - 1) 0 ≡ 33 → 0 < length name
not_empty [] is = absurd (omega arith)
not_empty (c ∷ cs) is = omega arith

last_octet : (name : List ℕ) → 0 < length name → name ≡ take (length name - 1) name ++ (get_or name (length name - 1) 0 ∷ [])
last_octet name some = sym (take_all (length name - 1 + 1) name (omega arith)) ∙ take_more name (length name - 1) 0 (omega arith)

-- a text that ends in `!`
ends_in_mark : (name : List ℕ) → is_marked name ≡ true → name ≡ take (length name - 1) name ++ (33 ∷ [])
ends_in_mark name marked =
    let last : get_or name (length name - 1) 0 ≡ 33 = eqb-true (get_or name (length name - 1) 0) 33 marked in
    last_octet name (not_empty name last) ∙ ap (λ octet. take (length name - 1) name ++ (octet ∷ [])) last

plain_name : (name : List ℕ) → ((front : List ℕ) → name ≢ front ++ (33 ∷ [])) → name ≡ unmarked name
plain_name name other =
    ⊎_elim (λ (marked : is_marked name ≡ true). absurd (other (take (length name - 1) name) (ends_in_mark name marked)))
    (λ (plain : is_marked name ≡ false). rw plain refl)
    (cases_Bool (is_marked name))

pub returns-in-None : goal.returns-in-None
returns-in-None c = plain_name c.args.name.now (strip_suffix_char 33 c.args.name.now None c.in-None.ensures.cases (lit< tt))
