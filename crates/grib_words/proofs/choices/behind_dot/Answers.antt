use Rattle.std.proofs.Common.{◌≡◌, ◌≢◌, ℕ, ◌==◌, true, false, Option, Some, None, option_map, MatchOption, List, [], ◌∷◌, refl, sym, ap, subst, lit<, Bor, ⊎_elim, eqb-true}
use Rattle.std.proofs.lemmas.Bool.{cases_Bool}
use Rattle.std.proofs.lemmas.Str.Pattern.{strip_prefix_char}
use Rattle.grib_words.specs.Choices.{behind_dot}
use Rattle.grib_words.proofs.choices.behind_dot.Goals as goal

stripped : (text : List ℕ) (found : Option (Bor (List ℕ))) → MatchOption found ((rest : List ℕ) → text ≢ 46 ∷ rest) (λ rest. text ≡ 46 ∷ rest.now)
    → option_map (λ rest. rest.now) found ≡ behind_dot text
stripped [] None other = refl
stripped (c ∷ cs) None other =
    ⊎_elim (λ (dot : (c == 46) ≡ true). absurd (other cs (ap (λ o. o ∷ cs) (eqb-true c 46 dot))))
    (λ (not_dot : (c == 46) ≡ false). rw not_dot refl)
    (cases_Bool (c == 46))
stripped text (Some rest) is = subst (λ t. Some rest.now ≡ behind_dot t) (sym is) refl

pub returns : goal.returns
returns c =
    let text = c.args.text.now in
    stripped text c.strip_prefix.result (strip_prefix_char 46 text c.strip_prefix.result c.strip_prefix.ensures.cases (lit< tt))
