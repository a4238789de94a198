use Rattle.std.proofs.Common.{◌≡◌, ℕ, List, [], ◌∷◌, ◌++◌, map, string_bytes, sym, ap, ◌∙◌, append-nil}
use Rattle.std.specs.List.{concat}
use Rattle.std.proofs.lemmas.List.{map-append}
use Rattle.std.proofs.lemmas.List.Folds.{concat-append}
use Rattle.std.proofs.lemmas.Iterator.{YieldsList-from_chars}
use Rattle.std.proofs.lemmas.Iterator.Consumers.{YieldsList-end}
use Rattle.grib_topics.specs.Shown.{shown, shown_char}
use Rattle.grib_topics.proofs.escaped.shown.Goals as goal

-- one character more
one_more : (cs : List ℕ) (c : ℕ) → concat (map shown_char (cs ++ c ∷ [])) ≡ concat (map shown_char cs) ++ shown_char c
one_more cs c =
    ap concat (map-append shown_char cs (c ∷ []))
    ∙ (concat-append (map shown_char cs) (shown_char c ∷ []) ∙ ap (λ ys. concat (map shown_char cs) ++ ys) (append-nil (shown_char c)))

map_same : (cs : List ℕ) → map (λ c. c) cs ≡ cs
map_same [] = cc
map_same (c ∷ cs) = ap (λ ys. c ∷ ys) (map_same cs)

pub loop-c-preserved : goal.loop-c-preserved
loop-c-preserved c =
    c.in_ok-push_shown.ensures
    ∙ (ap (λ line. line ++ shown_char c.in-Some.c) c.loop-c.invariant ∙ sym (one_more c.loop-c.yielded c.in-Some.c))

pub returns : goal.returns
unfolding shown
returns c =
    let t = YieldsList-end (YieldsList-from_chars c.args.text.now c.utf8.text cc) c.loop-c.yielded _ c.loop-c.yielded_by _ _ c.in-None.is c.next.ensures.steps in
    c.loop-c.invariant ∙ ap (λ cs. concat (map shown_char cs)) (sym (map_same c.loop-c.yielded) ∙ t.0)
