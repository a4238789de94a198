-- Texts that are put together one after another.
use Rattle.std.proofs.Common.{◌≡◌, ℕ, ◌+◌, ◌<◌, List, [], ◌∷◌, ◌++◌, length, map, get_or, take, sym, ap, ◌∙◌, append-nil}
use Rattle.std.specs.List.{concat, fold}
use Rattle.std.proofs.lemmas.List.{take_more, map-append}
use Rattle.std.proofs.lemmas.List.Folds.{concat-append}
use Rattle.std.proofs.lemmas.List.Sums.{fold-append}

-- what f gives of the first elements, and of one more
mapped : {X Y : Type 0} (f : X → Y) (xs : List X) (i : ℕ) (d : X) → i < length xs
    → map f (take (i + 1) xs) ≡ map f (take i xs) ++ f (get_or xs i d) ∷ []
mapped f xs i d within = ap (map f) (take_more xs i d within) ∙ map-append f (take i xs) (get_or xs i d ∷ [])

concat_more : (texts : List (List ℕ)) (text : List ℕ) → concat (texts ++ text ∷ []) ≡ concat texts ++ text
concat_more texts text = concat-append texts (text ∷ []) ∙ ap (λ ys. concat texts ++ ys) (append-nil text)

-- the texts of the first elements, once that of one more is written
pub joined_on : {X : Type 0} (f : X → List ℕ) (xs : List X) (i : ℕ) (d : X) (now next : List ℕ) → i < length xs
    → now ≡ concat (map f (take i xs)) → next ≡ now ++ f (get_or xs i d) → next ≡ concat (map f (take (i + 1) xs))
joined_on f xs i d now next within so_far step =
    step ∙ (ap (λ ys. ys ++ f (get_or xs i d)) so_far
    ∙ (sym (concat_more (map f (take i xs)) (f (get_or xs i d)))
    ∙ ap concat (sym (mapped f xs i d within))))

-- what a step makes of the first elements, and of one more
pub folded_on : {X Y B : Type 0} (step : B → Y → B) (start : B) (f : X → Y) (xs : List X) (i : ℕ) (d : X) (now next : B) → i < length xs
    → now ≡ fold step start (map f (take i xs)) → next ≡ step now (f (get_or xs i d)) → next ≡ fold step start (map f (take (i + 1) xs))
folded_on step start f xs i d now next within so_far one =
    one ∙ (ap (λ it. step it (f (get_or xs i d))) so_far
    ∙ (sym (fold-append step start (map f (take i xs)) (f (get_or xs i d) ∷ []))
    ∙ ap (fold step start) (sym (mapped f xs i d within))))
