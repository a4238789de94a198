-- Texts that are written one after another.
use Rattle.std.proofs.Common.{◌≡◌, ℕ, ◌+◌, ◌<◌, List, [], ◌∷◌, ◌++◌, length, map, get_or, take, sym, ap, ◌∙◌, append_assoc, append-nil}
use Rattle.std.specs.List.{concat, fold}
use Rattle.std.proofs.lemmas.List.{take_more, map-append}
use Rattle.std.proofs.lemmas.List.Folds.{concat-append}
use Rattle.std.proofs.lemmas.List.Sums.{fold-append}

-- the texts of the first elements, and of one more
one_more : {X Y : Type 0} (f : Y → List ℕ) (g : X → Y) (xs : List X) (i : ℕ) (d : X) → i < length xs
    → concat (map f (map g (take (i + 1) xs))) ≡ concat (map f (map g (take i xs))) ++ f (g (get_or xs i d))
one_more f g xs i d within =
    ap (λ ys. concat (map f (map g ys))) (take_more xs i d within)
    ∙ (ap (λ ys. concat (map f ys)) (map-append g (take i xs) (get_or xs i d ∷ []))
    ∙ (ap concat (map-append f (map g (take i xs)) (g (get_or xs i d) ∷ []))
    ∙ (concat-append (map f (map g (take i xs))) (f (g (get_or xs i d)) ∷ [])
    ∙ ap (λ ys. concat (map f (map g (take i xs))) ++ ys) (append-nil (f (g (get_or xs i d)))))))

-- what stands behind a front, once the text of one more element is written
pub written_on : {X Y : Type 0} (f : Y → List ℕ) (g : X → Y) (xs : List X) (i : ℕ) (d : X) (front now next : List ℕ) → i < length xs
    → now ≡ front ++ concat (map f (map g (take i xs))) → next ≡ now ++ f (g (get_or xs i d))
    → next ≡ front ++ concat (map f (map g (take (i + 1) xs)))
written_on f g xs i d front now next within so_far step =
    step ∙ (ap (λ ys. ys ++ f (g (get_or xs i d))) so_far
    ∙ (append_assoc front (concat (map f (map g (take i xs)))) (f (g (get_or xs i d)))
    ∙ ap (λ ys. front ++ ys) (sym (one_more f g xs i d within))))

-- what comes of the first elements, and of one more
pub folded_on : {X Y Z B : Type 0} (step : B → Z → B) (start : B) (f : Y → Z) (g : X → Y) (xs : List X) (i : ℕ) (d : X) → i < length xs
    → fold step start (map f (map g (take (i + 1) xs))) ≡ step (fold step start (map f (map g (take i xs)))) (f (g (get_or xs i d)))
folded_on step start f g xs i d within =
    ap (λ ys. fold step start (map f (map g ys))) (take_more xs i d within)
    ∙ (ap (λ ys. fold step start (map f ys)) (map-append g (take i xs) (get_or xs i d ∷ []))
    ∙ (ap (fold step start) (map-append f (map g (take i xs)) (g (get_or xs i d) ∷ []))
    ∙ fold-append step start (map f (map g (take i xs))) (f (g (get_or xs i d)) ∷ [])))
