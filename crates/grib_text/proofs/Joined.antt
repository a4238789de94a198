-- Lines of points after one another.
use Rattle.std.proofs.Common.{◌≡◌, ℕ, suc, ◌+◌, ◌≤◌, List, [], ◌∷◌, ◌++◌, length, take, ap, sym, ◌∙◌, arith, append_assoc, append-nil, length-take-le}
use Rattle.grib_packing.specs.declared.column.Point.{Point}
use Rattle.grib_text.specs.Lines.{lines_by}

pub lines_join : (line : ℕ → Point → List ℕ) (n : ℕ) (xs ys : List Point) → lines_by line n (xs ++ ys) ≡ lines_by line n xs ++ lines_by line (n + length xs) ys
lines_join line n [] ys = let e : n ≡ n + 0 = omega arith in ap (λ k. lines_by line k ys) e
lines_join line n (x ∷ xs) ys =
    let e : (n + 1) + length xs ≡ n + suc (length xs) = omega arith in
    ap (λ zs. line n x ++ zs) (lines_join line (n + 1) xs ys ∙ ap (λ k. lines_by line (n + 1) xs ++ lines_by line k ys) e)
    ∙ sym (append_assoc (line n x) (lines_by line (n + 1) xs) (lines_by line (n + suc (length xs)) ys))

-- the first points and the next one
pub lines_next : (line : ℕ → Point → List ℕ) (xs : List Point) (i : ℕ) (x : Point) → take (i + 1) xs ≡ take i xs ++ x ∷ [] → i ≤ length xs
    → lines_by line 1 (take (i + 1) xs) ≡ lines_by line 1 (take i xs) ++ line (i + 1) x
lines_next line xs i x next within =
    let size : 1 + length (take i xs) ≡ i + 1 = omega (arith, length-take-le i xs within) in
    ap (lines_by line 1) next ∙ (lines_join line 1 (take i xs) (x ∷ [])
    ∙ (ap (λ k. lines_by line 1 (take i xs) ++ lines_by line k (x ∷ [])) size ∙ ap (λ ys. lines_by line 1 (take i xs) ++ ys) (append-nil (line (i + 1) x))))
