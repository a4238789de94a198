-- Points that mean the same are the same beside others.
use Rattle.std.proofs.Common.{◌≡◌, ℕ, suc, ◌+◌, cond, Some, List, [], ◌∷◌, length, map, ℤ, refl, sym, ap, ◌∙◌, subst}
use Rattle.grib_dyadic.specs.Reference.{Binary, SameNumber}
use Rattle.grib_dyadic.specs.Value.{value_of}
use Rattle.grib_dyadic.specs.Meaning.{Meant, valued, missing, missing2, SamePoint, SameMeaning}
use Rattle.grib_dyadic.proofs.Values.{Same_sym, Same_trans, value_of-same}
use Rattle.grib_packing.specs.declared.column.Point.{Point}
use Rattle.grib_packing.specs.declared.column.Point.TheVariants.{Scaled, Missing, Missing2}
use Rattle.grib_same.specs.Sameness.{is_same_point, difference_from, meant}
use Rattle.grib_same.proofs.Differences.{points_decide}
use Rattle.grib_same.proofs.Decisions.{same_tests}

point_sym : (p q : Meant) → SamePoint p q → SamePoint q p
point_sym (valued v) (valued w) same = Same_sym v w same
point_sym (valued v) missing same = absurd same
point_sym (valued v) missing2 same = absurd same
point_sym missing (valued w) same = absurd same
point_sym missing missing same = same
point_sym missing missing2 same = absurd same
point_sym missing2 (valued w) same = absurd same
point_sym missing2 missing same = absurd same
point_sym missing2 missing2 same = same

point_trans : (p q r : Meant) → SamePoint p q → SamePoint q r → SamePoint p r
point_trans (valued u) (valued v) (valued w) same then = Same_trans u v w same then
point_trans (valued u) (valued v) missing same then = absurd then
point_trans (valued u) (valued v) missing2 same then = absurd then
point_trans (valued u) missing r same then = absurd same
point_trans (valued u) missing2 r same then = absurd same
point_trans missing (valued v) r same then = absurd same
point_trans missing missing r same then = then
point_trans missing missing2 r same then = absurd same
point_trans missing2 (valued v) r same then = absurd same
point_trans missing2 missing r same then = absurd same
point_trans missing2 missing2 r same then = then

-- the test of two points is that of any two that mean the same
point_test : (p p' q q' : Meant) → SamePoint p p' → SamePoint q q' → is_same_point p q ≡ is_same_point p' q'
point_test p p' q q' left right =
    let d = points_decide p q in
    let d' = points_decide p' q' in
    same_tests (SamePoint p q) (is_same_point p q) (is_same_point p' q') d (
      λ e. point_trans p p' q left (point_trans p' q' q (d'.0 e) (point_sym q q' right)),
      λ same. d'.1 (point_trans p' p q' (point_sym p p' left) (point_trans p q q' same right)),
    )

pub difference_same : (n : ℕ) (ps ps' qs qs' : List Meant) → SameMeaning ps ps' → SameMeaning qs qs' → difference_from n ps qs ≡ difference_from n ps' qs'
difference_same n [] [] [] [] left right = refl
difference_same n [] [] (q ∷ qs) (q' ∷ qs') left right = refl
difference_same n [] [] [] (q' ∷ qs') left right = absurd right
difference_same n [] [] (q ∷ qs) [] left right = absurd right
difference_same n [] (p' ∷ ps') qs qs' left right = absurd left
difference_same n (p ∷ ps) [] qs qs' left right = absurd left
difference_same n (p ∷ ps) (p' ∷ ps') [] [] left right = refl
difference_same n (p ∷ ps) (p' ∷ ps') [] (q' ∷ qs') left right = absurd right
difference_same n (p ∷ ps) (p' ∷ ps') (q ∷ qs) [] left right = absurd right
difference_same n (p ∷ ps) (p' ∷ ps') (q ∷ qs) (q' ∷ qs') left right =
    ap (λ t. cond t (difference_from (n + 1) ps qs) (Some n)) (point_test p p' q q' left.0 right.0)
    ∙ ap (λ o. cond (is_same_point p' q') o (Some n)) (difference_same (n + 1) ps ps' qs qs' left.1 right.1)

pub length_same : (ps qs : List Meant) → SameMeaning ps qs → length ps ≡ length qs
length_same [] [] same = refl
length_same [] (q ∷ qs) same = absurd same
length_same (p ∷ ps) [] same = absurd same
length_same (p ∷ ps) (q ∷ qs) same = ap (λ n. suc n) (length_same ps qs same.1)

-- by a reference value that is the same number, points mean the same
pub points_same : (r s : Binary) (e d : ℤ) (meaning : Point → Meant) → SameNumber r s → ((x : ℤ) → meaning (Scaled x) ≡ valued (value_of s e d x))
    → meaning Missing ≡ missing → meaning Missing2 ≡ missing2 → (points : List Point) → SameMeaning (map (meant r e d) points) (map meaning points)
points_same r s e d meaning same scaled none none2 [] = tt
points_same r s e d meaning same scaled none none2 (Scaled x ∷ points) =
    (subst (SamePoint (valued (value_of r e d x))) (sym (scaled x)) (value_of-same r s e d x same), points_same r s e d meaning same scaled none none2 points)
points_same r s e d meaning same scaled none none2 (Missing ∷ points) =
    (subst (SamePoint missing) (sym none) tt, points_same r s e d meaning same scaled none none2 points)
points_same r s e d meaning same scaled none none2 (Missing2 ∷ points) =
    (subst (SamePoint missing2) (sym none2) tt, points_same r s e d meaning same scaled none none2 points)
