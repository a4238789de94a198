-- The first point that is not the same.
use Rattle.std.proofs.Common.{◌≡◌, ℕ, zero, suc, ◌+◌, ◌<◌, ◌⊎◌, ◌↔◌, inl, inr, Bool, true, false, cond, Option, None, Some, List, [], ◌∷◌, length, get_or, map, drop, refl, sym, ap, subst, ◌∙◌, arith}
use Rattle.std.proofs.lemmas.Bool.Decides.{Decides-int_eq}
use Rattle.std.proofs.lemmas.List.{drop_more, drop_all}
use Rattle.grib_dyadic.specs.Value.{Exact, Same}
use Rattle.grib_dyadic.specs.Meaning.{Meant, valued, missing, missing2, SamePoint, SameMeaning}
use Rattle.grib_packing.specs.declared.column.Point.{Point}
use Rattle.grib_same.specs.Sameness.{is_same, is_same_point, difference_from}

pub same_decides : (v w : Exact) → (is_same v w ≡ true) ↔ Same v w
same_decides v w = Decides-int_eq _ _

pub points_decide : (p q : Meant) → (is_same_point p q ≡ true) ↔ SamePoint p q
points_decide (valued v) (valued w) = same_decides v w
points_decide (valued v) missing = (λ e. let f : false ≡ true = e in cc, λ h. absurd h)
points_decide (valued v) missing2 = (λ e. let f : false ≡ true = e in cc, λ h. absurd h)
points_decide missing (valued w) = (λ e. let f : false ≡ true = e in cc, λ h. absurd h)
points_decide missing missing = (λ e. tt, λ h. refl)
points_decide missing missing2 = (λ e. let f : false ≡ true = e in cc, λ h. absurd h)
points_decide missing2 (valued w) = (λ e. let f : false ≡ true = e in cc, λ h. absurd h)
points_decide missing2 missing = (λ e. let f : false ≡ true = e in cc, λ h. absurd h)
points_decide missing2 missing2 = (λ e. tt, λ h. refl)

-- the first of the points, and the rest
head_none : (n : ℕ) (rest : Option ℕ) (t : Bool) → cond t rest (Some n) ≡ None → (t ≡ true) × (rest ≡ None)
head_none n rest true e = (refl, e)
head_none n rest false e = absurd (let f : Some n ≡ None = e in cc)

head_some : (n m : ℕ) (rest : Option ℕ) (t : Bool) → cond t rest (Some n) ≡ Some m → ((t ≡ true) × (rest ≡ Some m)) ⊎ ((t ≡ false) × (n ≡ m))
head_some n m rest true e = inl (refl, e)
head_some n m rest false e = inr (refl, let f : Some n ≡ Some m = e in cc)

pub none_means : (n : ℕ) (ps qs : List Meant) → length ps ≡ length qs → difference_from n ps qs ≡ None → SameMeaning ps qs
none_means n [] [] long e = tt
none_means n [] (q ∷ qs) long e = absurd (omega arith)
none_means n (p ∷ ps) [] long e = absurd (omega arith)
none_means n (p ∷ ps) (q ∷ qs) long e =
    let h = head_none n (difference_from (n + 1) ps qs) (is_same_point p q) e in
    ((points_decide p q).0 h.0, none_means (n + 1) ps qs (omega arith) h.1)

pub means_none : (n : ℕ) (ps qs : List Meant) → SameMeaning ps qs → difference_from n ps qs ≡ None
means_none n [] [] same = refl
means_none n [] (q ∷ qs) same = refl
means_none n (p ∷ ps) [] same = refl
means_none n (p ∷ ps) (q ∷ qs) same =
    ap (λ t. cond t (difference_from (n + 1) ps qs) (Some n)) ((points_decide p q).1 same.0) ∙ means_none (n + 1) ps qs same.1

-- the k-th points, from 0, are the first ones that are not the same
pub record IsFirst (ps qs : List Meant) (k : ℕ) : Type 0 where
  pub within : k < length ps
  pub differs : ¬ (SamePoint (get_or ps k missing) (get_or qs k missing))
  pub before : (j : ℕ) → j < k → SamePoint (get_or ps j missing) (get_or qs j missing)

before_more : (p q : Meant) (ps qs : List Meant) (k : ℕ) → SamePoint p q → ((j : ℕ) → j < k → SamePoint (get_or ps j missing) (get_or qs j missing)) → (j : ℕ) → j < suc k → SamePoint (get_or (p ∷ ps) j missing) (get_or (q ∷ qs) j missing)
before_more p q ps qs k same rest zero less = same
before_more p q ps qs k same rest (suc j) less = rest j (omega arith)

here : (p q : Meant) (ps qs : List Meant) → is_same_point p q ≡ false → IsFirst (p ∷ ps) (q ∷ qs) 0
here p q ps qs differs = record {
  within = omega arith;
  differs = λ same. let e = (points_decide p q).1 same in let f : true ≡ false = sym e ∙ differs in cc;
  before = λ j less. absurd (omega arith);
}

later : (p q : Meant) (ps qs : List Meant) (k : ℕ) → is_same_point p q ≡ true → IsFirst ps qs k → IsFirst (p ∷ ps) (q ∷ qs) (suc k)
later p q ps qs k same first = record {
  within = let less = first.within in omega arith;
  differs = first.differs;
  before = before_more p q ps qs k ((points_decide p q).0 same) first.before;
}

pub found : (n m : ℕ) (ps qs : List Meant) → difference_from n ps qs ≡ Some m → (k : ℕ) × (m ≡ n + k) × IsFirst ps qs k
found n m [] qs e = absurd (let f : None ≡ Some m = e in cc)
found n m (p ∷ ps) [] e = absurd (let f : None ≡ Some m = e in cc)
found n m (p ∷ ps) (q ∷ qs) e = elim (head_some n m (difference_from (n + 1) ps qs) (is_same_point p q) e) [
  | inl h ↦ let rest = found (n + 1) m ps qs h.1 in (suc rest.0, (let r = rest.1 in omega arith), later p q ps qs rest.0 h.0 rest.2)
  | inr h ↦ (0, (let r = h.1 in omega arith), here p q ps qs h.0)
]

pub found_first : (n : ℕ) (ps qs : List Meant) → difference_from 1 ps qs ≡ Some (n + 1) → IsFirst ps qs n
found_first n ps qs e =
    let f = found 1 (n + 1) ps qs e in
    subst (λ k. IsFirst ps qs k) {x = f.0} {y = n} (let r = f.1 in omega arith) f.2

pub never_0 : (ps qs : List Meant) → difference_from 1 ps qs ≡ Some 0 → ⊥
never_0 ps qs e = let f = found 1 0 ps qs e in let r = f.1 in omega arith

-- a step of the loop, and its end
module _ (f g : Point → Meant) (ps qs : List Point) (i : ℕ) (d : Point) where
  from_here : i < length ps → i < length qs → difference_from (i + 1) (map f (drop i ps)) (map g (drop i qs)) ≡ cond (is_same_point (f (get_or ps i d)) (g (get_or qs i d))) (difference_from (i + 1 + 1) (map f (drop (i + 1) ps)) (map g (drop (i + 1) qs))) (Some (i + 1))
  from_here less less' =
      ap (λ (l : List Point). difference_from (i + 1) (map f l) (map g (drop i qs))) (drop_more ps i d less)
      ∙ ap (λ (l : List Point). difference_from (i + 1) (map f (get_or ps i d ∷ drop (i + 1) ps)) (map g l)) (drop_more qs i d less')

  pub from_same : i < length ps → i < length qs → is_same_point (f (get_or ps i d)) (g (get_or qs i d)) ≡ true → difference_from (i + 1) (map f (drop i ps)) (map g (drop i qs)) ≡ difference_from (i + 1 + 1) (map f (drop (i + 1) ps)) (map g (drop (i + 1) qs))
  from_same less less' same =
      from_here less less' ∙ ap (λ t. cond t (difference_from (i + 1 + 1) (map f (drop (i + 1) ps)) (map g (drop (i + 1) qs))) (Some (i + 1))) same

  pub from_different : i < length ps → i < length qs → is_same_point (f (get_or ps i d)) (g (get_or qs i d)) ≡ false → difference_from (i + 1) (map f (drop i ps)) (map g (drop i qs)) ≡ Some (i + 1)
  from_different less less' differs =
      from_here less less' ∙ ap (λ t. cond t (difference_from (i + 1 + 1) (map f (drop (i + 1) ps)) (map g (drop (i + 1) qs))) (Some (i + 1))) differs

  pub from_end : length ps ≡ i → difference_from (i + 1) (map f (drop i ps)) (map g (drop i qs)) ≡ None
  from_end long = ap (λ (l : List Point). difference_from (i + 1) (map f l) (map g (drop i qs))) (drop_all i ps (omega arith))
