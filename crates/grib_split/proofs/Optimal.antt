-- A best first group, and a chosen grouping of what follows it, are a chosen grouping.
use Rattle.std.proofs.Common.{◌≡◌, ℕ, zero, suc, ◌+◌, ◌-◌, ◌<◌, ◌≤◌, List, [], ◌∷◌, length, get_or, take, drop, ap, sym, ◌∙◌, subst, arith, length-drop}
use Rattle.std.specs.Prelude.{slice_index}
use Rattle.std.specs.List.{sum}
use Rattle.std.proofs.lemmas.List.Sums.{sum_by-cons}
use Rattle.std.proofs.lemmas.List.Elements.{All-head, All-tail, All-cons}
use Rattle.grib_base.specs.declared.code.Code.{Code}
use Rattle.grib_packing.specs.Groupings.{IsGrouping, cost_of, Chosen}
use Rattle.grib_split.specs.Least.{IsLeast, with_first, Best, AreLeastAfter}

-- ---- groupings and their first groups

-- a length that is allowed
abbrev pub Allowed : ℕ → Type 0
Allowed l = (1 ≤ l) × (l ≤ 64)

pub sum-cons : (n : ℕ) (ns : List ℕ) → sum (n ∷ ns) ≡ n + sum ns
sum-cons n ns = sum_by-cons (λ x. x) n ns

-- what a grouping says of its first group and of the others
pub record Parts (n l : ℕ) (ls : List ℕ) : Type 0 where
  pub some : 1 ≤ l
  pub most : l ≤ 64
  pub fits : l ≤ n
  pub rest : IsGrouping (n - l) ls

pub parts : (n l : ℕ) (ls : List ℕ) → IsGrouping n (l ∷ ls) → Parts n l ls
parts n l ls g =
    let head : Allowed l = All-head Allowed l ls g.each in
    let total : l + sum ls ≡ n = sym (sum-cons l ls) ∙ g.total in
    record {
      some = head.0;
      most = head.1;
      fits = omega (arith, total);
      rest = record { each = All-tail Allowed l ls g.each; total = omega (arith, total) };
    }

pub joined : (n l : ℕ) (ls : List ℕ) → 1 ≤ l → l ≤ 64 → l ≤ n → IsGrouping (n - l) ls → IsGrouping n (l ∷ ls)
joined n l ls some most fits g = record {
  each = All-cons Allowed l ls (some, most) g.each;
  total = sum-cons l ls ∙ (let e : l + sum ls ≡ n = omega (arith, g.total) in e);
}

pub none_of_some : (n : ℕ) → 1 ≤ n → IsGrouping n [] → ⊥
none_of_some n some g = let e : 0 ≡ n = g.total in omega arith

-- the same of the groupings of codes
pub code_parts : (codes : List Code) (l : ℕ) (ls : List ℕ) → IsGrouping (length codes) (l ∷ ls) → IsGrouping (length (drop l codes)) ls
code_parts codes l ls g =
    let P : ℕ → Type 0 = λ n. IsGrouping n ls in subst P (sym (length-drop l codes)) (parts (length codes) l ls g).rest

pub code_joined : (codes : List Code) (l : ℕ) (ls : List ℕ) → 1 ≤ l → l ≤ 64 → l ≤ length codes → IsGrouping (length (drop l codes)) ls
    → IsGrouping (length codes) (l ∷ ls)
code_joined codes l ls some most fits g =
    let P : ℕ → Type 0 = λ n. IsGrouping n ls in joined (length codes) l ls some most fits (subst P (length-drop l codes) g)

-- ---- the step

-- no grouping costs less than the best first group with the least rest
best_least : (header : ℕ) (width : List Code → ℕ) (codes : List Code) (after : ℕ → ℕ) (n : ℕ)
    → Best header width codes after n → AreLeastAfter header width codes after
    → (other : List ℕ) → IsGrouping (length codes) other
    → with_first header width codes n (after n) ≤ cost_of header width other codes
best_least header width codes after n best rests [] g = absurd (none_of_some (length codes) (omega (arith, best.some, best.fits)) g)
best_least header width codes after n best rests (l ∷ ls) g =
    let p = parts (length codes) l ls g in
    let here = best.least l p.some p.most p.fits in
    let rest = (rests l p.some p.most p.fits).least ls (code_parts codes l ls g) in
    omega (arith, here, rest)

pub least_step : (header : ℕ) (width : List Code → ℕ) (codes : List Code) (after : ℕ → ℕ) (n : ℕ)
    → Best header width codes after n → AreLeastAfter header width codes after
    → IsLeast header width codes (with_first header width codes n (after n))
least_step header width codes after n best rests =
    let rest = rests n best.some best.most best.fits in
    record {
      lengths = n ∷ rest.lengths;
      grouping = code_joined codes n rest.lengths best.some best.most best.fits rest.grouping;
      reached = ap (λ c. with_first header width codes n c) rest.reached;
      least = best_least header width codes after n best rests;
    }

-- a chosen grouping has the least cost
chosen_cost : (header : ℕ) (width : List Code → ℕ) (codes : List Code) (lengths : List ℕ) (cost : ℕ)
    → Chosen header width codes lengths → IsLeast header width codes cost → cost_of header width lengths codes ≡ cost
chosen_cost header width codes lengths cost c l =
    let low = l.least lengths c.grouping in
    let high = c.least l.lengths l.grouping in
    omega (arith, low, high, l.reached)

-- of another grouping of the same cost the first length is not smaller
first_here : (header : ℕ) (width : List Code → ℕ) (codes : List Code) (after : ℕ → ℕ) (n l : ℕ) (ls : List ℕ)
    → Best header width codes after n → AreLeastAfter header width codes after → IsGrouping (length codes) (l ∷ ls)
    → cost_of header width (l ∷ ls) codes ≡ with_first header width codes n (after n) → n ≤ l
first_here header width codes after n l ls best rests g same =
    let p = parts (length codes) l ls g in
    let rest = (rests l p.some p.most p.fits).least ls (code_parts codes l ls g) in
    let smaller : l < n → with_first header width codes n (after n) < with_first header width codes l (after l) = best.first l p.some in
    grind (arith, smaller, rest, same)

pub chosen_step : (header : ℕ) (width : List Code → ℕ) (codes : List Code) (after : ℕ → ℕ) (n : ℕ) (rest : List ℕ)
    → Best header width codes after n → AreLeastAfter header width codes after
    → Chosen header width (drop n codes) rest → Chosen header width codes (n ∷ rest)
chosen_step header width codes after n rest best rests c =
    let cost : cost_of header width rest (drop n codes) ≡ after n =
    chosen_cost header width (drop n codes) rest (after n) c (rests n best.some best.most best.fits) in
    let whole : cost_of header width (n ∷ rest) codes ≡ with_first header width codes n (after n) =
    ap (λ k. with_first header width codes n k) cost in
    record {
      grouping = code_joined codes n rest best.some best.most best.fits c.grouping;
      least = λ other g. omega (arith, whole, best_least header width codes after n best rests other g);
      first = chosen_first header width codes after n rest best rests c whole;
    }
  where
    chosen_first : (header : ℕ) (width : List Code → ℕ) (codes : List Code) (after : ℕ → ℕ) (n : ℕ) (rest : List ℕ)
        → Best header width codes after n → AreLeastAfter header width codes after
        → Chosen header width (drop n codes) rest
        → cost_of header width (n ∷ rest) codes ≡ with_first header width codes n (after n)
        → (other : List ℕ) → IsGrouping (length codes) other
        → cost_of header width other codes ≡ cost_of header width (n ∷ rest) codes
        → (k : ℕ) → take k (n ∷ rest) ≡ take k other → slice_index (n ∷ rest) k ≤ slice_index other k
    chosen_first header width codes after n rest best rests c whole [] g same k e =
        absurd (none_of_some (length codes) (omega (arith, best.some, best.fits)) g)
    chosen_first header width codes after n rest best rests c whole (l ∷ ls) g same zero e =
        first_here header width codes after n l ls best rests g (same ∙ whole)
    chosen_first header width codes after n rest best rests c whole (l ∷ ls) g same (suc k) e =
        let head : n ≡ l = ap (λ xs. get_or xs 0 0) e in
        let tail : take k rest ≡ take k ls = ap (drop 1) e in
        let P : ℕ → Type 0 = λ m. IsGrouping (length (drop m codes)) ls in
        let rest_grouping = subst P (sym head) (code_parts codes l ls g) in
        let Q : ℕ → Type 0 = λ m. with_first header width codes m (cost_of header width ls (drop m codes)) ≡ cost_of header width (n ∷ rest) codes in
        let at_n : with_first header width codes n (cost_of header width ls (drop n codes)) ≡ cost_of header width (n ∷ rest) codes = subst Q (sym head) same in
        c.first ls rest_grouping (omega (arith, at_n)) k tail
