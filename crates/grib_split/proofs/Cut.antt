-- A grouping that is cut into two costs one header more at most.
use Rattle.std.proofs.Common.{◌≡◌, ◌⊎◌, inl, inr, ℕ, ◌+◌, ◌-◌, ◌*◌, ◌<◌, ◌≤◌, List, [], ◌∷◌, length, take, drop, All, ap, sym, ◌∙◌, refl, subst, arith, length-drop, drop-drop}
use Rattle.std.proofs.Math.Nat.{mul-le-mul_left}
use Rattle.std.proofs.lemmas.List.{take-take, drop-take, length-take-le}
use Rattle.std.proofs.lemmas.List.Elements.{All-take, All-drop}
use Rattle.grib_base.specs.declared.code.Code.{Code}
use Rattle.grib_packing.specs.Groupings.{IsGrouping, cost_of, width_of}
use Rattle.grib_codes.specs.Span.{IsTold}
use Rattle.grib_split.specs.Bound.{NoneTakesFewer}
use Rattle.grib_split.proofs.Narrow.{narrower_front, narrower_back}
use Rattle.grib_split.proofs.Optimal.{parts, joined, code_parts}

-- ---- two groupings from one

-- groupings of the first n codes and of the others, which cost one header more at most
pub record Cut (header : ℕ) (width : List Code → ℕ) (lengths : List ℕ) (codes : List Code) (n : ℕ) : Type 0 where
  pub front : List ℕ
  pub back : List ℕ
  pub in_front : IsGrouping n front
  pub behind : IsGrouping (length codes - n) back
  pub cost : cost_of header width front (take n codes) + cost_of header width back (drop n codes) ≤ cost_of header width lengths codes + header

empty_grouping : IsGrouping 0 []
empty_grouping = record { each = λ k d within. absurd (omega arith); total = refl }

-- nothing is in front
cut_nothing : (header : ℕ) (width : List Code → ℕ) (lengths : List ℕ) (codes : List Code) → IsGrouping (length codes) lengths → Cut header width lengths codes 0
cut_nothing header width lengths codes g = record {
  front = [];
  back = lengths;
  in_front = empty_grouping;
  behind = (let P : ℕ → Type 0 = λ m. IsGrouping m lengths in let e : length codes ≡ length codes - 0 = omega arith in subst P e g);
  cost = omega arith;
}

-- the first run ends before the cut, or at it
cut_later : (header : ℕ) (width : List Code → ℕ) (l : ℕ) (ls : List ℕ) (codes : List Code) (n : ℕ) → IsGrouping (length codes) (l ∷ ls)
    → l ≤ n → n ≤ length codes → Cut header width ls (drop l codes) (n - l) → Cut header width (l ∷ ls) codes n
cut_later header width l ls codes n g before within cut =
    let p = parts (length codes) l ls g in
    let P : ℕ → Type 0 = λ m. IsGrouping m cut.back in
    let left : length (drop l codes) - (n - l) ≡ length codes - n = omega (arith, length-drop l codes) in
    let sum : n ≡ l + (n - l) = omega arith in
    let front_codes : drop l (take n codes) ≡ take (n - l) (drop l codes) = ap (λ m. drop l (take m codes)) sum ∙ drop-take l (n - l) codes in
    let back_codes : drop (n - l) (drop l codes) ≡ drop n codes = drop-drop (n - l) l codes ∙ ap (λ m. drop m codes) (sym sum) in
    let first : width (take l (take n codes)) ≡ width (take l codes) = ap width (take-take l n codes before) in
    let numbers : l * width (take l (take n codes)) ≡ l * width (take l codes) = ap (λ w. l * w) first in
    let front_cost : cost_of header width cut.front (drop l (take n codes)) ≡ cost_of header width cut.front (take (n - l) (drop l codes)) =
    ap (cost_of header width cut.front) front_codes in
    let back_cost : cost_of header width cut.back (drop (n - l) (drop l codes)) ≡ cost_of header width cut.back (drop n codes) =
    ap (cost_of header width cut.back) back_codes in
    record {
      front = l ∷ cut.front;
      back = cut.back;
      in_front = joined n l cut.front p.some p.most before cut.in_front;
      behind = subst P left cut.behind;
      cost = omega (arith, numbers, front_cost, back_cost, cut.cost);
    }

-- the first run is cut
cut_here : (header k l : ℕ) (ls : List ℕ) (codes : List Code) (n : ℕ) → k ≤ 2 → All (IsTold k) codes → IsGrouping (length codes) (l ∷ ls)
    → 1 ≤ n → n < l → Cut header (width_of k) (l ∷ ls) codes n
cut_here header k l ls codes n few told g some before =
    let p = parts (length codes) l ls g in
    let width = width_of k in
    let run = take l codes in
    let run_told = All-take (IsTold k) l codes told in
    let sum : l ≡ n + (l - n) = omega arith in
    let front_run : take n (take n codes) ≡ take n run = take-take n n codes (omega arith) ∙ sym (take-take n l codes (omega arith)) in
    let back_run : take (l - n) (drop n codes) ≡ drop n run = sym (ap (λ m. drop n (take m codes)) sum ∙ drop-take n (l - n) codes) in
    let after : drop (l - n) (drop n codes) ≡ drop l codes = drop-drop (l - n) n codes ∙ ap (λ m. drop m codes) (sym sum) in
    let front_width : width (take n (take n codes)) ≤ width run = subst (λ xs. width xs ≤ width run) (sym front_run) (narrower_front k n run few run_told) in
    let back_width : width (take (l - n) (drop n codes)) ≤ width run = subst (λ xs. width xs ≤ width run) (sym back_run) (narrower_back k n run few run_told) in
    let after_cost : cost_of header width ls (drop (l - n) (drop n codes)) ≡ cost_of header width ls (drop l codes) = ap (cost_of header width ls) after in
    record {
      front = n ∷ [];
      back = (l - n) ∷ ls;
      in_front = joined n n [] some (omega (arith, p.most)) (omega arith) (subst (λ m. IsGrouping m []) (let e : 0 ≡ n - n = omega arith in e) empty_grouping);
      behind = joined (length codes - n) (l - n) ls (omega arith) (omega (arith, p.most)) (omega (arith, p.fits))
          (subst (λ m. IsGrouping m ls) (let e : length codes - l ≡ length codes - n - (l - n) = omega arith in e) p.rest);
      cost = omega (arith, mul-le-mul_left n front_width, mul-le-mul_left (l - n) back_width, split_run l n (width run) (omega arith), after_cost);
    }
  where
    split_run : (l n w : ℕ) → n ≤ l → l * w ≡ n * w + (l - n) * w
    split_run l n w within = let sum : l ≡ n + (l - n) = omega arith in ap (λ m. m * w) sum ∙ omega arith

pub cut : (header k : ℕ) (lengths : List ℕ) (codes : List Code) (n : ℕ) → k ≤ 2 → All (IsTold k) codes → IsGrouping (length codes) lengths
    → n ≤ length codes → Cut header (width_of k) lengths codes n
cut header k [] codes n few told g within =
    let none : 0 ≡ length codes = g.total in
    subst (Cut header (width_of k) [] codes) (let e : 0 ≡ n = omega (arith, none, within) in e) (cut_nothing header (width_of k) [] codes g)
cut header k (l ∷ ls) codes n few told g within = elim (nothing_or_some n) [
  | inl e ↦ subst (Cut header (width_of k) (l ∷ ls) codes) (sym e) (cut_nothing header (width_of k) (l ∷ ls) codes g)
  | inr some ↦ elim (before_or_within l n) [
    | inl before ↦
        cut_later header (width_of k) l ls codes n g before within
        (cut header k ls (drop l codes) (n - l) few (All-drop (IsTold k) l codes told) (code_parts codes l ls g) (omega (arith, within, length-drop l codes)))
    | inr inside ↦ cut_here header k l ls codes n few told g some inside
  ]
]
  where
    nothing_or_some : (n : ℕ) → (n ≡ 0) ⊎ (1 ≤ n)
    nothing_or_some n = grind arith

    before_or_within : (l n : ℕ) → (l ≤ n) ⊎ (n < l)
    before_or_within l n = grind arith

-- ---- bits that no grouping goes below

-- the codes in front may count without a header
pub none_fewer_cut : (header k : ℕ) (codes : List Code) (n bits rest : ℕ) → k ≤ 2 → All (IsTold k) codes → 1 ≤ n → n ≤ length codes
    → NoneTakesFewer header (width_of k) (take n codes) bits → NoneTakesFewer header (width_of k) (drop n codes) rest
    → NoneTakesFewer header (width_of k) codes (bits - header + rest)
none_fewer_cut header k codes n bits rest few told some within front back lengths g =
    let c = cut header k lengths codes n few told g within in
    let P : ℕ → Type 0 = λ m. IsGrouping m c.front in
    let Q : ℕ → Type 0 = λ m. IsGrouping m c.back in
    let front_cost = front c.front (subst P (sym (length-take-le n codes within)) c.in_front) in
    let back_cost = back c.back (subst Q (sym (length-drop n codes)) c.behind) in
    let one : header ≤ cost_of header (width_of k) c.front (take n codes) = a_header header (width_of k) c.front (take n codes) n some c.in_front in
    omega (arith, front_cost, back_cost, one, c.cost)
  where
    a_header : (header : ℕ) (width : List Code → ℕ) (lengths : List ℕ) (codes : List Code) (n : ℕ) → 1 ≤ n → IsGrouping n lengths
        → header ≤ cost_of header width lengths codes
    a_header header width [] codes n some g = let none : 0 ≡ n = g.total in absurd (omega (arith, none))
    a_header header width (l ∷ ls) codes n some g = omega arith

-- bits that each first run allows, with those of the codes behind it
pub none_fewer_first : (header : ℕ) (width : List Code → ℕ) (codes : List Code) (bits : ℕ) (rest : ℕ → ℕ) → 1 ≤ length codes
    → ((l : ℕ) → 1 ≤ l → l ≤ length codes → bits ≤ header + l * width (take l codes) + rest l)
    → ((l : ℕ) → 1 ≤ l → l ≤ length codes → NoneTakesFewer header width (drop l codes) (rest l))
    → NoneTakesFewer header width codes bits
none_fewer_first header width codes bits rest some each behind [] g = let none : 0 ≡ length codes = g.total in absurd (omega (arith, none))
none_fewer_first header width codes bits rest some each behind (l ∷ ls) g =
    let p = parts (length codes) l ls g in
    omega (arith, each l p.some p.fits, behind l p.some p.fits ls (code_parts codes l ls g))
