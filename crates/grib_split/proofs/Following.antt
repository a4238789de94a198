-- The lengths that follow the choices are the chosen grouping.
use Rattle.std.proofs.Common.{◌≡◌, ℕ, suc, ◌+◌, ◌*◌, ◌<◌, ◌≤◌, List, [], ◌∷◌, length, get_or, take, drop, All, refl, ap, ap₂, sym, ◌∙◌, subst, arith, length-drop, drop-drop}
use Rattle.std.specs.Prelude.{slice_index}
use Rattle.std.specs.List.{sum}
use Rattle.std.proofs.lemmas.List.{get_or-drop}
use Rattle.std.proofs.lemmas.List.Elements.{All-head, All-tail}
use Rattle.grib_base.specs.declared.code.Code.{Code}
use Rattle.grib_packing.specs.Groupings.{IsGrouping, cost_of, Chosen}
use Rattle.grib_split.specs.Least.{IsHead, AreHeads, Follows}
use Rattle.grib_split.proofs.Optimal.{Allowed, sum-cons, parts, code_parts, code_joined}

-- ---- there is one chosen grouping

-- lists of lengths with one sum are the same where the first difference cannot be
same_lists : (a b : List ℕ) → All Allowed a → All Allowed b → sum a ≡ sum b
    → ((k : ℕ) → take k a ≡ take k b → slice_index a k ≡ slice_index b k) → a ≡ b
same_lists [] [] p q e h = refl
same_lists [] (y ∷ ys) p q e h = absurd (let low = All-head Allowed y ys q in omega (arith, e, sum-cons y ys, low.0))
same_lists (x ∷ xs) [] p q e h = absurd (let low = All-head Allowed x xs p in omega (arith, e, sum-cons x xs, low.0))
same_lists (x ∷ xs) (y ∷ ys) p q e h =
    let head : x ≡ y = h 0 refl in
    let total : sum xs ≡ sum ys = omega (arith, e, sum-cons x xs, sum-cons y ys, head) in
    let tail : xs ≡ ys =
    same_lists xs ys (All-tail Allowed x xs p) (All-tail Allowed y ys q) total (λ k same. h (suc k) (ap₂ ◌∷◌ head same)) in
    ap₂ ◌∷◌ head tail

at_most_both : (m n : ℕ) → m ≤ n → n ≤ m → m ≡ n
at_most_both m n a b = omega arith

pub only_chosen : (header : ℕ) (width : List Code → ℕ) (codes : List Code) (a b : List ℕ)
    → Chosen header width codes a → Chosen header width codes b → a ≡ b
only_chosen header width codes a b p q =
    let cost : cost_of header width b codes ≡ cost_of header width a codes =
    at_most_both (cost_of header width b codes) (cost_of header width a codes) (q.least a p.grouping) (p.least b q.grouping) in
    same_lists a b p.grouping.each q.grouping.each (p.grouping.total ∙ sym q.grouping.total)
    (λ k e. at_most_both (slice_index a k) (slice_index b k) (p.first b q.grouping cost k e) (q.first a p.grouping (sym cost) k (sym e)))

-- ---- what follows the first group of a chosen grouping is chosen

pub chosen_tail : (header : ℕ) (width : List Code → ℕ) (codes : List Code) (n : ℕ) (rest : List ℕ)
    → Chosen header width codes (n ∷ rest) → Chosen header width (drop n codes) rest
chosen_tail header width codes n rest c =
    let p = parts (length codes) n rest c.grouping in
    let more = λ (other : List ℕ) (g : IsGrouping (length (drop n codes)) other). code_joined codes n other p.some p.most p.fits g in
    record {
      grouping = code_parts codes n rest c.grouping;
      least = λ other g. let low = c.least (n ∷ other) (more other g) in omega (arith, low);
      first = λ other g same k e. c.first (n ∷ other) (more other g) (ap (λ r. header + n * width (take n codes) + r) same) (suc k) (ap (λ xs. n ∷ xs) e);
    }

-- ---- lengths that follow choices

-- the choices from a place on
rest_follows : (choices : List ℕ) (n : ℕ) (rest : List ℕ) → n ≤ length choices → Follows choices (n ∷ rest) → Follows (drop n choices) rest
rest_follows choices n rest fits f = record {
  total = omega (arith, f.total, sum-cons n rest, length-drop n choices);
  within = λ k within.
      let there = f.within (suc k) (omega arith) in
      omega (arith, there, sum-cons n (take k rest), length-drop n choices);
  each = λ k within.
      f.each (suc k) (omega arith)
      ∙ (ap (λ i. get_or choices i 0) (sum-cons n (take k rest)) ∙ sym (get_or-drop n choices (sum (take k rest)) 0));
}

rest_heads : (header : ℕ) (width : List Code → ℕ) (codes : List Code) (choices : List ℕ) (n : ℕ)
    → AreHeads header width codes choices → AreHeads header width (drop n codes) (drop n choices)
rest_heads header width codes choices n h i within =
    let there : n + i < length codes = omega (arith, length-drop n codes) in
    let P : List Code → Type 0 = λ cs. IsHead header width cs (slice_index choices (n + i)) in
    let Q : ℕ → Type 0 = λ l. IsHead header width (drop i (drop n codes)) l in
    subst Q (sym (get_or-drop n choices i 0)) (subst P (sym (drop-drop i n codes)) (h (n + i) there))

pub none_chosen : (header : ℕ) (width : List Code → ℕ) (codes : List Code) → length codes ≡ 0 → Chosen header width codes []
none_chosen header width codes none = record {
  grouping = record { each = λ k d within. absurd (omega arith); total = sym none };
  least = λ other g. omega arith;
  first = λ other g same k e. omega arith;
}

pub following_chosen : (header : ℕ) (width : List Code → ℕ) (lengths : List ℕ) (codes : List Code) (choices : List ℕ)
    → length choices ≡ length codes → AreHeads header width codes choices → Follows choices lengths
    → Chosen header width codes lengths
following_chosen header width [] codes choices same h f = none_chosen header width codes (omega (arith, f.total, same))
following_chosen header width (n ∷ rest) codes choices same h f =
    let some : 0 < length choices = f.within 0 (omega arith) in
    let first = h 0 (omega (arith, some, same)) in
    let is : n ≡ slice_index choices 0 = f.each 0 (omega arith) in
    let P : ℕ → Type 0 = λ m. Chosen header width codes (m ∷ first.0) in
    let chosen : Chosen header width codes (n ∷ first.0) = subst P (sym is) first.1 in
    let fits : n ≤ length choices = omega (arith, (parts (length codes) n first.0 chosen.grouping).fits, same) in
    let here : Chosen header width (drop n codes) rest =
    following_chosen header width rest (drop n codes) (drop n choices) (omega (arith, same, length-drop n codes, length-drop n choices))
    (rest_heads header width codes choices n h) (rest_follows choices n rest fits f) in
    let one : first.0 ≡ rest = only_chosen header width (drop n codes) first.0 rest (chosen_tail header width codes n first.0 chosen) here in
    let Q : List ℕ → Type 0 = λ ls. Chosen header width codes (n ∷ ls) in
    subst Q one chosen
