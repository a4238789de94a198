-- Numbers that are undone one after another, as the front of all of them.
use Rattle.std.proofs.Common.{◌≡◌, ℕ, suc, ◌+◌, ◌<◌, ◌≤◌, true, false, List, [], ◌∷◌, ◌++◌, length, get_or, drop, ℤ, ap, sym, ◌∙◌, subst, arith, append_assoc, drop-cons, length-append, append-nil}
use Rattle.std.proofs.lemmas.List.{drop_all}
use Rattle.grib_base.specs.Rules.{first_place}
use Rattle.grib_base.proofs.Places.{NoneOf, none-append, first_place-none, first_place-at}
use Rattle.grib_packing.specs.Differences.{Descriptors, Last, next_number, last_after, undone_from, is_beyond}

-- this many codes have given these numbers, and the others will give the rest of all
pub record Gave (d : Descriptors) (last : Last) (codes : List ℕ) (taken : ℕ) (numbers all : List ℤ) : Type 0 where
  pub rest : numbers ++ undone_from d last (drop taken codes) ≡ all
  pub within : NoneOf is_beyond numbers
  pub count : length numbers ≡ taken

-- the next number is the next of all
pub next_of_all : (d : Descriptors) (last : Last) (codes : List ℕ) (taken code : ℕ) (numbers all : List ℤ)
    → taken < length codes → get_or codes taken 0 ≡ code → Gave d last codes taken numbers all
    → (numbers ++ next_number d last code ∷ undone_from d (last_after d last (next_number d last code)) (drop (taken + 1) codes)) ≡ all
next_of_all d last codes taken code numbers all more is g =
    let next : drop taken codes ≡ code ∷ drop (taken + 1) codes =
    drop-cons codes taken 0 more ∙ (ap (λ c. c ∷ drop (suc taken) codes) is ∙ (let e : suc taken ≡ taken + 1 = omega arith in ap (λ k. code ∷ drop k codes) e)) in
    ap (λ cs. numbers ++ undone_from d last cs) (sym next) ∙ g.rest

-- one code more
pub gave_next : (d : Descriptors) (last : Last) (codes : List ℕ) (taken code : ℕ) (numbers all : List ℤ) (number : ℤ)
    → taken < length codes → get_or codes taken 0 ≡ code → number ≡ next_number d last code → is_beyond (next_number d last code) ≡ false
    → Gave d last codes taken numbers all
    → Gave d (last_after d last (next_number d last code)) codes (taken + 1) (numbers ++ number ∷ []) all
gave_next d last codes taken code numbers all number more is e off g =
    let P : ℤ → Type 0 = λ x. Gave d (last_after d last (next_number d last code)) codes (taken + 1) (numbers ++ x ∷ []) all in
    let x : ℤ = next_number d last code in
    subst P (sym e) record {
      rest = append_assoc numbers (x ∷ []) _ ∙ next_of_all d last codes taken code numbers all more is g;
      within = none-append is_beyond numbers (x ∷ []) g.within (off, tt);
      count = omega (arith, g.count, length-append numbers (x ∷ []));
    }

-- the next number is the first outside the range
pub gave_beyond : (d : Descriptors) (last : Last) (codes : List ℕ) (taken code : ℕ) (numbers all : List ℤ)
    → taken < length codes → get_or codes taken 0 ≡ code → is_beyond (next_number d last code) ≡ true
    → Gave d last codes taken numbers all → first_place is_beyond all ≡ length numbers + 1
gave_beyond d last codes taken code numbers all more is on g =
    ap (first_place is_beyond) (sym (next_of_all d last codes taken code numbers all more is g))
    ∙ first_place-at is_beyond numbers (next_number d last code) _ g.within on

-- all codes have given all numbers
pub gave_all : (d : Descriptors) (last : Last) (codes : List ℕ) (taken : ℕ) (numbers all : List ℤ)
    → length codes ≤ taken → Gave d last codes taken numbers all → (numbers ≡ all) × (first_place is_beyond all ≡ 0)
gave_all d last codes taken numbers all done g =
    let none : drop taken codes ≡ [] = drop_all taken codes done in
    let e : numbers ++ [] ≡ all = ap (λ cs. numbers ++ undone_from d last cs) (sym none) ∙ g.rest in
    let same : numbers ≡ all = sym (append-nil numbers) ∙ e in
    (same, ap (first_place is_beyond) (sym same) ∙ first_place-none is_beyond numbers g.within)
