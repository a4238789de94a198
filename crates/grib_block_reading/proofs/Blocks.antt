-- Blocks of codes that become numbers in place, one after another.
use Rattle.std.proofs.Common.{◌≡◌, ℕ, suc, ◌+◌, ◌-◌, ◌*◌, ◌/◌, ◌<◌, ◌≤◌, List, [], ◌∷◌, ◌++◌, length, get_or, take, drop, set, refl, sym, ap, subst, ◌∙◌, append_assoc, append-nil, add-one, arith, drop-cons}
use Rattle.std.specs.List.{All}
use Rattle.std.proofs.Math.Seq.{take-suc, take-suc-set}
use Rattle.std.proofs.lemmas.List.{take_all, drop-set-lt}
use Rattle.std.proofs.lemmas.List.Elements.{All-push, All-nil}
use Rattle.std.proofs.lemmas.List.Sums.{sum_by-cons}
use Rattle.grib_coding.specs.Mapped.{reach, mapped, half, halves, codes_after, HaveCodes}
use Rattle.grib_coding.proofs.Folds.{unfolded, by_parity}

-- The first `place` codes have become their numbers, of which `last` is the last one; the other codes stand.
pub record SoFar (most before : ℕ) (codes now : List ℕ) (place last : ℕ) : Type 0 where
  pub whatever : (rest : List ℕ) → codes_after most before (take place now ++ rest) ≡ take place codes ++ codes_after most last rest
  pub numbers : All (λ number. number ≤ most) (take place now)
  pub left : drop place now ≡ drop place codes
  pub last_within : last ≤ most

pub begin : (most before : ℕ) (codes : List ℕ) → before ≤ most → SoFar most before codes codes 0 before
begin most before codes b = record {
  whatever = λ rest. refl;
  numbers = All-nil (λ number. number ≤ most);
  left = refl;
  last_within = b;
}

pub here : (most before : ℕ) (codes now : List ℕ) (place last : ℕ) → SoFar most before codes now place last
    → place < length codes → length now ≡ length codes → get_or now place 0 ≡ get_or codes place 0
here most before codes now place last so within same =
    let within_now : place < length now = omega (arith, same) in
    let one : drop place now ≡ get_or now place 0 ∷ drop (suc place) now = drop-cons now place 0 within_now in
    let two : drop place codes ≡ get_or codes place 0 ∷ drop (suc place) codes = drop-cons codes place 0 within in
    let left : drop place now ≡ drop place codes = so.left in
    cc

pub next : (most before : ℕ) (codes now : List ℕ) (place last number : ℕ) → SoFar most before codes now place last
    → place < length codes → length now ≡ length codes → number ≤ most → mapped most last number ≡ get_or codes place 0
    → SoFar most before codes (set now place number) (place + 1) number
next most before codes now place last number so within same small is =
    let within_now : place < length now = omega (arith, same) in
    let taken : take (place + 1) (set now place number) ≡ take place now ++ number ∷ [] =
    rw add-one (take-suc-set now place number within_now) in
    let code_taken : take (place + 1) codes ≡ take place codes ++ get_or codes place 0 ∷ [] =
    rw add-one (take-suc codes place 0 within) in
    record {
      whatever = λ rest.
          ap (λ front. codes_after most before (front ++ rest)) taken
          ∙ (ap (codes_after most before) (append_assoc (take place now) (number ∷ []) rest)
          ∙ (so.whatever (number ∷ rest)
          ∙ (ap (λ code. take place codes ++ code ∷ codes_after most number rest) is
          ∙ (sym (append_assoc (take place codes) (get_or codes place 0 ∷ []) (codes_after most number rest))
          ∙ ap (λ front. front ++ codes_after most number rest) (sym code_taken)))));
      numbers = let P : List ℕ → Type 0 = All (λ n. n ≤ most) in
          subst P (sym taken) (All-push (λ n. n ≤ most) (take place now) number so.numbers small);
      left =
          let one : drop place now ≡ get_or now place 0 ∷ drop (suc place) now = drop-cons now place 0 within_now in
          let two : drop place codes ≡ get_or codes place 0 ∷ drop (suc place) codes = drop-cons codes place 0 within in
          let left : drop place now ≡ drop place codes = so.left in
          let rest : drop (suc place) now ≡ drop (suc place) codes = cc in
          let after : drop (suc place) (set now place number) ≡ drop (suc place) now = drop-set-lt (suc place) now place number (omega arith) in
          rw add-one (after ∙ rest);
      last_within = small;
    }

-- what they are where the others are left out
pub cut : (most before : ℕ) (codes now : List ℕ) (place last : ℕ) → SoFar most before codes now place last
    → HaveCodes most before (take place codes) (take place now)
cut most before codes now place last so = record {
  within = so.numbers;
  told = ap (codes_after most before) (sym (append-nil (take place now)))
      ∙ (so.whatever [] ∙ append-nil (take place codes));
}

pub done : (most before : ℕ) (codes now : List ℕ) (place last : ℕ) → SoFar most before codes now place last
    → length now ≡ length codes → length codes ≤ place → HaveCodes most before codes now
done most before codes now place last so same all = record {
  within = let P : List ℕ → Type 0 = All (λ n. n ≤ most) in subst P (take_all place now (omega (arith, same))) so.numbers;
  told = ap (codes_after most before) (sym (take_all place now (omega (arith, same))))
      ∙ ((cut most before codes now place last so).told ∙ take_all place codes all);
}

-- the halves of what is left, behind a code within reach
pub still_near : (most last number place : ℕ) (codes : List ℕ) → place < length codes
    → halves (drop place codes) ≤ reach most last → last ≤ most → number ≤ most → mapped most last number ≡ get_or codes place 0
    → halves (drop (place + 1) codes) ≤ reach most number
still_near most last number place codes within near b small is =
    let cut : halves (drop place codes) ≡ half (get_or codes place 0) + halves (drop (suc place) codes) =
    ap halves (drop-cons codes place 0 within) ∙ sum_by-cons half (get_or codes place 0) (drop (suc place) codes) in
    let told : half (get_or codes place 0) ≡ (number - last) + (last - number) =
    unfolded most last number (get_or codes place 0) b small is (omega (arith, cut)) in
    rw add-one (omega (arith, cut, told))

-- the first of the halves that are left
pub near_here : (place limit : ℕ) (codes : List ℕ) → place < length codes → halves (drop place codes) ≤ limit
    → half (get_or codes place 0) ≤ limit
near_here place limit codes within near =
    let cut : halves (drop place codes) ≡ half (get_or codes place 0) + halves (drop (suc place) codes) =
    ap halves (drop-cons codes place 0 within) ∙ sum_by-cons half (get_or codes place 0) (drop (suc place) codes) in
    omega (arith, cut)

-- a number by the parity of its code, where all halves are few
pub parity_here : (most before number place last : ℕ) (codes now : List ℕ) → SoFar most before codes now place last
    → place < length codes → length now ≡ length codes → halves (drop place codes) ≤ reach most last
    → (let code = get_or now place 0 in code ≡ 2 * (code / 2) → number ≡ last + code / 2)
    → (let code = get_or now place 0 in code ≡ 2 * (code / 2) + 1 → number + half code ≡ last)
    → (number ≤ most) × (mapped most last number ≡ get_or codes place 0)
parity_here most before number place last codes now so within same near even odd =
    let code = get_or codes place 0 in
    let is : get_or now place 0 ≡ code = here most before codes now place last so within same in
    let P : ℕ → Type 0 = λ n. n ≡ 2 * (n / 2) → number ≡ last + n / 2 in
    let Q : ℕ → Type 0 = λ n. n ≡ 2 * (n / 2) + 1 → number + half n ≡ last in
    by_parity most last number code so.last_within (near_here place (reach most last) codes within near)
    (subst P is even) (subst Q is odd)
