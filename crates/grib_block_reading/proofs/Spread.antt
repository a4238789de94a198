-- Pairs of codes that are written one after another.
use Rattle.std.proofs.Common.{◌≡◌, ℕ, suc, ◌+◌, ◌-◌, ◌*◌, ◌/◌, ◌<◌, ◌≤◌, List, [], ◌∷◌, ◌++◌, length, get_or, take, drop, set, refl, sym, ap, ◌∙◌, arith, append_assoc, add-one}
use Rattle.std.proofs.Math.Seq.{take-suc, take-suc-set}
use Rattle.std.proofs.lemmas.List.{take_all, drop_all, append-nil, length-set}
use borrow.Rule.Slice.PartMut.{put_mid}
use Rattle.grib_coding.specs.Items.{Pair, pair_of, pair_number, codes_of_pairs}
use Rattle.grib_coding.proofs.Pairs.{pair_of-number}

pub found : (number sum second : ℕ) → number ≡ sum * (sum + 1) / 2 + second → second ≤ sum
    → pair_of number ≡ record { first = sum - second; second = second }
found number sum second is within =
    let whole : sum - second + second ≡ sum = omega arith in
    let counted : number ≡ pair_number (sum - second) second = is ∙ ap (λ d. d * (d + 1) / 2 + second) (sym whole) in
    ap pair_of counted ∙ pair_of-number (sum - second) second

codes_behind : (numbers : List ℕ) (number : ℕ) → codes_of_pairs (numbers ++ number ∷ []) ≡ codes_of_pairs numbers ++ (pair_of number).first ∷ (pair_of number).second ∷ []
codes_behind [] number = refl
codes_behind (n ∷ numbers) number = ap (λ codes. (pair_of n).first ∷ (pair_of n).second ∷ codes) (codes_behind numbers number)

-- one pair more
pub next : (numbers codes : List ℕ) (place first second : ℕ) → place < length numbers → length codes ≡ 2 * length numbers
    → take (2 * place) codes ≡ codes_of_pairs (take place numbers) → pair_of (get_or numbers place 0) ≡ record { first = first; second = second }
    → take (2 * (place + 1)) (set (set codes (2 * place) first) (2 * place + 1) second) ≡ codes_of_pairs (take (place + 1) numbers)
next numbers codes place first second within long so is =
    let now = set codes (2 * place) first in
    let inside : 2 * place < length codes = omega (arith, long) in
    let inside_now : 2 * place + 1 < length now = omega (arith, long, length-set codes (2 * place) first) in
    let end : 2 * (place + 1) ≡ suc (2 * place + 1) = omega arith in
    let middle : 2 * place + 1 ≡ suc (2 * place) = omega arith in
    let number = get_or numbers place 0 in
    let front = codes_of_pairs (take place numbers) in
    let more : take (place + 1) numbers ≡ take place numbers ++ number ∷ [] = rw add-one (take-suc numbers place 0 within) in
    ap (λ n. take n (set now (2 * place + 1) second)) end
    ∙ (take-suc-set now (2 * place + 1) second inside_now
    ∙ (ap (λ n. take n now ++ second ∷ []) middle
    ∙ (ap (λ xs. xs ++ second ∷ []) (take-suc-set codes (2 * place) first inside)
    ∙ (append_assoc (take (2 * place) codes) (first ∷ []) (second ∷ [])
    ∙ (ap (λ xs. xs ++ first ∷ second ∷ []) so
    ∙ (ap (λ (p : Pair). front ++ p.first ∷ p.second ∷ []) (sym is)
    ∙ (sym (codes_behind (take place numbers) number)
    ∙ ap codes_of_pairs (sym more))))))))

-- the pairs behind the first one, whose first code stands in a reference
pub behind_first : (numbers codes rest : List ℕ) (first second : ℕ) → 1 ≤ length numbers → 1 ≤ length codes → pair_of (get_or numbers 0 0) ≡ record { first = first; second = second }
    → rest ≡ codes_of_pairs (take (length numbers - 1) (drop 1 numbers))
    → put_mid 1 (length (set codes 0 second) - 1) (set codes 0 second) rest ≡ drop 1 (codes_of_pairs numbers)
behind_first [] codes rest first second some room is are = absurd (omega (arith, some))
behind_first (n ∷ numbers) [] rest first second some room is are = absurd (omega (arith, room))
behind_first (n ∷ numbers) (x ∷ codes) rest first second some room is are =
    let all : take (suc (length numbers) - 1) numbers ≡ numbers = take_all (suc (length numbers) - 1) numbers (omega arith) in
    let nothing : drop (suc (length codes) - 1) codes ≡ [] = drop_all (suc (length codes) - 1) codes (omega arith) in
    let one : second ≡ (pair_of n).second = ap (λ (p : Pair). p.second) (sym is) in
    ap (λ ys. second ∷ (rest ++ ys)) nothing
    ∙ (ap (λ ys. second ∷ ys) (append-nil rest ∙ (are ∙ ap codes_of_pairs all))
    ∙ ap (λ y. y ∷ codes_of_pairs numbers) one)
