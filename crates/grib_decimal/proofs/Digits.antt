-- Digits in a buffer: zeros before them, a point among them, and how many there are.
use Rattle.std.proofs.Common.{◌≡◌, ℕ, suc, ◌+◌, ◌-◌, ◌^◌, ◌<◌, ◌≤◌, List, [], ◌∷◌, ◌++◌, length, take, drop, set, get_or, replicate, sym, ap, ◌∙◌, append_assoc, arith, length-drop}
use Rattle.std.proofs.Math.Seq.{drop-cons}
use Rattle.std.proofs.lemmas.List.{drop-set, drop-set-lt, drop-set-add, set_at, take_more, get_or-drop, drop-drop, length-take-le}
use Rattle.std.proofs.lemmas.Fmt.{length-decimal-le_wide}
use Rattle.std.specs.Fmt.{decimal}

pub few_digits : (n : ℕ) → n ≤ 2 ^ 126 → length (decimal n) ≤ 38
few_digits n small = length-decimal-le_wide 38 n (omega arith) (omega arith) (omega arith)

-- one more zero before what stands from `start` on
pub one_zero : (b rest : List ℕ) (from start : ℕ) → 0 < from → from ≤ start → from ≤ length b → drop from b ≡ replicate (start - from) 48 ++ rest → drop (from - 1) (set b (from - 1) 48) ≡ replicate (start - (from - 1)) 48 ++ rest
one_zero b rest from start some ordered within is =
    let next : from - 1 + 1 ≡ from = omega arith in
    let count : start - (from - 1) ≡ suc (start - from) = omega arith in
    drop-set b (from - 1) 48 (omega arith) ∙ ap (λ k. 48 ∷ drop k b) next ∙ ap (λ xs. 48 ∷ xs) is ∙ ap (λ k. replicate k 48 ++ rest) (sym count)

-- an octet is written behind what was moved
pub put_behind : (b moved : List ℕ) (start place octet : ℕ) → 1 ≤ start → start ≤ place → place ≤ length b → place - start ≤ length moved → drop (start - 1) b ≡ take (place - start) moved ++ drop (place - 1) b → drop (start - 1) (set b (place - 1) octet) ≡ take (place - start) moved ++ octet ∷ drop place b
put_behind b moved start place octet some ordered within many is =
    let j = place - start in
    let here : place - 1 ≡ start - 1 + j = omega arith in
    let next : suc (place - 1) ≡ place = omega arith in
    let cons : drop (place - 1) b ≡ get_or b (place - 1) 0 ∷ drop place b = drop-cons b (place - 1) 0 (omega arith) ∙ ap (λ k. get_or b (place - 1) 0 ∷ drop k b) next in
    ap (λ k. drop (start - 1) (set b k octet)) here ∙ drop-set-add (start - 1) b j octet ∙ ap (λ xs. set xs j octet) (is ∙ ap (λ xs. take j moved ++ xs) cons) ∙ set_at (take j moved) (get_or b (place - 1) 0) (drop place b) octet j (length-take-le j moved many)

same_octet : (b old : List ℕ) (place : ℕ) → drop place b ≡ drop place old → get_or b place 0 ≡ get_or old place 0
same_octet b old place is =
    let e : place ≡ place + 0 = omega arith in
    ap (λ k. get_or b k 0) e ∙ sym (get_or-drop place b 0 0) ∙ ap (λ xs. get_or xs 0 0) is ∙ get_or-drop place old 0 0 ∙ ap (λ k. get_or old k 0) (sym e)

-- one octet more is moved to the left
pub one_moved : (b old : List ℕ) (start place : ℕ) → 1 ≤ start → start ≤ place → place < length b → place < length old → drop (start - 1) b ≡ take (place - start) (drop start old) ++ drop (place - 1) b → drop place b ≡ drop place old → drop (start - 1) (set b (place - 1) (get_or b place 0)) ≡ take (place + 1 - start) (drop start old) ++ drop place (set b (place - 1) (get_or b place 0))
one_moved b old start place some ordered within within' is rest =
    let moved = drop start old in
    let j = place - start in
    let octet = get_or b place 0 in
    let many : j < length moved = omega (arith, length-drop start old) in
    let put = put_behind b moved start place octet some ordered (omega arith) (omega arith) is in
    let count : place + 1 - start ≡ j + 1 = omega arith in
    let at : start + j ≡ place = omega arith in
    let that : get_or moved j 0 ≡ octet = get_or-drop start old j 0 ∙ ap (λ k. get_or old k 0) at ∙ sym (same_octet b old place rest) in
    let more : take (place + 1 - start) moved ≡ take j moved ++ octet ∷ [] = ap (λ k. take k moved) count ∙ take_more moved j 0 many ∙ ap (λ x. take j moved ++ x ∷ []) that in
    let same : drop place (set b (place - 1) octet) ≡ drop place b = drop-set-lt place b (place - 1) octet (omega arith) in
    put ∙ sym (append_assoc (take j moved) (octet ∷ []) (drop place b)) ∙ ap (λ xs. xs ++ drop place b) (sym more) ∙ ap (λ xs. take (place + 1 - start) moved ++ xs) (sym same)

pub rest_stays : (b old : List ℕ) (place octet : ℕ) → 0 < place → drop place b ≡ drop place old → drop (place + 1) (set b (place - 1) octet) ≡ drop (place + 1) old
rest_stays b old place octet some is =
    drop-set-lt (place + 1) b (place - 1) octet (omega arith) ∙ sym (drop-drop 1 place b) ∙ ap (λ xs. drop 1 xs) is ∙ drop-drop 1 place old
