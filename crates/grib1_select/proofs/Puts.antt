-- Octets with others at some place.
use Rattle.std.proofs.Common.{◌≡◌, ℕ, ◌+◌, ◌-◌, ◌≤◌, ◌<◌, List, ◌++◌, length, take, drop, sym, ap, ◌∙◌, arith, append_assoc, length-append, length-take-le, length-drop, drop-drop, take_at, drop_at}
use Rattle.grib_bits.specs.Octets.{octet_list}
use Rattle.grib1_sections.proofs.Agreeing.{agree_front, agree_more}

-- s with these octets from octet `first` to `last`, counted from 1
abbrev pub put : List ℕ → ℕ → ℕ → List ℕ → List ℕ
put s first last xs = take (first - 1) s ++ (xs ++ drop last s)

module _ (s : List ℕ) (first last : ℕ) (xs : List ℕ) (counted : 1 ≤ first) (some : first ≤ last) (within : last ≤ length s) (long : length xs + first ≡ last + 1) where
  front_long : length (take (first - 1) s) ≡ first - 1
  front_long = length-take-le (first - 1) s (omega arith)

  pub length-put : length (put s first last xs) ≡ length s
  length-put =
      let rest = drop last s in
      omega (arith, length-append (take (first - 1) s) (xs ++ rest), length-append xs rest, front_long, length-drop last s)

  -- the octets before the place stay
  pub put-before : (a b : ℕ) → 1 ≤ a → a ≤ b → b < first → octet_list (put s first last xs) a b ≡ octet_list s a b
  put-before a b low order before =
      let u = take (first - 1) s in
      (agree_more u (xs ++ drop last s)).lists a b low order (omega (arith, front_long))
      ∙ (agree_front s (first - 1) (omega arith)).lists a b low order (omega arith)

  -- and those behind it
  pub put-behind : (a b : ℕ) → last < a → octet_list (put s first last xs) a b ≡ octet_list s a b
  put-behind a b behind =
      let u = take (first - 1) s in
      let rest = drop last s in
      let k = a - 1 - last in
      let skip : a - 1 ≡ last + k = omega arith in
      let both : length (u ++ xs) ≡ last = omega (arith, length-append u xs, front_long) in
      let there : drop (a - 1) (put s first last xs) ≡ drop k rest =
      ap (λ (j : ℕ). drop j (put s first last xs)) skip
      ∙ ap (drop (last + k)) (sym (append_assoc u xs rest))
      ∙ sym (drop-drop k last ((u ++ xs) ++ rest))
      ∙ ap (drop k) (drop_at (u ++ xs) rest last both) in
      let here : drop (a - 1) s ≡ drop k rest = ap (λ (j : ℕ). drop j s) skip ∙ sym (drop-drop k last s) in
      ap (take (b + 1 - a)) (there ∙ sym here)

  -- and they stand there
  pub put-here : octet_list (put s first last xs) first last ≡ xs
  put-here =
      let u = take (first - 1) s in
      let rest = drop last s in
      let count : length xs ≡ last + 1 - first = omega arith in
      ap (take (last + 1 - first)) (drop_at u (xs ++ rest) (first - 1) front_long)
      ∙ take_at xs rest (last + 1 - first) count

-- octets behind the first n, counted from there
pub list_behind : (m : List ℕ) (n a b : ℕ) → 1 ≤ a → octet_list m (n + a) (n + b) ≡ octet_list (drop n m) a b
list_behind m n a b low =
    let count : (n + b) + 1 - (n + a) ≡ b + 1 - a = omega arith in
    let skip : n + a - 1 ≡ n + (a - 1) = omega arith in
    ap (λ (k : ℕ). take k (drop (n + a - 1) m)) count
    ∙ ap (take (b + 1 - a)) (ap (λ (k : ℕ). drop k m) skip ∙ sym (drop-drop (a - 1) n m))

-- octets of what stands before more
pub list_before : (u more : List ℕ) (a b : ℕ) → 1 ≤ a → a ≤ b → b ≤ length u → octet_list (u ++ more) a b ≡ octet_list u a b
list_before u more a b low order within = (agree_more u more).lists a b low order within
