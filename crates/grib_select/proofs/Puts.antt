-- A section with other octets at some place.
use Rattle.std.proofs.Common.{◌≡◌, ℕ, ◌+◌, ◌-◌, ◌≤◌, ◌<◌, List, ◌++◌, length, take, drop, refl, sym, ap, ◌∙◌, arith, append_assoc, length-append, length-take-le, length-drop, drop-drop, take_at, drop_at}
use Rattle.grib_bits.specs.Octets.{octet_list}
use Rattle.grib2_message.proofs.Stays.{front_of_more, front_of}
use Rattle.grib_select.specs.Changed.{put}

module _ (s : List ℕ) (first : ℕ) (xs : List ℕ) (counted : 1 ≤ first) (within : first - 1 + length xs ≤ length s) where
  front_long : length (take (first - 1) s) ≡ first - 1
  front_long = length-take-le (first - 1) s (omega arith)

  -- what is before them and they are a front
  both_long : length (take (first - 1) s ++ xs) ≡ first - 1 + length xs
  both_long = omega (arith, length-append (take (first - 1) s) xs, front_long)

  pub length-put : length (put s first xs) ≡ length s
  length-put =
      let rest = drop (first - 1 + length xs) s in
      omega (arith, length-append (take (first - 1) s) (xs ++ rest), length-append xs rest, front_long, length-drop (first - 1 + length xs) s)

  -- the octets before the place stay
  pub put-before : (a b : ℕ) → 1 ≤ a → a ≤ b → b < first → octet_list (put s first xs) a b ≡ octet_list s a b
  put-before a b low order before =
      let u = take (first - 1) s in
      let inside : b ≤ length u = omega (arith, front_long) in
      (front_of_more u (xs ++ drop (first - 1 + length xs) s)).lists a b low order inside
      ∙ sym ((front_of s (first - 1) (omega arith)).lists a b low order inside)

  -- and those behind it
  pub put-behind : (a b : ℕ) → first + length xs ≤ a → octet_list (put s first xs) a b ≡ octet_list s a b
  put-behind a b behind =
      let u = take (first - 1) s in
      let n = first - 1 + length xs in
      let rest = drop n s in
      let k = a - 1 - n in
      let skip : a - 1 ≡ n + k = omega arith in
      let there : drop (a - 1) (put s first xs) ≡ drop k rest =
      ap (λ (j : ℕ). drop j (put s first xs)) skip
      ∙ ap (drop (n + k)) (sym (append_assoc u xs rest))
      ∙ ap (λ (j : ℕ). drop j ((u ++ xs) ++ rest)) (let e : n + k ≡ n + k = refl in e)
      ∙ sym (drop-drop k n ((u ++ xs) ++ rest))
      ∙ ap (drop k) (drop_at (u ++ xs) rest n both_long) in
      let here : drop (a - 1) s ≡ drop k rest = ap (λ (j : ℕ). drop j s) skip ∙ sym (drop-drop k n s) in
      ap (take (b + 1 - a)) (there ∙ sym here)

  -- and they stand there
  pub put-here : (last : ℕ) → last + 1 ≡ first + length xs → octet_list (put s first xs) first last ≡ xs
  put-here last is =
      let u = take (first - 1) s in
      let rest = drop (first - 1 + length xs) s in
      let count : length xs ≡ last + 1 - first = omega arith in
      ap (take (last + 1 - first)) (drop_at u (xs ++ rest) (first - 1) front_long)
      ∙ take_at xs rest (last + 1 - first) count
