-- What stands in a section after some of its octets were put anew.
use Rattle.std.proofs.Common.{◌≡◌, ℕ, ◌+◌, ◌-◌, ◌<◌, ◌≤◌, ◌⊎◌, inl, inr, List, ◌++◌, length, take, drop, get_or, min, refl, sym, ap, ◌∙◌, arith, length-take, length-drop, length-append}
use Rattle.std.proofs.lemmas.List.{get_or-drop, get_or-take, get_or_append_left, get_or-append_right, ext_get_or, length-take-le}
use Rattle.grib_bits.specs.Octets.{octet_list}
use Rattle.grib_rescan.specs.Sections.{with_octets}

-- octets put into a section that has room for them
record Put (first : ℕ) (xs s : List ℕ) : Type 0 where
  counted : 1 ≤ first
  room : first + length xs ≤ length s + 1

length_put : (first : ℕ) (xs s : List ℕ) → Put first xs s → length (with_octets first xs s) ≡ length s
length_put first xs s is =
    omega (
      arith,
      is.counted,
      is.room,
      length-append (take (first - 1) s) (xs ++ drop (first - 1 + length xs) s),
      length-append xs (drop (first - 1 + length xs) s),
      length-take-le (first - 1) s (omega (arith, is.counted, is.room)),
      length-drop (first - 1 + length xs) s,
    )

at_put : (first : ℕ) (xs s : List ℕ) (k : ℕ) → Put first xs s → k < length xs → get_or (with_octets first xs s) (first - 1 + k) 0 ≡ get_or xs k 0
at_put first xs s k is small =
    let front : length (take (first - 1) s) ≡ first - 1 = length-take-le (first - 1) s (omega (arith, is.counted, is.room)) in
    let at : first - 1 + k - (first - 1) ≡ k = omega arith in
    get_or-append_right (take (first - 1) s) (xs ++ drop (first - 1 + length xs) s) (first - 1) (first - 1 + k) 0 front (omega arith)
    ∙ ap (λ i. get_or (xs ++ drop (first - 1 + length xs) s) i 0) at
    ∙ get_or_append_left xs (drop (first - 1 + length xs) s) 0 k small

at_before : (first : ℕ) (xs s : List ℕ) (i : ℕ) → Put first xs s → i < first - 1 → get_or (with_octets first xs s) i 0 ≡ get_or s i 0
at_before first xs s i is small =
    let front : length (take (first - 1) s) ≡ first - 1 = length-take-le (first - 1) s (omega (arith, is.counted, is.room)) in
    get_or_append_left (take (first - 1) s) (xs ++ drop (first - 1 + length xs) s) 0 i (omega (arith, front, small)) ∙ get_or-take (first - 1) s i 0 small

at_after : (first : ℕ) (xs s : List ℕ) (i : ℕ) → Put first xs s → first - 1 + length xs ≤ i → get_or (with_octets first xs s) i 0 ≡ get_or s i 0
at_after first xs s i is behind =
    let front : length (take (first - 1) s) ≡ first - 1 = length-take-le (first - 1) s (omega (arith, is.counted, is.room)) in
    let at : first - 1 + length xs + (i - (first - 1) - length xs) ≡ i = omega (arith, behind) in
    get_or-append_right (take (first - 1) s) (xs ++ drop (first - 1 + length xs) s) (first - 1) i 0 front (omega (arith, behind))
    ∙ get_or-append_right xs (drop (first - 1 + length xs) s) (length xs) (i - (first - 1)) 0 refl (omega (arith, behind))
    ∙ get_or-drop (first - 1 + length xs) s (i - (first - 1) - length xs) 0
    ∙ ap (λ k. get_or s k 0) at

-- ---- octets by their numbers

same_octets : (t u : List ℕ) (a last : ℕ) → length t ≡ length u → ((k : ℕ) → k < last + 1 - a → get_or t (a - 1 + k) 0 ≡ get_or u (a - 1 + k) 0)
    → octet_list t a last ≡ octet_list u a last
same_octets t u a last long each =
    ext_get_or 0 (octet_list t a last) (octet_list u a last)
    (length-take (last + 1 - a) (drop (a - 1) t) ∙ ap (min (last + 1 - a)) (length-drop (a - 1) t ∙ ap (λ n. n - (a - 1)) long ∙ sym (length-drop (a - 1) u))
    ∙ sym (length-take (last + 1 - a) (drop (a - 1) u)))
    (λ k small. let few : k < last + 1 - a = omega (arith, small, length-take (last + 1 - a) (drop (a - 1) t)) in
    get_or-take (last + 1 - a) (drop (a - 1) t) k 0 few ∙ get_or-drop (a - 1) t k 0 ∙ each k few
    ∙ sym (get_or-take (last + 1 - a) (drop (a - 1) u) k 0 few ∙ get_or-drop (a - 1) u k 0))

put_before : (first : ℕ) (xs s : List ℕ) (a last : ℕ) → Put first xs s → 1 ≤ a → last < first → octet_list (with_octets first xs s) a last ≡ octet_list s a last
put_before first xs s a last is counted before =
    same_octets (with_octets first xs s) s a last (length_put first xs s is) (λ k few. at_before first xs s (a - 1 + k) is (omega (arith, few, counted, before)))

put_behind : (first : ℕ) (xs s : List ℕ) (a last : ℕ) → Put first xs s → first + length xs ≤ a → octet_list (with_octets first xs s) a last ≡ octet_list s a last
put_behind first xs s a last is behind =
    same_octets (with_octets first xs s) s a last (length_put first xs s is) (λ k few. at_after first xs s (a - 1 + k) is (omega (arith, is.counted, behind)))

put_there : (first : ℕ) (xs s : List ℕ) (last : ℕ) → Put first xs s → last + 1 ≡ first + length xs → octet_list (with_octets first xs s) first last ≡ xs
put_there first xs s last is ends =
    let size : length (octet_list (with_octets first xs s) first last) ≡ length xs =
    omega (arith, ends, is.counted, is.room, length-take (last + 1 - first) (drop (first - 1) (with_octets first xs s)), length-drop (first - 1) (with_octets first xs s), length_put first xs s is) in
    ext_get_or 0 (octet_list (with_octets first xs s) first last) xs size
    (λ k small. let few : k < length xs = omega (arith, size, small) in
    get_or-take (last + 1 - first) (drop (first - 1) (with_octets first xs s)) k 0 (omega (arith, ends, few))
    ∙ get_or-drop (first - 1) (with_octets first xs s) k 0 ∙ at_put first xs s k is few)

-- ---- in a section of template 3.0, by n octets

-- a section that has the octets of its template
pub record IsLong (s : List ℕ) : Type 0 where
  pub long : 72 ≤ length s

put_in : (first n : ℕ) (xs s : List ℕ) → length xs ≡ n → 1 ≤ first → first + n ≤ 73 → IsLong s → Put first xs s
put_in first n xs s size counted room is = record { counted = counted; room = omega (arith, size, room, is.long) }

pub still_long : (first n : ℕ) (xs s : List ℕ) → length xs ≡ n → 1 ≤ first → first + n ≤ 73 → IsLong s → IsLong (with_octets first xs s)
still_long first n xs s size counted room is =
    record { long = omega (arith, is.long, length_put first xs s (put_in first n xs s size counted room is)) }

pub same_length : (first n : ℕ) (xs s : List ℕ) → length xs ≡ n → 1 ≤ first → first + n ≤ 73 → IsLong s → length (with_octets first xs s) ≡ length s
same_length first n xs s size counted room is = length_put first xs s (put_in first n xs s size counted room is)

pub elsewhere : (first n : ℕ) (xs s : List ℕ) (a last : ℕ) → length xs ≡ n → 1 ≤ first → first + n ≤ 73 → IsLong s → 1 ≤ a → (last < first) ⊎ (first + n ≤ a)
    → octet_list (with_octets first xs s) a last ≡ octet_list s a last
elsewhere first n xs s a last size counted room is some (inl before) = put_before first xs s a last (put_in first n xs s size counted room is) some before
elsewhere first n xs s a last size counted room is some (inr behind) =
    put_behind first xs s a last (put_in first n xs s size counted room is) (omega (arith, size, behind))

pub there : (first n : ℕ) (xs s : List ℕ) (last : ℕ) → length xs ≡ n → 1 ≤ first → first + n ≤ 73 → IsLong s → last + 1 ≡ first + n
    → octet_list (with_octets first xs s) first last ≡ xs
there first n xs s last size counted room is ends = put_there first xs s last (put_in first n xs s size counted room is) (omega (arith, size, ends))
