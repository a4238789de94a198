-- A Section 1 with changes beside the section.
use Rattle.std.proofs.Common.{◌≡◌, ◌⊎◌, inl, inr, ℕ, ◌+◌, ◌-◌, ◌≤◌, ◌<◌, List, [], ◌∷◌, ◌++◌, length, take, drop, unwrap_or, refl, ap, ◌∙◌, arith, append-nil, length-drop, drop-drop}
use Rattle.std.specs.Prelude.{All}
use Rattle.std.proofs.lemmas.List.{take_rest, drop_all}
use Rattle.std.proofs.lemmas.List.Elements.{All-head, All-tail}
use Rattle.grib_bits.specs.Octets.{octet_list}
use Rattle.grib_bits.specs.Encoding.{octets_of}
use Rattle.grib_bits.proofs.Encoding.{length-octets_of}
use Rattle.grib_keys.specs.Keys1.{place_of}
use Rattle.grib1_select.specs.declared.condition.Change1.{Change1}
use Rattle.grib1_select.specs.Changed.{octet_count, new_number1, with_key1, with_changes1}
use Rattle.grib1_select.proofs.Puts.{length-put, put-before, put-behind, put-here}
use Rattle.grib1_select.proofs.Places.{place_is}

abbrev raw_of : Change1 → ℕ
raw_of change = unwrap_or (new_number1 change) 0

-- the octets that a change puts
abbrev pub new_octets : Change1 → List ℕ
new_octets change = octets_of (octet_count change.key) (raw_of change)

new_long : (change : Change1) → length (new_octets change) + (place_of change.key).first ≡ (place_of change.key).last + 1
new_long change =
    let p = place_is change.key in
    omega (arith, length-octets_of (octet_count change.key) (raw_of change), p.some)

module _ (change : Change1) (s : List ℕ) (long : 28 ≤ length s) where
  pub length-with_key1 : length (with_key1 change s) ≡ length s
  length-with_key1 =
      let p = place_is change.key in
      length-put s (place_of change.key).first (place_of change.key).last (new_octets change) (omega (arith, p.low)) p.some (omega (arith, p.high)) (new_long change)

  pub with_key1-apart : (a b : ℕ) → 1 ≤ a → a ≤ b → (b < (place_of change.key).first) ⊎ ((place_of change.key).last < a) → octet_list (with_key1 change s) a b ≡ octet_list s a b
  with_key1-apart a b low order (inl before) =
      let p = place_is change.key in
      put-before s (place_of change.key).first (place_of change.key).last (new_octets change) (omega (arith, p.low)) p.some (omega (arith, p.high)) (new_long change) a b low order before
  with_key1-apart a b low order (inr behind) =
      let p = place_is change.key in
      put-behind s (place_of change.key).first (place_of change.key).last (new_octets change) (omega (arith, p.low)) p.some (omega (arith, p.high)) (new_long change) a b behind

  pub with_key1-here : octet_list (with_key1 change s) (place_of change.key).first (place_of change.key).last ≡ new_octets change
  with_key1-here =
      let p = place_is change.key in
      put-here s (place_of change.key).first (place_of change.key).last (new_octets change) (omega (arith, p.low)) p.some (omega (arith, p.high)) (new_long change)

pub length-with_changes1 : (changes : List Change1) (s : List ℕ) → 28 ≤ length s → length (with_changes1 changes s) ≡ length s
length-with_changes1 [] s long = refl
length-with_changes1 (change ∷ changes) s long =
    let one = length-with_key1 change s long in
    length-with_changes1 changes (with_key1 change s) (omega (arith, one)) ∙ one

-- octets of no place that is changed stay
pub stays : (changes : List Change1) (s : List ℕ) (a b : ℕ) → 28 ≤ length s → 1 ≤ a → a ≤ b
    → All (λ c. (b < (place_of c.key).first) ⊎ ((place_of c.key).last < a)) changes → octet_list (with_changes1 changes s) a b ≡ octet_list s a b
stays [] s a b long low order out = refl
stays (change ∷ changes) s a b long low order out =
    let one = length-with_key1 change s long in
    stays changes (with_key1 change s) a b (omega (arith, one)) low order (All-tail (λ c. (b < (place_of c.key).first) ⊎ ((place_of c.key).last < a)) change changes out)
    ∙ with_key1-apart change s long a b low order (All-head (λ c. (b < (place_of c.key).first) ⊎ ((place_of c.key).last < a)) change changes out)

-- changes one after another
pub with_changes1-append : (before changes : List Change1) (s : List ℕ) → with_changes1 (before ++ changes) s ≡ with_changes1 changes (with_changes1 before s)
with_changes1-append [] changes s = refl
with_changes1-append (change ∷ before) changes s = with_changes1-append before changes (with_key1 change s)

-- ---- a change as it is written

pub written_is : (change : Change1) (s : List ℕ) (first last : ℕ) (ys : List ℕ) → 28 ≤ length s → first ≡ (place_of change.key).first → last ≡ (place_of change.key).last
    → ys ≡ octets_of (octet_count change.key) (raw_of change) ++ drop (octet_count change.key) (take (length s - (first - 1)) (drop (first - 1) s))
    → take (first - 1) s ++ (ys ++ drop (length s - (first - 1)) (drop (first - 1) s)) ≡ with_key1 change s
written_is change s first last ys long is_first is_last is =
    let p = place_is change.key in
    let n = octet_count change.key in
    let a = first - 1 in
    let k = length s - a in
    let xs = new_octets change in
    let rest : drop n (take k (drop a s)) ≡ drop (place_of change.key).last s =
    ap (drop n) (take_rest s a) ∙ drop-drop n a s
    ∙ ap (λ (j : ℕ). drop j s) (let e : a + n ≡ (place_of change.key).last = omega (arith, is_first, p.low, p.some) in e) in
    let none : drop k (drop a s) ≡ [] = drop_all k (drop a s) (omega (arith, length-drop a s)) in
    ap (λ (zs : List ℕ). take a s ++ (ys ++ zs)) none
    ∙ ap (λ (zs : List ℕ). take a s ++ zs) (append-nil ys)
    ∙ ap (λ (zs : List ℕ). take a s ++ zs) (is ∙ ap (λ (zs : List ℕ). xs ++ zs) rest)
    ∙ ap (λ (j : ℕ). take (j - 1) s ++ (xs ++ drop (place_of change.key).last s)) is_first
