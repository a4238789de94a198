-- The first bits of some octets stand after they are moved as they did before.
use Rattle.std.proofs.Common.{◌≡◌, ℕ, zero, suc, ◌+◌, ◌-◌, ◌*◌, ◌/◌, ◌%◌, ◌^◌, ◌<◌, ◌≤◌, Bool, List, [], ◌∷◌, ◌++◌, length, take, drop, get_or, map, refl, sym, ap, ap₂, ◌∙◌, arith, inl, inr, take-append-drop, take-take}
use Rattle.std.proofs.Math.Nat.{mod-eq-sub-div-mul, div-mul-le_self, mul-div_cancel}
use Rattle.std.proofs.Math.Seq.{drop-cons, take-append-add}
use Rattle.std.proofs.lemmas.Bool.{cases_eq}
use Rattle.std.proofs.lemmas.List.{length-take-le, take-append-le, drop-take}
use Rattle.std.proofs.lemmas.Nat.{pow_pos}
use Rattle.std.specs.List.{range_with_len}
use Rattle.grib_bits.specs.Bits.{bits, bits_of, num}
use Rattle.grib_bits.specs.Octets.{num_on, octets}
use Rattle.grib_bits.specs.Plain.{plain, plain_at}
use Rattle.grib_bits.proofs.Numbers.{length-bits_of, take-bits_of}
use Rattle.grib_bits.proofs.OctetBits.{length-bits, bits-append, take-bits}
use Rattle.grib_bits.proofs.Listed.{ends_within}
use Rattle.grib_migrate.specs.Values.{front_octets}
use Rattle.grib_migrate.proofs.Fronts.{front-whole, front-cut}

-- ---- one octet

pub one_octet : (s : List ℕ) (k : ℕ) → k < length s → octets s (k + 1) (k + 1) ≡ get_or s k 0
one_octet s k within =
    let one : k + 1 + 1 - (k + 1) ≡ 1 = omega arith in
    let place : k + 1 - 1 ≡ k = omega arith in
    ap₂ (λ (i j : ℕ). num_on 0 (take i (drop j s))) one place ∙ ap (λ (xs : List ℕ). num_on 0 (take 1 xs)) (drop-cons s k 0 within)
    ∙ alone (get_or s k 0)
  where
    alone : (y : ℕ) → 0 * 256 + y ≡ y
    alone y = omega arith

-- the digits of a number before its last ones, where the last are made 0
cleared : (y q : ℕ) → 0 < q → (y - y % q) / q ≡ y / q
cleared y q some =
    let whole : y - y % q ≡ y / q * q = omega (arith, mod-eq-sub-div-mul y q, div-mul-le_self y q) in
    ap (λ (n : ℕ). n / q) whole ∙ mul-div_cancel (y / q) some

-- the first bits of an octet
first_of_octet : (r y : ℕ) → r ≤ 8 → take r (bits_of 8 (y - y % 2 ^ (8 - r))) ≡ take r (bits_of 8 y)
first_of_octet r y few =
    take-bits_of r 8 (y - y % 2 ^ (8 - r)) few ∙ ap (bits_of r) (cleared y (2 ^ (8 - r)) (pow_pos (8 - r))) ∙ sym (take-bits_of r 8 y few)

-- ---- the first bits of octets

module _ (from : List ℕ) (n : ℕ) (within : n ≤ 8 * length from) where
  first_whole : n % 8 ≡ 0 → take n (bits (front_octets from n)) ≡ take n (bits from)
  first_whole e =
      let k = n / 8 in
      let is : 8 * k ≡ n = omega arith in
      ap (λ (xs : List ℕ). take n (bits xs)) (front-whole from n e) ∙ ap (take n) (sym (take-bits k from (omega arith)))
      ∙ ap (λ (j : ℕ). take n (take j (bits from))) is ∙ take-take n n (bits from) (omega arith)

  -- behind the whole octets
  behind : (k r : ℕ) (tail : List Bool) → k ≤ length from → n ≡ 8 * k + r → take n (bits (take k from) ++ tail) ≡ bits (take k from) ++ take r tail
  behind k r tail low is =
      let long : length (bits (take k from)) ≡ 8 * k = length-bits (take k from) ∙ ap (λ (j : ℕ). 8 * j) (length-take-le k from low) in
      ap (λ (j : ℕ). take j (bits (take k from) ++ tail)) (let e : n ≡ length (bits (take k from)) + r = omega arith in e)
      ∙ take-append-add (bits (take k from)) tail r

  first_cut : (n % 8 ≡ 0 → ⊥) → take n (bits (front_octets from n)) ≡ take n (bits from)
  first_cut not_whole =
      let k = n / 8 in
      let r = n % 8 in
      let below : k < length from = omega arith in
      let few : r ≤ 8 = omega arith in
      let is : n ≡ 8 * k + r = omega arith in
      let y = get_or from k 0 in
      let last : octets from (k + 1) (k + 1) ≡ y = one_octet from k below in
      let x = y - y % 2 ^ (8 - r) in
      let front : front_octets from n ≡ take k from ++ x ∷ [] =
      front-cut from n not_whole ∙ ap (λ (z : ℕ). take k from ++ (z - z % 2 ^ (8 - r)) ∷ []) last in
      let split : from ≡ take k from ++ y ∷ drop (suc k) from =
      sym (take-append-drop k from) ∙ ap (λ (zs : List ℕ). take k from ++ zs) (drop-cons from k 0 below) in
      let head : take r (bits (x ∷ [])) ≡ take r (bits_of 8 x) = take-append-le r (bits_of 8 x) [] (omega (arith, length-bits_of 8 x)) in
      let other : take r (bits (y ∷ drop (suc k) from)) ≡ take r (bits_of 8 y) =
      take-append-le r (bits_of 8 y) (bits (drop (suc k) from)) (omega (arith, length-bits_of 8 y)) in
      ap (λ (zs : List ℕ). take n (bits zs)) front ∙ ap (take n) (bits-append (take k from) (x ∷ []))
      ∙ behind k r (bits (x ∷ [])) (omega arith) is
      ∙ ap (λ (zs : List Bool). bits (take k from) ++ zs) (head ∙ first_of_octet r y few ∙ sym other)
      ∙ sym (behind k r (bits (y ∷ drop (suc k) from)) (omega arith) is)
      ∙ ap (take n) (sym (bits-append (take k from) (y ∷ drop (suc k) from)))
      ∙ ap (λ (zs : List ℕ). take n (bits zs)) (sym split)

  pub first_bits : take n (bits (front_octets from n)) ≡ take n (bits from)
  first_bits = elim (cases_eq (n % 8) 0) [ inl e ↦ first_whole e | inr e ↦ first_cut e ]

-- ---- numbers that stand in these bits

pub map_same : {X : Type 0} (f g : ℕ → X) (a n : ℕ) → ((k : ℕ) → a ≤ k → k < a + n → f k ≡ g k) → map f (range_with_len a n) ≡ map g (range_with_len a n)
map_same f g a zero same = refl
map_same f g a (suc n) same = ap₂ ◌∷◌ (same a (omega arith) (omega arith)) (map_same f g (a + 1) n (λ k low high. same k (omega arith) (omega arith)))

number_from : (xs : List Bool) (w count k : ℕ) → k < count → plain_at xs w k ≡ plain_at (take (count * w) xs) w k
number_from xs w count k below =
    let ends = ends_within k count w below in
    let m = count * w - k * w in
    let all : k * w + m ≡ count * w = omega arith in
    let rest : drop (k * w) (take (count * w) xs) ≡ take m (drop (k * w) xs) =
    ap (λ (j : ℕ). drop (k * w) (take j xs)) (sym all) ∙ drop-take (k * w) m xs in
    ap num (sym (ap (take w) rest ∙ take-take w m (drop (k * w) xs) (omega arith)))

pub plain_first : (xs ys : List Bool) (w count : ℕ) → take (count * w) xs ≡ take (count * w) ys → plain xs w count ≡ plain ys w count
plain_first xs ys w count same =
    map_same (plain_at xs w) (plain_at ys w) 0 count
    (λ k low high. number_from xs w count k (omega arith) ∙ ap (λ (zs : List Bool). plain_at zs w k) same ∙ sym (number_from ys w count k (omega arith)))
