-- Lemmas on the first bits of some octets.
use Rattle.std.proofs.Common.{◌≡◌, ℕ, ◌+◌, ◌-◌, ◌*◌, ◌/◌, ◌%◌, ◌^◌, ◌≤◌, ◌==◌, Bool, true, false, cond, List, [], ◌∷◌, ◌++◌, length, take, refl, ap, ◌∙◌, arith, eqb-true, append-nil}
use Rattle.std.proofs.lemmas.Bool.{eqb-false}
use Rattle.std.proofs.lemmas.List.{length-append, length-take-le}
use Rattle.std.specs.Int.{div_ceil}
use Rattle.grib_bits.specs.Octets.{octets}
use Rattle.grib_migrate.specs.Values.{front_octets}

front-length_by : (from : List ℕ) (n x : ℕ) → n ≤ 8 * length from → (t : Bool) → (n % 8 == 0) ≡ t → length (take (n / 8) from ++ cond t [] (x ∷ [])) ≡ div_ceil n 8
front-length_by from n x within true e =
    let z = eqb-true (n % 8) 0 e in
    omega (arith, z, length-append (take (n / 8) from) [], length-take-le (n / 8) from (omega arith))
front-length_by from n x within false e =
    let z = eqb-false (n % 8) 0 e in
    omega (arith, z, length-append (take (n / 8) from) (x ∷ []), length-take-le (n / 8) from (omega arith))

pub front-length : (from : List ℕ) (n : ℕ) → n ≤ 8 * length from → length (front_octets from n) ≡ div_ceil n 8
front-length from n within =
    let last = octets from (n / 8 + 1) (n / 8 + 1) in
    front-length_by from n (last - last % 2 ^ (8 - n % 8)) within (n % 8 == 0) refl

pub front-whole : (from : List ℕ) (n : ℕ) → n % 8 ≡ 0 → front_octets from n ≡ take (n / 8) from
front-whole from n e = by (n % 8 == 0) refl
  where
    last : ℕ
    last = octets from (n / 8 + 1) (n / 8 + 1)

    by : (t : Bool) → (n % 8 == 0) ≡ t → front_octets from n ≡ take (n / 8) from
    by true z = ap (λ (b : Bool). take (n / 8) from ++ cond b [] ((last - last % 2 ^ (8 - n % 8)) ∷ [])) z ∙ append-nil (take (n / 8) from)
    by false z = absurd (eqb-false (n % 8) 0 z e)

pub front-cut : (from : List ℕ) (n : ℕ) → (n % 8 ≡ 0 → ⊥) → front_octets from n ≡ take (n / 8) from ++ ((octets from (n / 8 + 1) (n / 8 + 1) - octets from (n / 8 + 1) (n / 8 + 1) % 2 ^ (8 - n % 8)) ∷ [])
front-cut from n e = by (n % 8 == 0) refl
  where
    last : ℕ
    last = octets from (n / 8 + 1) (n / 8 + 1)

    by : (t : Bool) → (n % 8 == 0) ≡ t → front_octets from n ≡ take (n / 8) from ++ ((last - last % 2 ^ (8 - n % 8)) ∷ [])
    by true z = absurd (e (eqb-true (n % 8) 0 z))
    by false z = ap (λ (b : Bool). take (n / 8) from ++ cond b [] ((last - last % 2 ^ (8 - n % 8)) ∷ [])) z
