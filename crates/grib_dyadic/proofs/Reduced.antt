-- A reduced number against another form of the same number.
use Rattle.std.proofs.Common.{◌≡◌, ℕ, zero, suc, ◌*◌, ◌%◌, ◌^◌, ◌<◌, ◌⊎◌, pos, ◌*ℤ◌, ◌-ℤ◌, ◌≤ℤ◌, ◌<ℤ◌, nat_abs, sym, ap, ◌∙◌, inl, inr, arith}
use Rattle.std.proofs.Math.Nat.{pow-suc, mul_assoc, mul-mod_left}
use Rattle.std.proofs.lemmas.Nat.{pow_pos}
use Rattle.std.proofs.lemmas.Int.{ints, by_lt_z}
use Rattle.grib_dyadic.specs.Reference.{Binary, binary, two_to_difference, SameNumber, IsReduced}
use Rattle.grib_dyadic.proofs.Numbers.{scaled, scaled_self, SameNumber-scaled, times_cancel, SameNumber_sym}
use Rattle.std.specs.Int.{int_min}
use Rattle.grib_bits.proofs.Arithmetic.{nat_abs-times, zero-times}

-- x is the number v, with no greater exponent
pub record IsMultiple (v x : Binary) : Type 0 where
  pub exponent : x.exponent ≤ℤ v.exponent
  pub mantissa : x.mantissa ≡ scaled v x.exponent

-- both are 0
pub record IsZero (v x : Binary) : Type 0 where
  pub mantissa : v.mantissa ≡ pos 0
  pub exponent : v.exponent ≡ pos 0
  pub other : x.mantissa ≡ pos 0

odd_times_even : (a b d : ℕ) → a ≡ b * 2 ^ d → 0 < d → a % 2 ≡ 1 → ⊥
odd_times_even a b zero e some odd = omega arith
odd_times_even a b (suc d) e some odd =
    let even : a % 2 ≡ 0 = ap (λ n. n % 2) (e ∙ ap (λ n. b * n) (pow-suc 2 d) ∙ sym (mul_assoc b (2 ^ d) 2)) ∙ mul-mod_left (b * 2 ^ d) 2 in
    omega arith

-- a number with an odd mantissa has the greatest exponent of all its forms
multiple_of_odd : (v x : Binary) → nat_abs v.mantissa % 2 ≡ 1 → SameNumber v x → IsMultiple v x
multiple_of_odd v x odd same = by_lt_z v.exponent x.exponent above below
  where
    above : v.exponent <ℤ x.exponent → IsMultiple v x
    above lt =
        let t = v.exponent in
        let low : t ≤ℤ x.exponent = omega (arith, ints) in
        let self : t ≤ℤ t = omega (arith, ints) in
        let e = sym (scaled_self v) ∙ SameNumber-scaled v x t self low same in
        let abs = ap nat_abs e ∙ nat_abs-times x.mantissa (two_to_difference x.exponent t) in
        let some : 0 < nat_abs (x.exponent -ℤ t) = omega (arith, ints) in
        absurd (odd_times_even (nat_abs v.mantissa) (nat_abs x.mantissa) (nat_abs (x.exponent -ℤ t)) abs some odd)

    below : x.exponent ≤ℤ v.exponent → IsMultiple v x
    below le =
        let self : x.exponent ≤ℤ x.exponent = omega (arith, ints) in
        record { exponent = le; mantissa = sym (scaled_self x) ∙ sym (SameNumber-scaled v x x.exponent le self same) }

pub zero_of_zero : (v x : Binary) → v.mantissa ≡ pos 0 → SameNumber v x → x.mantissa ≡ pos 0
zero_of_zero v x none same =
    let t = int_min v.exponent x.exponent in
    let c = two_to_difference x.exponent t in
    let d = two_to_difference v.exponent t in
    times_cancel x.mantissa (pos 0) c (pow_pos (nat_abs (x.exponent -ℤ t))) (sym same ∙ ap (λ m. m *ℤ pos d) none ∙ zero-times d ∙ sym (zero-times c))

pub reduced_form : (v x : Binary) → IsReduced v → SameNumber v x → IsMultiple v x ⊎ IsZero v x
reduced_form v x (inl odd) same = inl (multiple_of_odd v x odd same)
reduced_form v x (inr none) same =
    inr (record { mantissa = none.0; exponent = none.1; other = zero_of_zero v x none.0 same })

-- the bits of a form of a reduced number, from those of the number
pub IsMultiple-abs : (v x : Binary) → IsMultiple v x → nat_abs x.mantissa ≡ nat_abs v.mantissa * two_to_difference v.exponent x.exponent
IsMultiple-abs v x m = ap nat_abs m.mantissa ∙ nat_abs-times v.mantissa (two_to_difference v.exponent x.exponent)

-- a reduced number whose mantissa is 0 is 0 * 2 ^ 0
pub reduced_zero : (v : Binary) → IsReduced v → v.mantissa ≡ pos 0 → v ≡ binary (pos 0) (pos 0)
reduced_zero v (inl odd) none = let e = ap nat_abs none in absurd (omega arith)
reduced_zero v (inr h) none = ap (λ n. binary n v.exponent) none ∙ ap (λ n. binary (pos 0) n) h.1

-- a number has one reduced form
pub reduced_once : (v w : Binary) → IsReduced v → IsReduced w → SameNumber v w → v ≡ w
reduced_once v w p q same = once (reduced_form v w p same) (reduced_form w v q (SameNumber_sym v w same))
  where
    zeros : v.mantissa ≡ pos 0 → w.mantissa ≡ pos 0 → v ≡ w
    zeros a b = reduced_zero v p a ∙ sym (reduced_zero w q b)

    once : IsMultiple v w ⊎ IsZero v w → IsMultiple w v ⊎ IsZero w v → v ≡ w
    once (inl a) (inl b) =
        let k : w.exponent ≡ v.exponent = let l = a.exponent in let r = b.exponent in omega (arith, ints) in
        let m : w.mantissa ≡ v.mantissa = a.mantissa ∙ ap (λ t. scaled v t) k ∙ scaled_self v in
        ap (λ n. binary n v.exponent) (sym m) ∙ ap (λ n. binary w.mantissa n) (sym k)
    once (inl a) (inr b) = zeros b.other b.mantissa
    once (inr a) _ = zeros a.mantissa a.other
