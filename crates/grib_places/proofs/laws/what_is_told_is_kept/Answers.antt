use Rattle.std.proofs.Common.{◌≡◌, ℕ, zero, suc, ◌-◌, ◌*◌, ◌≤◌, ℤ, pos, negsuc, neg_ℤ, ◌+ℤ◌, ◌-ℤ◌, ◌*ℤ◌, ◌≤ℤ◌, sym, ap, ◌∙◌, arith}
use Rattle.std.proofs.Math.IntN.{*ℤ-zero}
use Rattle.std.proofs.Math.Nat.{mul-le-mul_left}
use Rattle.std.proofs.lemmas.Int.{ints}
use Rattle.grib_dyadic.proofs.Numbers.{times_sum}
use Rattle.grib_bits.specs.Octets.{signed_octets}
use Rattle.grib_bits.proofs.Arithmetic.{sum_le}
use Rattle.grib_places.specs.declared.coordinate.Coordinate.TheVariants.{Latitude}
use Rattle.grib_places.specs.Places.{parts_of, first_of, way_of, count_of}
use Rattle.grib_places.proofs.laws.what_is_told_is_kept.Goals as goal

add_none : (x : ℤ) → (x +ℤ pos 0) ≡ x
add_none x = omega (arith, ints)

pub returns-clause-first : goal.returns-clause-first
returns-clause-first c = λ coordinate s.
    let first = first_of coordinate s *ℤ pos (parts_of (count_of coordinate s)) in
    ap (λ (x : ℤ). first +ℤ x) (*ℤ-zero (way_of coordinate s)) ∙ add_none first

pub returns-clause-last : goal.returns-clause-last
returns-clause-last c = λ coordinate s many.
    let first = first_of coordinate s in
    let way = way_of coordinate s in
    let count = count_of coordinate s in
    let parts : count - 1 ≡ parts_of count = omega arith in
    ap (λ (n : ℕ). (first *ℤ pos (parts_of count)) +ℤ (way *ℤ pos n)) parts ∙ sym (times_sum first way (parts_of count))

-- more steps along a way that does not rise
falls : (w : ℤ) (j k : ℕ) → w ≤ℤ pos 0 → j ≤ k → (w *ℤ pos k) ≤ℤ (w *ℤ pos j)
falls (pos zero) j k low less = omega (arith, ints)
falls (pos (suc n)) j k low less = absurd (omega (arith, ints))
falls (negsuc n) j k low less =
    let more : suc n * j ≤ suc n * k = mul-le-mul_left (suc n) less in
    let h : neg_ℤ (pos (suc n * k)) ≤ℤ neg_ℤ (pos (suc n * j)) = omega (arith, ints, more) in
    h

below : (a b : ℤ) → b ≤ℤ a → (b -ℤ a) ≤ℤ pos 0
below a b h = omega (arith, ints)

pub returns-clause-southward : goal.returns-clause-southward
returns-clause-southward c = λ s j k low less.
    sum_le (first_of Latitude s *ℤ pos (parts_of (count_of Latitude s))) (way_of Latitude s *ℤ pos k) (way_of Latitude s *ℤ pos j)
    (falls (way_of Latitude s) j k (below (signed_octets s 47 50) (signed_octets s 56 59) low) less)
