-- The latitudes of a grid whose increments lead from the first point to the last.
use Rattle.std.proofs.Common.{◌≡◌, ℕ, ◌+◌, ◌-◌, ◌*◌, ◌^◌, ◌<◌, ◌≤◌, true, List, nat_abs, ℤ, pos, ◌-ℤ◌, IsTrue, sym, ap, subst, ◌∙◌, arith}
use Rattle.std.proofs.lemmas.Int.{ints}
use Rattle.std.proofs.Math.Nat.{mul-le-mul_right}
use Rattle.std.specs.Ordering.{int_eq}
use Rattle.std.proofs.lemmas.Bool.Decides.{Decides-int_eq}
use Rattle.grib_bits.specs.Bits.{bits}
use Rattle.grib_bits.specs.Octets.{octets, octet_list, signed_octets}
use Rattle.grib_bits.proofs.OctetBits.{AreOctets, length-bits}
use Rattle.grib_bits.proofs.OctetNumbers.{length-octet_list}
use Rattle.grib_bits.proofs.Signs.{signed-small}
use Rattle.grib_bits.proofs.Logic.{left_true, right_true}
use Rattle.grib_rescan.specs.Sections.{HasPoints, latitude_at, has_steps}

equal : (a b : ℤ) → int_eq a b ≡ true → a ≡ b
equal a b h = grind (arith, Decides-int_eq)

pub between : (a : ℤ) (x y : ℕ) → x ≤ y → nat_abs a < 2 ^ 31 → nat_abs (a -ℤ pos y) < 2 ^ 31 → nat_abs (a -ℤ pos x) < 2 ^ 31
between a x y less first last = omega (arith, ints)

-- the latitude of each row lies between those of the first and the last
pub latitude-small : (s : List ℕ) (j : ℕ) → AreOctets s → HasPoints s → j < octets s 35 38 → IsTrue (has_steps s) → nat_abs (latitude_at s j) < 2 ^ 31
latitude-small s j known grid within steps =
    let last = octets s 35 38 - 1 in
    let step = octets s 68 71 in
    let read : (first : ℕ) → 1 ≤ first → first + 3 ≤ 72 → nat_abs (signed_octets s first (first + 3)) < 2 ^ 31 = λ first counted short.
    signed-small (bits (octet_list s first (first + 3)))
    (length-bits (octet_list s first (first + 3))
    ∙ ap (λ (n : ℕ). 8 * n) (length-octet_list s first (first + 3) 4 known counted (omega arith) (omega (arith, short, grid.long)))) in
    let same : latitude_at s last ≡ signed_octets s 56 59 = equal _ _ (right_true _ _ (left_true _ _ steps)) in
    between (signed_octets s 47 50) (j * step) (last * step) (mul-le-mul_right step (omega (arith, within))) (read 47 (omega arith) (omega arith))
    (subst (λ (z : ℤ). nat_abs z < 2 ^ 31) (sym same) (read 56 (omega arith) (omega arith)))
