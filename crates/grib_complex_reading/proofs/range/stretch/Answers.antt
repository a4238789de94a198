use Rattle.std.proofs.Common.{◌≡◌, ℕ, ◌+◌, ◌-◌, ◌*◌, ◌%◌, ◌^◌, ◌≤◌, ◌<◌, max, ℤ, pos, nat_abs, SFits, w64, to_z, of_z, to_z-of_z, ap, ◌+ℤ◌, ap₂, ◌∙◌, arith, pow_mono}
use Rattle.std.proofs.lemmas.Int.{ints, to_z_pos}
use Rattle.std.proofs.lemmas.Nat.{one_shl, pow_pos}
use Rattle.grib_complex_reading.proofs.range.stretch.Goals as goal

far_end : (r n : ℕ) (m x y z : ℤ) → x ≡ pos r → y ≡ m → z ≡ pos n → r < 2 ^ 32 → n < 2 ^ 32 → nat_abs m ≤ 2 ^ 31
    → nat_abs (to_z w64 (of_z w64 (to_z w64 (of_z w64 (x +ℤ y)) +ℤ z))) ≡ nat_abs (pos (r + n) +ℤ m)
far_end r n m x y z is_x is_y is_z small_r small_n small_m = omega (arith, ints)

pub returns : goal.returns
returns c =
    let r = c.args.group.reference in
    let w = c.args.group.width in
    let m = c.args.minimum in
    let power : 2 ^ w ≤ 2 ^ 32 = pow_mono c.requires.width in
    let some : 1 ≤ 2 ^ w = pow_pos w in
    let shifted : 1 * 2 ^ w % 2 ^ 64 ≡ 2 ^ w = one_shl w 64 (omega arith) in
    let fits : SFits w64 c.from.result = record { sfits = c.from.type_inv } in
    let reference : to_z w64 (of_z w64 c.from.result) ≡ pos r = to_z-of_z fits ∙ c.from.ensures in
    let ones : to_z w64 (1 * 2 ^ w % 2 ^ 64 - 1) ≡ pos (2 ^ w - 1) = ap (λ (n : ℕ). to_z w64 (n - 1)) shifted ∙ to_z_pos w64 (2 ^ w - 1) (omega arith) in
    let least : c.unsigned_abs.result ≡ nat_abs (pos r +ℤ m) = omega (arith, ints, c.unsigned_abs.ensures.value, c.from.ensures, c.from.type_inv) in
    let most : c.unsigned_abs-2.result ≡ nat_abs (pos (r + (2 ^ w - 1)) +ℤ m) = c.unsigned_abs-2.ensures.value ∙ far_end r (2 ^ w - 1) m _ _ _ reference (to_z-of_z c.ranges.minimum) ones (omega (arith, c.from.type_inv, c.from.ensures)) (omega arith) c.requires.minimum in
    c.max.ensures ∙ ap₂ (λ (a b : ℕ). max a b) least most
