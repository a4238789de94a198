use Rattle.std.proofs.Common.{◌≡◌, ℕ, ◌-◌, ◌*◌, ◌^◌, ◌%◌, Bool, cond, Some, None, sym, ap, ◌∙◌, arith}
use Rattle.std.proofs.lemmas.Nat.{one_shl}
use Rattle.grib_bits.proofs.Encoding.{pow_256}
use Rattle.grib_select.proofs.Numbers.{some_octets}
use Rattle.grib_select.proofs.number.missing.Goals as goal

pub returns-then-kind-clause-number : goal.returns-then-kind-clause-number
returns-then-kind-clause-number c =
    let n = c.args.octets in
    ap (λ (k : ℕ). Some (k - 1)) (one_shl (8 * n) 64 (omega (arith, c.requires.few)) ∙ sym (pow_256 n))
    ∙ ap (λ (b : Bool). cond b (Some (256 ^ n - 1)) None) (sym c.if-kind.true)

pub returns-then-kind-clause-fits : goal.returns-then-kind-clause-fits
returns-then-kind-clause-fits c =
    let n = c.args.octets in
    let e : 1 * 2 ^ (8 * n) % 18446744073709551616 ≡ 256 ^ n = one_shl (8 * n) 64 (omega (arith, c.requires.few)) ∙ sym (pow_256 n) in
    omega (arith, some_octets n)
