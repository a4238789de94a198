use Rattle.std.proofs.Common.{◌≡◌, ℕ, ◌*◌, ◌<◌, Bool, cond, Some, sym, ap, ◌∙◌, arith, subst, w64, to_z, of_z, to_z-of_z}
use Rattle.std.specs.Prelude.{IfSome}
use Rattle.std.proofs.lemmas.Nat.{one_shl}
use Rattle.grib_bits.proofs.Encoding.{pow_256}
use Rattle.grib_select.specs.Changed.{signed_number, unsigned_number}
use Rattle.grib_select.proofs.Numbers.{signed_is, below_zero, too_great, unsigned_is}
use Rattle.grib_select.proofs.number.number_of.Goals as goal
use Rattle.grib_select.proofs.number.number_of.Goals.{then-x-lt0-via-then-x-lt0, then-x-lt0-via-else-x-lt0+then-magnitude-width}

pub returns-then-is_signed-clause-number : goal.returns-then-is_signed-clause-number
returns-then-is_signed-clause-number c =
    let n = c.args.octets in
    let x = c.args.x in
    let told = c.raw_of.ensures in
    let back = to_z-of_z c.ranges.x in
    signed_is n c.requires.some (to_z w64 (of_z w64 x)) c.raw_of.result told.too_large told.fits told.value told.zero
    ∙ ap (signed_number n) back
    ∙ sym (ap (λ (b : Bool). cond b (signed_number n x) (unsigned_number n x)) c.if-is_signed.true)

pub returns-then-is_signed-clause-fits : goal.returns-then-is_signed-clause-fits
returns-then-is_signed-clause-fits c =
    subst (λ (n : ℕ). IfSome c.raw_of.result (λ raw. raw < n)) (sym (pow_256 c.args.octets)) c.raw_of.ensures.fits

pub returns-then-x-lt0-clause-number : goal.returns-then-x-lt0-clause-number
returns-then-x-lt0-clause-number c =
    let n = c.args.octets in
    let x = c.args.x in
    let z = to_z w64 (of_z w64 x) in
    let back : z ≡ x = to_z-of_z c.ranges.x in
    let bound = one_shl (8 * n) 64 (omega (arith, c.requires.few)) ∙ sym (pow_256 n) in
    let plain = ap (unsigned_number n) back ∙ sym (ap (λ (b : Bool). cond b (signed_number n x) (unsigned_number n x)) c.if-is_signed.false) in
    elim c.then-x-lt0.branch [
      | then-x-lt0-via-then-x-lt0 w ↦ below_zero n z w.if-x-lt0.true ∙ plain
      | then-x-lt0-via-else-x-lt0+then-magnitude-width w ↦
          too_great n z w.if-x-lt0.false (omega (arith, bound, w.if-magnitude-width.true, c.unsigned_abs-magnitude.ensures.value)) ∙ plain
    ]

pub returns-clause-number : goal.returns-clause-number
returns-clause-number c =
    let n = c.args.octets in
    let x = c.args.x in
    let z = to_z w64 (of_z w64 x) in
    let back : z ≡ x = to_z-of_z c.ranges.x in
    let bound = one_shl (8 * n) 64 (omega (arith, c.requires.few)) ∙ sym (pow_256 n) in
    ap Some c.unsigned_abs-magnitude.ensures.value
    ∙ unsigned_is n z c.if-x-lt0.false (omega (arith, bound, c.if-magnitude-width.false, c.unsigned_abs-magnitude.ensures.value))
    ∙ ap (unsigned_number n) back
    ∙ sym (ap (λ (b : Bool). cond b (signed_number n x) (unsigned_number n x)) c.if-is_signed.false)

pub returns-clause-fits : goal.returns-clause-fits
returns-clause-fits c =
    let n = c.args.octets in
    let bound = one_shl (8 * n) 64 (omega (arith, c.requires.few)) ∙ sym (pow_256 n) in
    omega (arith, bound, c.if-magnitude-width.false)
