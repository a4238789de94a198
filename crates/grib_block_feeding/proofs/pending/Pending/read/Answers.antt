use Rattle.std.proofs.Common.{ℕ, ◌+◌, ◌*◌, ◌∷◌, refl, ap, ◌∙◌, subst, arith}
use Rattle.grib_block_feeding.specs.declared.pending.Pending.{Pending}
use Rattle.grib_block_feeding.specs.Pending.{front_pending, IsSmall, IsNumber}
use Rattle.grib_block_feeding.proofs.Bitwise.{bit_read, bit_fits}
use Rattle.grib_block_feeding.proofs.pending.Pending.read.Goals as goal

pub returns-else-left-eq1-clause-reads : goal.returns-else-left-eq1-clause-reads
returns-else-left-eq1-clause-reads c = λ rest.
    let small = subst IsSmall c.in-Bits.is c.requires in
    ap (λ (p : Pending). front_pending p (c.args.bit ∷ rest)) c.in-Bits.is
    ∙ bit_read c.in-Bits.value c.in-Bits.left _ _ c.args.bit rest small.0 (ap (λ (n : ℕ). 2 * c.in-Bits.value + n) c.digit_of.ensures.is) refl

pub returns-else-left-eq1-clause-number : goal.returns-else-left-eq1-clause-number
returns-else-left-eq1-clause-number c = λ width number.
    let fits = subst (IsNumber width) c.in-Bits.is number in (
      omega (arith, fits.0),
      bit_fits c.in-Bits.value c.in-Bits.left _ _ width c.digit_of.result fits.0 refl c.digit_of.ensures.within refl fits.1,
    )
