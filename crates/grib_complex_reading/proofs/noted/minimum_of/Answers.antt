use Rattle.std.proofs.Common.{◌*◌, ◌^◌, ◌≤◌, nat_abs, sym, ◌∙◌, arith, subst, w64, SFits, to_z-of_z}
use Rattle.grib_bits.specs.Bits.{bits_of}
use Rattle.grib_bits.proofs.Numbers.{length-bits_of}
use Rattle.grib_complex_reading.proofs.Fields.{signed-small}
use Rattle.grib_complex_reading.proofs.noted.minimum_of.Goals as goal

pub returns-clause-small : goal.returns-clause-small
returns-clause-small c =
    let fits : SFits w64 c.signed_of.result = record { sfits = c.signed_of.type_inv } in
    subst (λ z. nat_abs z ≤ 2 ^ 31) (sym (to_z-of_z fits ∙ c.signed_of.ensures))
    (signed-small (bits_of (8 * c.from-2.result) c.from.result) (omega (arith, c.from-2.ensures, length-bits_of (8 * c.from-2.result) c.from.result)))
