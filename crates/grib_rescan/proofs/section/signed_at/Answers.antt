use Rattle.std.proofs.Common.{ℕ, ◌+◌, ◌^◌, ◌<◌, nat_abs, ℤ, refl, sym, ap, subst, ◌∙◌, arith, w64, SFits, to_z-of_z}
use Rattle.grib_bits.specs.Bits.{bits_of, signed}
use Rattle.grib_bits.proofs.Numbers.{length-bits_of}
use Rattle.grib_bits.proofs.OctetNumbers.{AreOctets-known, signed-octets}
use Rattle.grib_bits.proofs.Signs.{signed-small}
use Rattle.grib_rescan.proofs.section.signed_at.Goals as goal

pub returns-clause-value : goal.returns-clause-value
returns-clause-value c =
    let s = c.args.section.now in
    let fits : SFits w64 c.signed_of.result = record { sfits = c.signed_of.type_inv } in
    to_z-of_z fits ∙ c.signed_of.ensures ∙ ap (λ (n : ℕ). signed (bits_of 32 n)) (c.from.ensures ∙ c.u32_at.ensures)
    ∙ signed-octets s c.args.first (c.args.first + 3) 4 (AreOctets-known s c.type_inv.section) c.requires.counted (omega arith) c.requires.within 32 refl

pub returns-clause-small : goal.returns-clause-small
returns-clause-small c =
    let fits : SFits w64 c.signed_of.result = record { sfits = c.signed_of.type_inv } in
    subst (λ (z : ℤ). nat_abs z < 2 ^ 31) (sym (to_z-of_z fits ∙ c.signed_of.ensures)) (signed-small (bits_of 32 c.from.result) (length-bits_of 32 c.from.result))
