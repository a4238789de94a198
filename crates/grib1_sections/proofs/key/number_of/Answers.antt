use Rattle.std.proofs.Common.{ℕ, ◌^◌, ◌<◌, sym, ◌∙◌, arith, subst}
use Rattle.grib_bits.proofs.OctetNumbers.{AreOctets-known}
use Rattle.grib1_sections.proofs.Entries.{octets-small}
use Rattle.grib1_sections.proofs.key.number_of.Goals as goal

pub returns-clause-small : goal.returns-clause-small
returns-clause-small c =
    let s = c.args.section1.now in
    let place = c.place-place.result in
    let is = c.place-place.ensures in
    let known = AreOctets-known s c.type_inv.section1 in
    subst (λ (n : ℕ). n < 2 ^ 16) (sym (c.from.ensures ∙ c.uint_at.ensures))
    (octets-small s place.first _ known is.counted (omega (arith, is.some)) (omega (arith, is.some, is.word)) (omega (arith, is.some, is.within)))
