use Rattle.std.proofs.Common.{◌≡◌, ℕ, ◌*◌, Bool, List, take, IfOk, sym, ap, ap₂, ◌∙◌, subst, arith, mul_comm}
use Rattle.grib_bits.specs.Bits.{bits}
use Rattle.grib_bits.specs.Plain.{plain}
use Rattle.grib_bits.proofs.OctetBits.{length-bits}
use Rattle.grib_packing.specs.Packed.{HasContents, fields}
use Rattle.grib_simple_values.proofs.InPlace.{fields-plain, width_fits}
use Rattle.grib_simple_values.proofs.in_place.numbers_section.Goals as goal

pub narrowed_numbers-requires-clause-fits : goal.narrowed_numbers-requires-clause-fits
narrowed_numbers-requires-clause-fits c = width_fits (bits c.args.octets.now) c.args.bits c.args.count c.args.width c.requires.bits c.requires.width

pub returns-then-width-bits : goal.returns-then-width-bits
returns-then-width-bits c =
    let bs = bits c.args.octets.now in
    let count : c.args.count * c.args.bits ≡ c.from.result * c.from-then-width-bits.result =
    mul_comm c.args.count c.args.bits ∙ ap₂ (λ (a b : ℕ). a * b) (sym c.from.ensures) (sym c.from-then-width-bits.ensures) in
    let same =
    ap (λ (v : ℕ). fields v (plain bs c.args.bits c.args.count)) c.if-width-bits.true
    ∙ fields-plain c.args.bits c.args.count bs (omega (arith, mul_comm c.args.count c.args.bits, c.requires.within, length-bits c.args.octets.now))
    ∙ ap (λ (k : ℕ). take k bs) count in
    subst (λ (contents : List Bool). IfOk c.copied_numbers.result (λ s. HasContents 7 s contents)) (sym same) c.copied_numbers.ensures
