use Rattle.std.proofs.Common.{ap, sym, ◌∙◌, arith, List, ℕ, replicate}
use Rattle.std.proofs.lemmas.List.{take-append-le}
use Rattle.grib_bits.specs.Bits.{bits, num}
use Rattle.grib_bits.proofs.OctetBits.{big_from-bits}
use Rattle.grib_bits.proofs.field.first_word.Goals as goal

pub returns : goal.returns
returns c =
    let octets = c.args.octets.now in
    c.read_u64.ensures
    ∙ big_from-bits 0 8 octets (λ i. omega (arith, c.type_inv.octets i)) (omega arith)
    ∙ ap (λ (xs : List ℕ). num (bits xs)) (sym (take-append-le 8 octets (replicate 8 0) c.if-octets-lt8.false))
