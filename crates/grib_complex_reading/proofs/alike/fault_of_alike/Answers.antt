use Rattle.std.proofs.Common.{◌≡◌, ℕ, ◌+◌, ◌*◌, Some, sum, ap, ◌∙◌, arith}
use Rattle.grib_base.specs.declared.fault.Reason.TheVariants.{DataTooShort}
use Rattle.grib_base.specs.Rules.{refusal}
use Rattle.grib_packing.specs.Groups.{lengths, references, widths}
use Rattle.grib_group_reading.proofs.Faults.{no_fault, shape_fault, short_fault}
use Rattle.grib_complex_reading.proofs.Uniform.{narrow_all, no_octets, packed_is, past_is, sum_is}
use Rattle.grib_complex_reading.proofs.alike.fault_of_alike.Goals as goal

pub returns-then-sum-from : goal.returns-then-sum-from
returns-then-sum-from c = λ octets.
    let complex = c.args.complex.now in
    let layout = complex.layout in
    let rs = references layout octets in
    let ws = widths layout octets in
    let ls = lengths layout octets in
    let alike = c.requires.alike in
    let some = c.requires.groups in
    let total = sum_is layout alike octets some in
    ap Some c.at.ensures
    ∙ shape_fault layout c.args.start ((complex.order + 1) * complex.extra) c.args.length complex.simple.values rs ws ls (narrow_all layout alike octets) c.first_past-group.result
    (λ right. c.if-sum-from.true (omega (arith, c.sum_of_lengths-sum.ensures, total, right, c.from.ensures)))
    (c.first_past-group.ensures layout.last_length ∙ past_is layout alike octets some complex.simple.values)

-- the bits of the section that are asked for
needed : (k n octets bits packed values width total : ℕ) → n ≡ 5 + k → octets ≡ 0 → bits ≡ values * width → packed ≡ total * width → total ≡ values → 8 * n + bits ≡ 8 * (5 + k + octets) + packed
needed k n octets bits packed values width total is_n none is_bits is_packed is_total =
    let e : total * width ≡ values * width = ap (λ (m : ℕ). m * width) is_total in
    omega (arith, is_n, none, is_bits, is_packed, e)

pub returns-then-from-bits : goal.returns-then-from-bits
returns-then-from-bits c = λ octets.
    let complex = c.args.complex.now in
    let layout = complex.layout in
    let rs = references layout octets in
    let ws = widths layout octets in
    let ls = lengths layout octets in
    let alike = c.requires.alike in
    let some = c.requires.groups in
    let k = (complex.order + 1) * complex.extra in
    let right : sum ls ≡ complex.simple.values = omega (arith, sum_is layout alike octets some, c.sum_of_lengths-sum.ensures, c.if-sum-from.false, c.from.ensures) in
    let asked = needed k _ _ _ _ complex.simple.values layout.width_reference (sum ls) (ap (λ (n : ℕ). 5 + n) c.skip.ensures) (no_octets layout alike) c.bits_of-bits.ensures.bits (packed_is layout alike octets some) right in
    ap Some (c.at-then-from-bits.ensures ∙ ap (refusal c.args.start DataTooShort) c.from-then-from-bits.ensures)
    ∙ short_fault layout c.args.start k c.args.length complex.simple.values rs ws ls (narrow_all layout alike octets) right
    (omega (arith, asked, c.if-from-bits.true, c.from-2.ensures, c.from-3.ensures))

pub returns : goal.returns
returns c = λ octets.
    let complex = c.args.complex.now in
    let layout = complex.layout in
    let rs = references layout octets in
    let ws = widths layout octets in
    let ls = lengths layout octets in
    let alike = c.requires.alike in
    let some = c.requires.groups in
    let k = (complex.order + 1) * complex.extra in
    let right : sum ls ≡ complex.simple.values = omega (arith, sum_is layout alike octets some, c.sum_of_lengths-sum.ensures, c.if-sum-from.false, c.from.ensures) in
    let asked = needed k _ _ _ _ complex.simple.values layout.width_reference (sum ls) (ap (λ (n : ℕ). 5 + n) c.skip.ensures) (no_octets layout alike) c.bits_of-bits.ensures.bits (packed_is layout alike octets some) right in
    no_fault layout c.args.start k c.args.length complex.simple.values rs ws ls (narrow_all layout alike octets) right
    (omega (arith, asked, c.if-from-bits.false, c.from-2.ensures, c.from-3.ensures))
