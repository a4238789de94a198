use Rattle.std.proofs.Common.{◌≡◌, ℕ, ◌*◌, Bool, List, length, sym, ap, ◌∙◌, arith, subst₂}
use Rattle.std.proofs.lemmas.List.Sums.{count_by-le-length}
use Rattle.grib_bits.specs.Bits.{bits}
use Rattle.grib_bits.specs.Plain.{plain}
use Rattle.grib_packing.specs.Groupings.{digits, greatest}
use Rattle.grib_packing.specs.Packed.{HasContents, HasNumbers, fields}
use Rattle.grib_packing.proofs.Fields.{length-plain}
use Rattle.grib_simple_values.proofs.InPlace.{plain_small, simply_packed}
use Rattle.grib_simple_values.proofs.in_place.pack_numbers.Goals as goal

pub least_width-width-requires-clause-within : goal.least_width-width-requires-clause-within
least_width-width-requires-clause-within c =
    let product = ap (λ (w : ℕ). w * c.args.simple.now.values) c.from-bits.ensures in
    omega (arith, product, c.requires.within)

pub numbers_section-requires-clause-count : goal.numbers_section-requires-clause-count
numbers_section-requires-clause-count c =
    omega (arith, c.requires.present, c.requires.few, count_by-le-length (λ (b : Bool). b) c.args.mask.now)

pub numbers_section-requires-clause-within : goal.numbers_section-requires-clause-within
numbers_section-requires-clause-within c =
    let product = ap (λ (w : ℕ). w * c.args.simple.now.values) c.from-bits.ensures in
    omega (arith, product, c.requires.within)

pub returns : goal.returns
returns c = λ column reference e d points.
    let simple = c.args.simple.now in
    let bs = bits c.args.octets.now in
    let numbers = plain bs simple.bits simple.values in
    let read : plain bs c.from-bits.result simple.values ≡ numbers = ap (λ (w : ℕ). plain bs w simple.values) c.from-bits.ensures in
    let long : simple.values ≡ length numbers = sym (length-plain bs simple.bits simple.values) in
    let width : c.least_width-width.result ≡ digits (greatest numbers) = c.least_width-width.ensures.width ∙ ap (λ (ns : List ℕ). digits (greatest ns)) read in
    let section5 = c.in_ok-section5.section5 in
    let stand = c.in_ok-section5.ensures.1 column reference e d in
    simply_packed column c.args.mask.now numbers simple.kind section5 c.in_ok-section6.section6 c.in_ok-section7.section7 points
    (plain_small bs simple.bits simple.values c.requires.bits) (c.requires.present ∙ long) c.in_ok-section5.ensures.0
    (subst₂ (λ (n w : ℕ). HasNumbers section5 column n 0 w simple.kind) long width stand) c.in_ok-section6.ensures
    (subst₂ (λ (w : ℕ) (ns : List ℕ). HasContents 7 c.in_ok-section7.section7 (fields w ns)) width read c.in_ok-section7.ensures)
