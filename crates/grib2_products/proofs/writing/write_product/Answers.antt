-- The octets of the parts, one after another, are those of the section.
use Rattle.std.proofs.Common.{◌≡◌, ◌*◌, ◌+◌, ◌^◌, ◌<◌, ℕ, List, ◌++◌, length, get_or, ap, arith, subst, subst₂}
use Rattle.grib_bits.specs.Encoding.{AddsOctets}
use Rattle.grib_bits.specs.Listed.{numbers_octets}
use Rattle.grib_bits.proofs.Encoding.{AddsOctets-append, AddsOctets-whole}
use Rattle.grib2_products.specs.Spelled.{template_of, written_length}
use Rattle.grib2_products.specs.Written.{SpelledHeader, header, template_octets}
use Rattle.grib2_products.proofs.ByTemplate.{length-template_octets}
use Rattle.grib2_products.proofs.Rebuilt.{length-section_of_product, rebuilt}
use Rattle.grib2_products.proofs.writing.write_product.Goals as goal

pub overflow_cast-count : goal.overflow_cast-count
overflow_cast-count c =
    record { fits = omega (arith, c.requires.writable.few, ap length c.as_slice-coordinates.ensures) }

pub overflow_mul-length : goal.overflow_mul-length
overflow_mul-length c =
    record { fits = omega (arith, c.requires.writable.few, ap length c.as_slice-coordinates.ensures, c.from.ensures) }

pub overflow_add-length : goal.overflow_add-length
overflow_add-length c =
    record { fits = omega (arith, c.requires.writable.few, ap length c.as_slice-coordinates.ensures, c.from.ensures, c.template_length.ensures.short) }

pub write_template-requires-clause-room : goal.write_template-requires-clause-room
write_template-requires-clause-room c =
    let template = length-template_octets c.args.value.now.product c.requires.writable.ranges in
    omega (arith, c.write_header.ensures.octets.spare)

pub write_coordinates-requires : goal.write_coordinates-requires
write_coordinates-requires c =
    let template = length-template_octets c.args.value.now.product c.requires.writable.ranges in
    omega (arith, c.write_template.ensures.octets.spare, c.write_header.ensures.octets.spare, ap length c.as_slice-coordinates.ensures)

pub returns : goal.returns
returns c =
    let v = c.args.value.now in
    let count = ap length c.as_slice-coordinates.ensures in
    let long : c.template_length.result + 4 * c.from.result ≡ written_length v = omega (arith, c.template_length.ensures.length, c.from.ensures, count) in
    let Adds : ℕ → ℕ → ℕ → List ℕ → Type 0 = λ l n template words. AddsOctets c.args.out.now c.write_coordinates.new.out
    (header l n template ++ template_octets v.product ++ numbers_octets 4 words) in
    let From : ℕ → ℕ → Type 0 = λ l n. Adds l n c.template_number.result c.as_slice-coordinates.result.now in
    let To : ℕ → List ℕ → Type 0 = λ template words. Adds (written_length v) (length v.coordinates) template words in
    let adds = subst₂ To c.template_number.ensures c.as_slice-coordinates.ensures
    (subst₂ From long count (AddsOctets-append (AddsOctets-append c.write_header.ensures.octets c.write_template.ensures.octets) c.write_coordinates.ensures.octets)) in
    let words = numbers_octets 4 v.coordinates in
    let Begins : ℕ → ℕ → ℕ → Type 0 = λ l n template. SpelledHeader l n template (header l n template ++ template_octets v.product ++ words) in
    let Counted : ℕ → ℕ → Type 0 = λ l n. Begins l n c.template_number.result in
    let Numbered : ℕ → Type 0 = λ template. Begins (written_length v) (length v.coordinates) template in
    let begins = subst Numbered c.template_number.ensures (subst₂ Counted long count (c.write_header.ensures.spelled (template_octets v.product ++ words))) in
    let Fits : List ℕ → Type 0 = λ numbers. (k : ℕ) → k < length numbers → get_or numbers k 0 < 256 ^ 4 in
    let fit = subst Fits c.as_slice-coordinates.ensures c.write_coordinates.ensures.fit in
    let product = c.write_template.ensures.spelled (written_length v) (length v.coordinates) (template_of v.product) words in
    record {
      section = rebuilt v c.requires.writable fit begins product adds.small;
      length = length-section_of_product v c.requires.writable;
      octets = adds;
      whole = AddsOctets-whole adds c.requires.whole;
    }
