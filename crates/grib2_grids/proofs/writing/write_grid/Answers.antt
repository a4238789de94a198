-- The octets of the parts, one after another, are those of the section.
use Rattle.std.proofs.Common.{◌≡◌, ◌*◌, ◌+◌, ◌^◌, ℕ, List, length, get_or, ap, ap₂, arith, subst, subst₂, ◌++◌}
use Rattle.grib_bits.specs.Encoding.{AddsOctets}
use Rattle.grib_bits.specs.Listed.{numbers_octets}
use Rattle.grib_bits.proofs.Encoding.{AddsOctets-append, AddsOctets-whole}
use Rattle.grib2_grids.specs.Spelled.{template_of, written_length}
use Rattle.grib2_grids.specs.Written.{SpelledHeader, header, template_octets}
use Rattle.grib2_grids.proofs.ByTemplate.{length-template_octets}
use Rattle.grib2_grids.proofs.Rebuilt.{word, row-lt, rows-lt, length-section_of_grid, rebuilt}
use Rattle.grib2_grids.proofs.writing.write_grid.Goals as goal

pub overflow_cast-length : goal.overflow_cast-length
overflow_cast-length c =
    record { fits = omega (arith, rows-lt c.args.value.now c.requires.writable, ap length c.as_slice-rows.ensures) }

pub overflow_mul-length : goal.overflow_mul-length
overflow_mul-length c =
    let listed = ap₂ ◌*◌ c.from-size.ensures (ap length c.as_slice-rows.ensures) in
    record { fits = omega (arith, c.requires.writable.short) }

pub overflow_add-length : goal.overflow_add-length
overflow_add-length c =
    let listed = ap₂ ◌*◌ c.from-size.ensures (ap length c.as_slice-rows.ensures) in
    record { fits = omega (arith, c.requires.writable.short, c.template_length.ensures) }

pub write_list-requires-clause-word : goal.write_list-requires-clause-word
write_list-requires-clause-word c = omega (arith, word c.args.value.now c.requires.writable, c.from-size.ensures)

pub write_list-requires-clause-fit : goal.write_list-requires-clause-fit
write_list-requires-clause-fit c = λ k below.
    let row = ap (λ (rows : List ℕ). get_or rows k 0) c.as_slice-rows.ensures in
    let power = ap (λ (n : ℕ). 256 ^ n) c.from-size.ensures in
    omega (arith, row-lt c.args.value.now c.requires.writable k (omega (arith, ap length c.as_slice-rows.ensures)))

pub write_list-requires-clause-room : goal.write_list-requires-clause-room
write_list-requires-clause-room c =
    let listed = ap₂ ◌*◌ c.from-size.ensures (ap length c.as_slice-rows.ensures) in
    let template = length-template_octets c.args.value.now.grid in
    omega (arith, c.write_template.ensures.octets.spare, c.write_header.ensures.octets.spare)

pub returns : goal.returns
returns c =
    let v = c.args.value.now in
    let long : c.template_length.result + c.from-size.result * length c.as_slice-rows.result.now ≡ written_length v =
    ap₂ ◌+◌ c.template_length.ensures (ap₂ ◌*◌ c.from-size.ensures (ap length c.as_slice-rows.ensures)) in
    let Adds : ℕ → List ℕ → Type 0 = λ l entries. AddsOctets c.args.out.now c.write_list.new.out
    (header l v.points v.list_octets v.list_meaning (template_of v.grid) ++ template_octets v.grid ++ entries) in
    let adds = subst₂ Adds long (ap₂ numbers_octets c.from-size.ensures c.as_slice-rows.ensures)
    (AddsOctets-append (AddsOctets-append c.write_header.ensures.octets c.write_template.ensures.octets) c.write_list.ensures) in
    let entries = numbers_octets v.list_octets v.rows in
    let Begins : ℕ → Type 0 = λ l. SpelledHeader l v.points v.list_octets v.list_meaning (template_of v.grid)
    (header l v.points v.list_octets v.list_meaning (template_of v.grid) ++ template_octets v.grid ++ entries) in
    let begins = subst Begins long (c.write_header.ensures.spelled (template_octets v.grid ++ entries)) in
    let grid = c.write_template.ensures.spelled (written_length v) v.points v.list_octets v.list_meaning (template_of v.grid) entries in
    record {
      section = rebuilt v c.requires.writable begins grid adds.small;
      length = length-section_of_grid v;
      octets = adds;
      whole = AddsOctets-whole adds c.requires.whole;
    }
