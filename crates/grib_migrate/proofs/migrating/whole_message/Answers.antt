use Rattle.std.proofs.Common.{ℕ, ◌+◌, List, ◌++◌, length, ap, ap₂, ◌∙◌}
use Rattle.std.specs.Prelude.{option_copied}
use Rattle.grib_migrate.specs.Migrated.{bitmap_section, values_section}
use Rattle.grib_migrate.proofs.Whole.{whole_joined}
use Rattle.grib_migrate.proofs.migrating.whole_message.Goals as goal

pub returns : goal.returns
returns c =
    let source = c.args.source.now in
    let front = c.args.front.now in
    let s6 = bitmap_section (option_copied source.bitmap) source.points in
    let s7 = values_section source.numbers.now source.values in
    let at_1 = c.extend_from_slice.new.self.items in
    let total = 16 + length front + c.bitmap_length.result + c.data_length.result + 4 in
    whole_joined c.args.discipline total front s6 s7 c.in_ok-octets.octets.items at_1 c.extend_from_slice-2.new.self.items c.extend_from_slice-3.new.self.items c.add_bitmap.new.out.items
    c.add_data.new.out.items c.extend_from_slice-4.new.self.items c.in_ok-octets.ensures.items c.in_ok-extend_from_slice.ensures.items
    (c.in_ok-extend_from_slice-2.ensures.items ∙ ap (λ (xs : List ℕ). at_1 ++ xs) c.to_be_bytes.ensures)
    c.in_ok-extend_from_slice-3.ensures.items c.in_ok-add_bitmap.ensures c.in_ok-add_data.ensures c.in_ok-extend_from_slice-4.ensures.items
    (ap₂ (λ (x : ℕ) (y : ℕ). 16 + length front + x + y + 4) c.bitmap_length.ensures.length c.data_length.ensures)
