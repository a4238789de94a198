use Rattle.std.proofs.Common.{ℕ, Bool, List, ◌++◌, ap, ◌∙◌}
use Rattle.grib_bits.specs.Encoding.{all_octets, section1_of}
use Rattle.grib_demote.specs.Products.{identification_numbers, local_octets}
use Rattle.grib_demote.specs.Values.{has_bitmap, bitmap_section, data_section}
use Rattle.grib_demote.specs.Demoted.{product_section}
use Rattle.grib_demote.proofs.Joining.{four_joined}
use Rattle.grib_demote.proofs.demoting.all_sections.Goals as goal

pub returns : goal.returns
returns c =
    let f = c.args.field.now in
    let p = c.args.packed.now in
    let told = c.args.told.now in
    let s1 = f.identification.now in
    let s2 = f.local.now in
    let s4 = f.product.now in
    let s5 = f.packing.now in
    let keep = c.args.keep_local in
    let at_0 = c.new-sections.result.items in
    let at_3 = c.add_bitmap.new.out.items in
    four_joined (product_section told keep (has_bitmap p) s1 s2 s4 s5) (section1_of c.args.grid.now) (bitmap_section p c.args.points) (data_section s5 p)
    at_0 c.add_section1.new.out.items c.add_section1-2.new.out.items at_3 c.add_section1-3.new.out.items c.new-sections.ensures.items
    (c.in_ok-add_section1.ensures ∙ ap (λ (xs : List ℕ). at_0 ++ section1_of xs)
    (c.as_slice.ensures.value ∙ c.in_ok-identification.ensures ∙ ap (λ (b : Bool). all_octets (identification_numbers told b s1 s4 s5) ++ local_octets keep s2) c.has_bitmap.ensures))
    c.in_ok-add_section1-2.ensures c.in_ok-add_bitmap.ensures
    (c.in_ok-add_section1-3.ensures ∙ ap (λ (xs : List ℕ). at_3 ++ section1_of xs) (c.as_slice-2.ensures.value ∙ c.in_ok-data.ensures))
