use Rattle.std.proofs.Common.{◌≡◌, ℕ, List, ◌++◌, None, ap, ◌∙◌, subst, length, ◌≤◌, ◌^◌, refl, arith}
use Rattle.grib_bits.specs.Encoding.{section_of, all_octets}
use Rattle.grib_migrate.specs.Losses.{first_of, number_losses, coordinate_loss, reference_loss}
use Rattle.grib_migrate.specs.Grids.{grid_loss, grid_octets}
use Rattle.grib_migrate.specs.Products.{identification_numbers, product_octets_by}
use Rattle.grib_migrate.specs.Values.{packing_numbers}
use Rattle.grib_migrate.specs.Labels.{local_section_by}
use Rattle.grib1_sections.specs.Coordinates.{coordinate_list}
use Rattle.grib_migrate.proofs.Joining.{second_lost_at, third_lost, fault_carried, none_lost, five_joined, memory_lost, section_short, local_short, five_short}
use Rattle.grib_migrate.proofs.migrating.front_sections.Goals as goal

pub add_section-requires : goal.add_section-requires
add_section-requires c = let e = ap length c.as_slice.ensures.value in omega (arith, e, c.in_ok-identification.ensures.few)

pub returns-in_err-product : goal.returns-in_err-product
returns-in_err-product c =
    let s = c.args.source.now in
    let first = first_of (number_losses s.grid.now s.numbers.now) in
    fault_carried _ first first c.from_residual-in_err-product.result _ c.from_residual-in_err-product.ensures.1 refl
    (second_lost_at (grid_loss s.grid.now) (reference_loss s.numbers.now) (coordinate_list s.grid.now) c.args.coordinates.now _ c.in_ok-grid.ensures.octets.0 c.requires.coordinates
    c.in_err-product.ensures)

pub returns-in_err-packing : goal.returns-in_err-packing
returns-in_err-packing c =
    let s = c.args.source.now in
    let first = first_of (number_losses s.grid.now s.numbers.now) in
    fault_carried _ first first c.from_residual-in_err-packing.result _ c.from_residual-in_err-packing.ensures.1 refl
    (third_lost (grid_loss s.grid.now) (coordinate_loss (coordinate_list s.grid.now)) (reference_loss s.numbers.now) _ c.in_ok-grid.ensures.octets.0
    (subst (λ (words : List ℕ). coordinate_loss words ≡ None) c.requires.coordinates c.in_ok-product.ensures.0) c.in_err-packing.ensures)

pub returns-in_err-add_section : goal.returns-in_err-add_section
returns-in_err-add_section c = memory_lost c.from_residual-in_err-add_section.result _ _ c.from_residual-in_err-add_section.ensures

pub returns-in_err-add_local : goal.returns-in_err-add_local
returns-in_err-add_local c = memory_lost c.from_residual-in_err-add_local.result _ _ c.from_residual-in_err-add_local.ensures

pub returns : goal.returns
returns c =
    let s = c.args.source.now in
    let words = subst (λ (words : List ℕ). coordinate_loss words ≡ None) c.requires.coordinates c.in_ok-product.ensures.0 in
    let none = none_lost (grid_loss s.grid.now) (coordinate_loss (coordinate_list s.grid.now)) (reference_loss s.numbers.now) c.in_ok-grid.ensures.octets.0 words c.in_ok-packing.ensures.0 in
    let p = c.args.product.now in
    let s1 = s.identification.now in
    let at_0 = c.new-front.result.items in
    let at_1 = c.add_section.new.out.items in
    let at_2 = c.add_local.new.out.items in
    let at_3 = c.add_section-2.new.out.items in
    let at_4 = c.add_section-3.new.out.items in
    let at_5 = c.add_section-4.new.out.items in
    let words_are = ap (λ (words : List ℕ). product_octets_by p.member p.target s1 words p.unit p.surfaces) c.requires.coordinates in
    let x1 = section_of 1 (all_octets (identification_numbers p.target s1)) in
    let x2 = local_section_by c.args.local s1 in
    let x3 = section_of 3 (grid_octets s.points s.grid.now) in
    let x4 = section_of 4 (product_octets_by p.member p.target s1 (coordinate_list s.grid.now) p.unit p.surfaces) in
    let x5 = section_of 5 (all_octets (packing_numbers s1 s.numbers.now s.values)) in
    let joined : at_5 ≡ x1 ++ (x2 ++ (x3 ++ (x4 ++ x5))) =
    five_joined x1 x2 x3 x4 x5 at_0 at_1 at_2 at_3 at_4 at_5 c.new-front.ensures.items
    (c.in_ok-add_section.ensures ∙ ap (λ (xs : List ℕ). at_0 ++ section_of 1 xs) (c.as_slice.ensures.value ∙ c.in_ok-identification.ensures.octets))
    c.in_ok-add_local.ensures
    (c.in_ok-add_section-2.ensures ∙ ap (λ (xs : List ℕ). at_2 ++ section_of 3 xs) (c.as_slice-2.ensures.value ∙ c.in_ok-grid.ensures.octets.1))
    (c.in_ok-add_section-3.ensures ∙ ap (λ (xs : List ℕ). at_3 ++ section_of 4 xs) (c.as_slice-3.ensures.value ∙ c.in_ok-product.ensures.1 ∙ words_are))
    (c.in_ok-add_section-4.ensures ∙ ap (λ (xs : List ℕ). at_4 ++ section_of 5 xs) (c.as_slice-4.ensures.value ∙ c.in_ok-packing.ensures.1)) in
    let brief : length at_5 ≤ 2 ^ 30 =
    five_short x1 x2 x3 x4 x5 at_5 joined
    (section_short 1 100 c.in_ok-identification.identification.items (all_octets (identification_numbers p.target s1)) c.in_ok-identification.ensures.octets c.in_ok-identification.ensures.few)
    (local_short c.args.local s1 c.few_octets.ensures)
    (section_short 3 131500 c.in_ok-grid.grid.items (grid_octets s.points s.grid.now) c.in_ok-grid.ensures.octets.1 c.in_ok-grid.ensures.octets.2)
    (section_short 4 2000 _ (product_octets_by p.member p.target s1 (coordinate_list s.grid.now) p.unit p.surfaces) (c.in_ok-product.ensures.1 ∙ words_are) c.in_ok-product.ensures.2)
    (section_short 5 100 _ (all_octets (packing_numbers s1 s.numbers.now s.values)) c.in_ok-packing.ensures.1 c.in_ok-packing.ensures.2) in
    (none, joined, brief)
