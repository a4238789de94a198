use Rattle.std.proofs.Common.{sym, ◌∙◌, arith}
use Rattle.grib2_sections.specs.Frame.{placed_at}
use Rattle.grib2_grids.proofs.Under.{grid_header_length}
use Rattle.grib2_products.proofs.Under.{product_parameter_length, product_instant_length}
use Rattle.grib_packing.proofs.Packings.{packing_passes}
use Rattle.grib_packing.proofs.OpaquePackings.{passes_under, read_under}
use Rattle.grib2_message.proofs.Sound.{none_located}
use Rattle.grib2_message.proofs.After.{fault_by_number}
use Rattle.grib2_message.proofs.Described.{line_first, line_third, line_fourth, line_fifth, line_other}
use Rattle.grib2_message.proofs.summary.FieldSummary.with_section.Goals as goal

pub with_identification-requires : goal.with_identification-requires
with_identification-requires c =
    let section = c.args.section.now in
    let r = c.requires.accepted in
    record { accepted = sym (fault_by_number r.1 (placed_at section.start section.octets.now) section.number section.itself.number_stands r.0 1 c.in-1.is) ∙ r.2 }

pub with_grid-requires : goal.with_grid-requires
with_grid-requires c =
    let section = c.args.section.now in
    let r = c.requires.accepted in
    grid_header_length r.0 section.octets.now
    (none_located section.start _ (sym (fault_by_number r.1 (placed_at section.start section.octets.now) section.number section.itself.number_stands r.0 3 c.in-3.is) ∙ r.2))

pub with_product-requires : goal.with_product-requires
with_product-requires c =
    let section = c.args.section.now in
    let r = c.requires.accepted in
    let none = none_located section.start _ (sym (fault_by_number r.1 (placed_at section.start section.octets.now) section.number section.itself.number_stands r.0 4 c.in-4.is) ∙ r.2) in
    record {
      least = product_parameter_length r.0 section.octets.now _ none;
      instant = λ shift has. product_instant_length r.0 section.octets.now _ shift none has;
    }

pub with_representation-requires : goal.with_representation-requires
with_representation-requires c =
    let section = c.args.section.now in
    let r = c.requires.accepted in
    let none = none_located section.start _ (sym (fault_by_number r.1 (placed_at section.start section.octets.now) section.number section.itself.number_stands r.0 5 c.in-5.is) ∙ r.2) in
    record {
      least = (passes_under r.0 section.octets.now _ none).long;
      known = λ known. omega (arith, (packing_passes section.octets.now _ (read_under r.0 section.octets.now _ known none)).long);
    }

pub returns-in-1 : goal.returns-in-1
returns-in-1 c = λ d before is.
    let section = c.args.section.now in
    line_first before (placed_at section.start section.octets.now) section.number section.itself.number_stands d c.args.self is c.in-1.is _ c.with_identification.ensures

pub returns-in-3 : goal.returns-in-3
returns-in-3 c = λ d before is.
    let section = c.args.section.now in
    line_third before (placed_at section.start section.octets.now) section.number section.itself.number_stands d c.args.self is c.in-3.is _ c.with_grid.ensures

pub returns-in-4 : goal.returns-in-4
returns-in-4 c = λ d before is.
    let section = c.args.section.now in
    line_fourth before (placed_at section.start section.octets.now) section.number section.itself.number_stands d c.args.self is c.in-4.is _ c.with_product.ensures

pub returns-in-5 : goal.returns-in-5
returns-in-5 c = λ d before is.
    let section = c.args.section.now in
    line_fifth before (placed_at section.start section.octets.now) section.number section.itself.number_stands d c.args.self is c.in-5.is _ c.with_representation.ensures

pub returns-in_default : goal.returns-in_default
returns-in_default c = λ d before is.
    let section = c.args.section.now in
    line_other before (placed_at section.start section.octets.now) section.number section.itself.number_stands d c.args.self is
    (λ x. absurd (omega arith)) (λ x. absurd (omega arith)) (λ x. absurd (omega arith)) (λ x. absurd (omega arith))
