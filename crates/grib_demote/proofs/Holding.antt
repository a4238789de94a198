-- What the sections of a field hold.
use Rattle.std.proofs.Common.{ℕ, List, length, sym, ap, ◌∙◌, arith}
use Rattle.std.proofs.lemmas.Bool.{ltb-false}
use Rattle.grib_base.specs.Rules.{first_fault}
use Rattle.grib_base.specs.declared.profile.Profile.TheVariants.{Open}
use Rattle.grib_base.proofs.Passing.{passes_from_none}
use Rattle.grib2_sections.specs.Identification.{identification_rules}
use Rattle.grib2_grids.specs.Grid.{grid_points}
use Rattle.grib2_grids.proofs.Numbers.{has_numbers}
use Rattle.grib2_grids.proofs.Under.{same_grid_rules, grid_header_length}
use Rattle.grib2_products.proofs.Numbers.{is_whole}
use Rattle.grib2_products.proofs.Under.{same_product_rules, product_parameter_length}
use Rattle.grib2_message.specs.Fields.{part_octets}
use Rattle.grib2_message.specs.Message.{FieldReads}
use Rattle.grib_packing.proofs.Packings.{packing_passes}
use Rattle.grib_demote.specs.Held.{Holds}

pub field_holds : (message : List ℕ) (i : ℕ) → FieldReads message i
    → Holds (part_octets message i 1) (part_octets message i 3) (part_octets message i 4) (part_octets message i 5)
field_holds message i passes =
    let s1 = part_octets message i 1 in
    let packing = packing_passes (part_octets message i 5) (grid_points (part_octets message i 3)) passes.packing in
    let s3 = part_octets message i 3 in
    let s4 = part_octets message i 4 in
    let parameter = product_parameter_length Open s4 1 passes.product in
    let p = passes_from_none (identification_rules s1) passes.identification in
    record {
      identification = ltb-false (length s1) 21 p.0;
      grid_header = grid_header_length Open s3 passes.grid;
      grid = λ stated. (has_numbers s3 (ap first_fault (sym (same_grid_rules Open s3 stated)) ∙ passes.grid)).template;
      product_header = omega (arith, parameter);
      product = λ stated. is_whole s4 (ap first_fault (sym (same_product_rules Open s4 1 stated)) ∙ passes.product);
      packing = omega (arith, packing.long);
    }
