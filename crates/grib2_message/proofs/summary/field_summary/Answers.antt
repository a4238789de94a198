use Rattle.std.proofs.Common.{◌≡◌, List, ℕ, None, length, refl, sym, ap, ◌∙◌, arith}
use Rattle.grib_base.specs.Rules.{first_fault_at, located}
use Rattle.grib2_grids.specs.Grid.{grid_points}
use Rattle.grib2_sections.specs.Identification.{identification_rules}
use Rattle.grib2_message.specs.Fields.{part_octets}
use Rattle.grib2_message.specs.Summary.{summary_of}
use Rattle.grib2_products.specs.Product.{product_template}
use Rattle.grib2_sections.specs.Instant.{instant_shift}
use Rattle.grib2_products.proofs.Under.{product_parameter_length, product_instant_length}
use Rattle.grib_packing.specs.Entries.{is_opaque_packing, packing_fault}
use Rattle.grib_packing.proofs.Packings.{packing_passes}
use Rattle.grib_packing.proofs.OpaquePackings.{passes_under, read_under}
use Rattle.grib_base.specs.declared.profile.Profile.TheVariants.{Open}
use Rattle.grib2_message.proofs.summary.field_summary.Goals as goal

pub with_identification-requires : goal.with_identification-requires
with_identification-requires c =
    let start = c.part_in.result.start in
    record {
      accepted = ap (λ (s : List ℕ). first_fault_at start (identification_rules s)) c.part_in.ensures.octets
          ∙ ap (located start) c.part_in.ensures.passes.identification;
    }

pub with_product-requires : goal.with_product-requires
with_product-requires c =
    let s4 = part_octets c.args.message.now c.args.field 4 in
    let is = c.part_in-3.ensures.octets in
    let passes = c.part_in-3.ensures.passes.product in
    let long = ap length is in
    record {
      least = omega (arith, product_parameter_length Open s4 1 passes, long);
      instant = λ shift has. omega (arith, product_instant_length Open s4 1 shift passes (ap (λ (s : List ℕ). instant_shift (product_template s)) (sym is) ∙ has), long);
    }

pub with_representation-requires : goal.with_representation-requires
with_representation-requires c =
    let s5 = part_octets c.args.message.now c.args.field 5 in
    let points = grid_points (part_octets c.args.message.now c.args.field 3) in
    let passes = c.part_in-4.ensures.passes.packing in
    let is = c.part_in-4.ensures.octets in
    let long = ap length is in
    record {
      least = omega (arith, (passes_under Open s5 points passes).long, long);
      known = λ known.
          let stated : packing_fault s5 points ≡ None = read_under Open s5 points (ap is_opaque_packing (sym is) ∙ known) passes in
          omega (arith, (packing_passes s5 points stated).long, long);
    }

pub returns : goal.returns
returns c =
    let is : c.with_representation.result ≡ summary_of c.args.message.now c.args.field =
    rw (c.with_representation.ensures, c.with_product.ensures, c.with_grid.ensures, c.with_identification.ensures, c.new.ensures, c.u8_at.ensures, c.octets.ensures.octets, c.part_in.ensures.octets, c.part_in-2.ensures.octets, c.part_in-3.ensures.octets, c.part_in-4.ensures.octets) refl in
    is
