use Rattle.std.proofs.Common.{◌≡◌, ℕ, map, pos, sym, ◌∙◌, Vec, Global}
use Rattle.grib_bits.specs.Bits.{bits}
use Rattle.grib_bits.specs.Plain.{plain}
use Rattle.grib_packing.specs.declared.column.Point.{Point}
use Rattle.grib_packing.specs.declared.column.Point.TheVariants.{Scaled}
use Rattle.grib_packing.specs.Column.{points_with_mask}
use Rattle.grib_simple_reading.proofs.Unpacking.{if_ok}
use Rattle.grib_simple_reading.proofs.Masked.{with_full_mask}
use Rattle.grib_simple_reading.proofs.simple.present_points.Goals as goal

pub returns-then-values-len : goal.returns-then-values-len
returns-then-values-len c =
    let f : ℕ → Point = λ x. Scaled (pos x) in
    let xs = bits c.args.octets.now in
    let entries = map f (plain xs c.args.bits c.args.values) in
    let full = with_full_mask c.args.mask.now f xs c.args.bits c.args.values c.requires.present (c.if-values-len.true ∙ c.len.ensures) in
    if_ok (λ (v : Vec Point Global). v.items ≡ entries) (λ (v : Vec Point Global). v.items ≡ points_with_mask c.args.mask.now entries) c.unpack_points.result (λ v e. e ∙ sym full) c.unpack_points.ensures
