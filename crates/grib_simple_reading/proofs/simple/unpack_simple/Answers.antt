use Rattle.std.proofs.Common.{◌*◌, ℕ, List, map, pos, drop, sym, ap, ap₂, ◌∙◌, arith}
use Rattle.std.proofs.lemmas.List.{take_rest}
use Rattle.grib_bits.specs.Bits.{bits}
use Rattle.grib_bits.specs.Plain.{plain}
use Rattle.grib_packing.specs.declared.column.Point.{Point}
use Rattle.grib_packing.specs.declared.column.Point.TheVariants.{Scaled}
use Rattle.grib_packing.specs.Column.{points_with_mask}
use Rattle.grib_base.proofs.Passing.{refused}
use Rattle.grib_packing.proofs.Packings.{entries_of-simple}
use Rattle.grib_simple_reading.proofs.Accepted.{same_column}
use Rattle.grib_simple_reading.proofs.simple.unpack_simple.Goals as goal

pub returns-in_err-check_simple : goal.returns-in_err-check_simple
returns-in_err-check_simple c = λ s5 spelled template.
    refused _ _ _ _ c.from_residual.ensures.1 (c.in_err-check_simple.ensures.rule s5 spelled template)

pub present_points-requires-clause-within : goal.present_points-requires-clause-within
present_points-requires-clause-within c =
    let product = ap (λ (w : ℕ). w * c.args.simple.now.values) c.from.ensures in
    omega (arith, product, c.in_ok-check_simple.ensures.room)

pub returns : goal.returns
returns c = λ s5 simple template.
    let s7 = c.args.section7.now.octets.now in
    let mask = c.args.mask.now in
    let f : ℕ → Point = λ x. Scaled (pos x) in
    let part = bits (drop 5 s7) in
    let width = c.from.ensures ∙ simple.bits in
    let numbers =
    ap (λ (xs : List ℕ). map f (plain (bits xs) c.from.result c.args.simple.now.values)) (take_rest s7 5)
    ∙ ap₂ (λ (w n : ℕ). map f (plain part w n)) width simple.values in (
      c.in_ok-check_simple.ensures.rule s5 simple template,
      c.column.ensures ∙ same_column s5 _ _ _ c.in_ok-points.points.items _ simple.reference simple.e simple.d
          (c.in_ok-points.ensures ∙ ap (points_with_mask mask) (numbers ∙ sym (entries_of-simple s5 s7 template))),
    )
