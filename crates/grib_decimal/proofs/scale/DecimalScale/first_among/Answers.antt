use Rattle.std.proofs.Common.{◌+◌, option_map, pos, ap, ◌∙◌, sym, arith}
use Rattle.grib_packing.specs.declared.column.Point.TheVariants.{Scaled}
use Rattle.grib_decimal.specs.Range.{is_point_too_large}
use Rattle.grib_decimal.proofs.Positions.{position_is, position_none}
use Rattle.grib_decimal.proofs.scale.DecimalScale.first_among.Goals as goal

pub returns-then-is_point_too_large : goal.returns-then-is_point_too_large
returns-then-is_point_too_large c =
    let l = c.loop-index in
    let s = c.args.self.now in
    let points = c.args.points.now in
    ap (option_map (λ n. n + 1)) (sym (position_is (is_point_too_large s) points l.index (Scaled (pos 0)) c.loop-index-test.true l.invariant
    (sym c.is_point_too_large.ensures ∙ c.if-is_point_too_large.true)))

pub returns : goal.returns
returns c =
    let l = c.loop-index in
    let s = c.args.self.now in
    let points = c.args.points.now in
    ap (option_map (λ n. n + 1)) (sym (position_none (is_point_too_large s) points (Scaled (pos 0)) (λ k within. l.invariant k (omega arith))))
