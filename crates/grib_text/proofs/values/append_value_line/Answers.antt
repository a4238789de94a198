use Rattle.std.proofs.Common.{FitsSigned, to_z, of_z, to_z-of_z, sym, ap, ◌∙◌, rules}
use Rattle.std.specs.Int.{w64}
use Rattle.grib_packing.specs.declared.column.Point.TheVariants.{Scaled}
use Rattle.grib_text.proofs.PiecesOfValues.{line_of}
use Rattle.grib_text.proofs.values.append_value_line.Goals as goal

pub returns-else-is_err-clause-appended : goal.returns-else-is_err-clause-appended
returns-else-is_err-clause-appended c =
    let x = c.in-Scaled.x in
    let fits : FitsSigned w64 x = search rules in
    let line = c.append_scaled-appended in
    line_of line.result line.new.line.items c.args.line.now.items c.args.scale.now c.args.place c.args.point.now (to_z w64 (of_z w64 x))
    (c.in-Scaled.is ∙ ap Scaled (sym (to_z-of_z fits))) line.ensures.appended
