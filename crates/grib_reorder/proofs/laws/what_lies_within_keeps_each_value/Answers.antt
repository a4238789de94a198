use Rattle.std.proofs.Common.{◌+◌, ◌*◌, ap, ◌∙◌}
use Rattle.grib_bits.specs.Octets.{octets}
use Rattle.grib_packing.specs.declared.column.Column.{Column}
use Rattle.grib2_message.specs.Fields.{part_octets, column_of}
use Rattle.grib_rescan.specs.Points.{point, width, height}
use Rattle.grib_rescan.specs.Bounds.{area_within}
use Rattle.grib_rescan.proofs.Rows.{box_at}
use Rattle.grib_reorder.specs.declared.edit.GridEdit.TheVariants.{Within}
use Rattle.grib_reorder.proofs.laws.what_lies_within_keeps_each_value.Goals as goal

pub returns-clause-entries : goal.returns-clause-entries
returns-clause-entries c = λ profile bounds message may i low high x y small few.
    let s = part_octets message i 3 in
    let area = area_within bounds s in
    ap (λ (column : Column). point column.points (y * width area + x)) (c.what_is_edited_is_accepted.ensures.columns profile (Within bounds) message may i low high)
    ∙ box_at (octets s 31 34) (octets s 35 38) (column_of message i).points area.i0 (width area) area.j0 (height area) x y small few

pub returns-clause-reference : goal.returns-clause-reference
returns-clause-reference c = λ profile bounds message may i low high.
    ap (λ (column : Column). column.reference) (c.what_is_edited_is_accepted.ensures.columns profile (Within bounds) message may i low high)

pub returns-clause-binary_scale : goal.returns-clause-binary_scale
returns-clause-binary_scale c = λ profile bounds message may i low high.
    ap (λ (column : Column). column.e) (c.what_is_edited_is_accepted.ensures.columns profile (Within bounds) message may i low high)

pub returns-clause-decimal_scale : goal.returns-clause-decimal_scale
returns-clause-decimal_scale c = λ profile bounds message may i low high.
    ap (λ (column : Column). column.d) (c.what_is_edited_is_accepted.ensures.columns profile (Within bounds) message may i low high)
