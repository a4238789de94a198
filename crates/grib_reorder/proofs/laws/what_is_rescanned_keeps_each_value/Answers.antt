use Rattle.std.proofs.Common.{ap, ◌∙◌}
use Rattle.grib_bits.specs.Octets.{octets}
use Rattle.grib_packing.specs.declared.column.Column.{Column}
use Rattle.grib2_message.specs.Fields.{part_octets, column_of}
use Rattle.grib_rescan.specs.Scanning.{scanning_of}
use Rattle.grib_rescan.specs.Points.{point}
use Rattle.grib_rescan.proofs.Rows.{rescanned_entry}
use Rattle.grib_reorder.specs.declared.edit.GridEdit.TheVariants.{Rescan}
use Rattle.grib_reorder.proofs.laws.what_is_rescanned_keeps_each_value.Goals as goal

pub returns-clause-entries : goal.returns-clause-entries
returns-clause-entries c = λ profile message may i low high n m small few same.
    let s = part_octets message i 3 in
    ap (λ (column : Column). point column.points n) (c.what_is_edited_is_accepted.ensures.columns profile Rescan message may i low high)
    ∙ rescanned_entry (scanning_of (octets s 72 72)) (octets s 31 34) (octets s 35 38) (column_of message i).points n m small few same

pub returns-clause-reference : goal.returns-clause-reference
returns-clause-reference c = λ profile message may i low high.
    ap (λ (column : Column). column.reference) (c.what_is_edited_is_accepted.ensures.columns profile Rescan message may i low high)

pub returns-clause-binary_scale : goal.returns-clause-binary_scale
returns-clause-binary_scale c = λ profile message may i low high.
    ap (λ (column : Column). column.e) (c.what_is_edited_is_accepted.ensures.columns profile Rescan message may i low high)

pub returns-clause-decimal_scale : goal.returns-clause-decimal_scale
returns-clause-decimal_scale c = λ profile message may i low high.
    ap (λ (column : Column). column.d) (c.what_is_edited_is_accepted.ensures.columns profile Rescan message may i low high)
