-- How many octets the sections have.
use Rattle.std.proofs.Common.{◌≡◌, ◌⊎◌, ℕ, ◌+◌, ◌*◌, ◌≤◌, None, Bool, cond, List, ◌++◌, length, arith}
use Rattle.std.specs.List.{list_any}
use Rattle.std.proofs.lemmas.List.{length-append}
use Rattle.grib_bits.specs.Bits.{bits_of}
use Rattle.grib_packing.specs.declared.column.Column.{Column}
use Rattle.grib_packing.specs.Differences.{descriptors_of}
use Rattle.grib_packing.specs.Misfits.{ToSimple, ToComplex, ToSpatial, first_misfit, is_missing, scaled_numbers}
use Rattle.grib_packing.specs.Packed.{descriptor_fields, fields, present_bits, simple_numbers, simple_width}
use Rattle.grib_packing.specs.Written.{MayBePacked}
use Rattle.grib_packed.specs.Written.{simple_sections, complex_sections, spatial_sections, group_bits}
use Rattle.grib_packed.proofs.Octets.{length-section}
use Rattle.grib_packed.proofs.Written.{bitmap_few, bits_few, coded_by_differences, coded_plainly, descriptors_few, values_few}

pub simple_short : (column : Column) (kind : ℕ) → MayBePacked column → first_misfit ToSimple column.points ≡ None
    → let p = simple_sections column kind in length p.section5 + length p.section6 + length p.section7 ≤ 11 * length column.points + 300
simple_short column kind may none =
    let points = column.points in
    let bitmap : List Bool = cond (list_any is_missing points) (bits_of 8 0 ++ present_bits points) (bits_of 8 255) in
    let values = fields (simple_width points) (simple_numbers points) in
    omega (arith, length-section 6 bitmap, length-section 7 values, bitmap_few points may.few, values_few points none)

pub complex_short : (column : Column) (kind : ℕ) → first_misfit ToComplex column.points ≡ None
    → let p = complex_sections column kind in length p.section5 + length p.section6 + length p.section7 ≤ 11 * length column.points + 300
complex_short column kind none =
    let points = column.points in
    let contents = group_bits ToComplex points in
    omega (arith, length-section 7 contents, bits_few ToComplex points (coded_plainly points none))

pub spatial_short : (order : ℕ) (column : Column) (kind : ℕ) → (order ≡ 1) ⊎ (order ≡ 2) → first_misfit (ToSpatial order) column.points ≡ None
    → let p = spatial_sections order column kind in length p.section5 + length p.section6 + length p.section7 ≤ 11 * length column.points + 300
spatial_short order column kind known none =
    let points = column.points in
    let front = descriptor_fields (descriptors_of order (scaled_numbers points)) in
    let groups = group_bits (ToSpatial order) points in
    let size = descriptors_few (descriptors_of order (scaled_numbers points)) known in
    omega (arith, length-section 7 (front ++ groups), length-append front groups, size.1, bits_few (ToSpatial order) points (coded_by_differences order points none))
