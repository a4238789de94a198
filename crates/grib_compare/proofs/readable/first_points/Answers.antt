use Rattle.std.proofs.Common.{map, subst}
use Rattle.grib_dyadic.specs.Meaning.{SameMeaning}
use Rattle.grib_packing.specs.declared.column.Column.{Column}
use Rattle.grib1_sections.specs.Column.{meaning_at}
use Rattle.grib_compare.specs.Seen.{points_mean}
use Rattle.grib_compare.proofs.Columns.{means_first}
use Rattle.grib_compare.proofs.readable.first_points.Goals as goal

pub returns : goal.returns
returns c =
    subst (λ (x : Column). SameMeaning (points_mean c.of.result) (map (meaning_at x) x.points)) c.in_ok-column.ensures.column
    (means_first c.of.result c.in_ok-column.column c.from_ibm-reference.result c.of.ensures.column c.of.ensures.reference c.of.ensures.e_is c.of.ensures.d_is
    c.from_ibm-reference.ensures.number)
