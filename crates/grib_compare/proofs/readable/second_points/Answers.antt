use Rattle.std.proofs.Common.{map, subst}
use Rattle.grib_dyadic.specs.Meaning.{SameMeaning}
use Rattle.grib_packing.specs.declared.column.Column.{Column}
use Rattle.grib2_message.specs.Fields.{meaning_at}
use Rattle.grib_report.proofs.Finite.{finite_column}
use Rattle.grib_compare.specs.Seen.{points_mean}
use Rattle.grib_compare.proofs.Columns.{means_second}
use Rattle.grib_compare.proofs.readable.second_points.Goals as goal

pub reference_of-reference-requires : goal.reference_of-reference-requires
reference_of-reference-requires c = record {
  finite = finite_column c.args.message.now c.args.field c.in_ok-column.column c.column.ensures.passes c.in_ok-column.ensures.column;
}

pub returns : goal.returns
returns c =
    subst (λ (x : Column). SameMeaning (points_mean c.of.result) (map (meaning_at x) x.points)) c.in_ok-column.ensures.column
    (means_second c.of.result c.in_ok-column.column c.reference_of-reference.result c.of.ensures.column c.of.ensures.reference c.of.ensures.e_is c.of.ensures.d_is
    c.reference_of-reference.ensures.number)
