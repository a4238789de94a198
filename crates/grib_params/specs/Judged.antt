-- The verdicts on the texts of both kinds of table are verdicts on texts of records.
use Rattle.std.proofs.Common.{◌≡◌, [], length, refl}
use Rattle.std.proofs.lemmas.Bool.{le-ltb, lt-ltb}
use Rattle.grib_params.specs.Rows.{IsVerdict}
use Rattle.grib_params.specs.Surfaces as surfaces
use Rattle.grib_params.specs.Surfaces.{IsSurfaceFault, surface_verdict, surface_verdict_from}
use Rattle.grib_params.specs.Table.{Good, IsFault, table_verdict, verdict_from}
use Rattle.grib_params.specs.declared.table.TheConstants.{MOST_OCTETS}

pub table_judged : IsVerdict [] Good IsFault table_verdict verdict_from
table_judged = record {
  large = λ text more. rw (lt-ltb MOST_OCTETS (length text) more) refl;
  small = λ text few. rw (le-ltb MOST_OCTETS (length text) few) refl;
  ends = λ count table. refl;
  unknown = λ judged. tt;
}

pub surfaces_judged : IsVerdict [] surfaces.Good IsSurfaceFault surface_verdict surface_verdict_from
surfaces_judged = record {
  large = λ text more. rw (lt-ltb MOST_OCTETS (length text) more) refl;
  small = λ text few. rw (le-ltb MOST_OCTETS (length text) few) refl;
  ends = λ count table. refl;
  unknown = λ judged. tt;
}
