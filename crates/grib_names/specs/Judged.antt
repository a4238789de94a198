-- The verdicts on the texts of tables of names are verdicts on texts of records.
use Rattle.std.proofs.Common.{◌≡◌, [], length, refl}
use Rattle.std.proofs.lemmas.Bool.{le-ltb, lt-ltb}
use Rattle.grib_params.specs.Rows.{IsVerdict}
use Rattle.grib_params.specs.declared.table.TheConstants.{MOST_OCTETS}
use Rattle.grib_names.specs.Table.{Good, IsNamesFault, names_verdict, names_verdict_from}

pub names_judged : IsVerdict [] Good IsNamesFault names_verdict names_verdict_from
names_judged = record {
  large = λ text more. rw (lt-ltb MOST_OCTETS (length text) more) refl;
  small = λ text few. rw (le-ltb MOST_OCTETS (length text) few) refl;
  ends = λ count table. refl;
  unknown = λ judged. tt;
}
