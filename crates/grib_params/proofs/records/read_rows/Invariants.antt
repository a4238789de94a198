use Rattle.std.proofs.Common.{◌≡◌, ◌<◌, Some, true}
use Rattle.csv.specs.Reading.{Ready}
use Rattle.csv.specs.declared.reader.Trim.TheVariants as trim
use Rattle.grib_params.specs.Fields.{records_of}
use Rattle.grib_params.proofs.Reading.{Standing}
use Rattle.grib_params.proofs.records.read_rows.Given as goal

abbrev pub invariant-loop-record : goal.invariant-loop-record
invariant-loop-record g l = record {
  trim : l.record-iterator.rdr.trim ≡ trim.None;
  ready : Ready l.record-iterator.rdr;
  flexible : l.record-iterator.rdr.flexible ≡ true;
  left : 0 < l.record-iterator.left;
  stands : Standing g.R.FromRecords.verdict_from (g.R.FromRecords.verdict l.fn.text) (λ s. Some s.now) l.record-iterator.rdr l.number l.table;
}
