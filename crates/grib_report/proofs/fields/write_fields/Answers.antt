use Rattle.std.proofs.Common.{rules}
use Rattle.grib_report.proofs.Pending.{pending_written, from_empty}
use Rattle.grib_report.proofs.fields.write_fields.Goals as goal

pub returns : goal.returns
returns g c = record {
  octets =
      pending_written c.write_whole.result _ _ _ _ _ c.as_slice.result.now
      (from_empty _ _ c.in_ok-lines.lines.items _ _ c.in_ok-lines.ensures.items c.in_ok-append_fields.ensures.octets.whole) c.as_slice.ensures.value
      c.write_whole.ensures.writes.octets;
  counted = search rules;
  unfinished = search rules;
}
