use Rattle.std.proofs.Common.{◌∙◌, rules, subst}
use Rattle.grib_io.specs.Outside.{AppendsFront}
use Rattle.grib_command.specs.Pending.{Writes}
use Rattle.grib_command.proofs.Outside.{front_none}
use Rattle.grib_report.proofs.Pending.{dump_is_1, from_empty, front_from_empty, pending_written}
use Rattle.grib_command.proofs.Passing.{on_refused}
use Rattle.grib_report.proofs.dumping.DumpingValuePrinter.write_first.Goals as goal

pub returns-in_err-column : goal.returns-in_err-column
returns-in_err-column g c = record {
  octets = record { whole = search rules; front = front_none _ _ };
  counted = search rules;
  unfinished = search rules;
}

pub returns-in_err-listed : goal.returns-in_err-listed
returns-in_err-listed g c = record {
  octets = record { whole = search rules; front = front_none _ _ };
  counted = search rules;
  unfinished = search rules;
}

pub returns-in_err-lines : goal.returns-in_err-lines
returns-in_err-lines g c = record {
  octets = record { whole = search rules; front = front_none _ _ };
  counted = search rules;
  unfinished = search rules;
}

pub returns-in_err-append_dump : goal.returns-in_err-append_dump
returns-in_err-append_dump g c = record {
  octets = record {
    whole = on_refused _ _ c.from_residual-in_err-append_dump.ensures.0;
    front = subst (AppendsFront (g.T.Sink.contents c.args.output.now) (g.T.Sink.contents c.append_dump.new.output))
        (dump_is_1 c.args.message.now c.args.number c.in_ok-column.column c.as_slice.result.now c.from_ibm-reference.result c.in_ok-column.ensures.column
        (c.as_slice.ensures.value ∙ c.in_ok-listed.ensures) c.from_ibm-reference.ensures.value)
        (front_from_empty _ _ c.in_ok-lines.lines.items _ c.in_ok-lines.ensures.items c.append_dump.ensures.octets.front);
  };
  counted = search rules;
  unfinished = search rules;
}

pub returns : goal.returns
returns g c = record {
  octets =
      subst (Writes c.write_whole.result (g.T.Sink.contents c.args.output.now) (g.T.Sink.contents c.write_whole.new.sink))
      (dump_is_1 c.args.message.now c.args.number c.in_ok-column.column c.as_slice.result.now c.from_ibm-reference.result c.in_ok-column.ensures.column
      (c.as_slice.ensures.value ∙ c.in_ok-listed.ensures) c.from_ibm-reference.ensures.value)
      (pending_written c.write_whole.result _ _ _ _ _ c.as_slice-2.result.now
      (from_empty _ _ c.in_ok-lines.lines.items _ _ c.in_ok-lines.ensures.items c.in_ok-append_dump.ensures.octets.whole) c.as_slice-2.ensures.value
      c.write_whole.ensures.writes.octets);
  counted = search rules;
  unfinished = search rules;
}
