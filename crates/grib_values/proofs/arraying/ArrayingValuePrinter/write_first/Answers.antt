use Rattle.std.proofs.Common.{rules, subst}
use Rattle.grib_io.specs.Outside.{AppendsFront}
use Rattle.grib_command.specs.Pending.{Writes}
use Rattle.grib_command.proofs.Outside.{front_none}
use Rattle.grib_command.proofs.Passing.{on_refused}
use Rattle.grib_report.proofs.Pending.{from_empty, front_from_empty, pending_written}
use Rattle.grib_values.proofs.Pieces.{array_is_1}
use Rattle.grib_values.proofs.arraying.ArrayingValuePrinter.write_first.Goals as goal

pub returns-in_err-column : goal.returns-in_err-column
returns-in_err-column g c = record {
  octets = record { whole = search rules; front = front_none _ _ };
  counted = search rules;
  unfinished = search rules;
}

pub returns-in_err-octets : goal.returns-in_err-octets
returns-in_err-octets g c = record {
  octets = record { whole = search rules; front = front_none _ _ };
  counted = search rules;
  unfinished = search rules;
}

pub returns-in_err-append_array : goal.returns-in_err-append_array
returns-in_err-append_array g c = record {
  octets = record {
    whole = on_refused _ _ c.from_residual-in_err-append_array.ensures.0;
    front = subst (AppendsFront (g.T.Sink.contents c.args.output.now) (g.T.Sink.contents c.append_array.new.output))
        (array_is_1 c.args.self.now.format c.args.message.now c.shape_of_message-shape.result c.from_ibm-reference.result c.in_ok-column.column
        c.in_ok-column.ensures.column c.shape_of_message-shape.ensures c.from_ibm-reference.ensures.value)
        (front_from_empty _ _ c.in_ok-octets.octets.items _ c.in_ok-octets.ensures.items c.append_array.ensures.octets.front);
  };
  counted = search rules;
  unfinished = search rules;
}

pub returns : goal.returns
returns g c = record {
  octets =
      subst (Writes c.write_whole.result (g.T.Sink.contents c.args.output.now) (g.T.Sink.contents c.write_whole.new.sink))
      (array_is_1 c.args.self.now.format c.args.message.now c.shape_of_message-shape.result c.from_ibm-reference.result c.in_ok-column.column
      c.in_ok-column.ensures.column c.shape_of_message-shape.ensures c.from_ibm-reference.ensures.value)
      (pending_written c.write_whole.result _ _ _ _ _ c.as_slice.result.now
      (from_empty _ _ c.in_ok-octets.octets.items _ _ c.in_ok-octets.ensures.items c.in_ok-append_array.ensures.octets.whole) c.as_slice.ensures.value
      c.write_whole.ensures.writes.octets);
  counted = search rules;
  unfinished = search rules;
}
