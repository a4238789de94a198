use Rattle.std.proofs.Common.{refl, ◌∙◌, rules}
use Rattle.grib_text.specs.Lines.{point_lines}
use Rattle.grib_command.proofs.Outside.{front_none}
use Rattle.grib_report.proofs.Pending.{dumped_is, three_written, one_refused, two_refused}
use Rattle.grib_command.proofs.Passing.{on_refused}
use Rattle.grib_report.proofs.dumping.append_dump.Goals as goal

pub returns-in_err-numbers : goal.returns-in_err-numbers
returns-in_err-numbers g c = record {
  octets = record { whole = search rules; front = front_none _ _ };
  counted = search rules;
  unfinished = search rules;
}

pub returns-in_err-append_text : goal.returns-in_err-append_text
returns-in_err-append_text g c = record {
  octets = record {
    whole = on_refused _ _ c.from_residual-in_err-append_text.ensures.0;
    front = one_refused _ _ c.args.lines.now.items c.args.listed.now c.in_ok-numbers.numbers.items (point_lines 1 c.args.column.now.points) _
        (dumped_is c.args.listed.now c.in_ok-numbers.numbers.items c.args.reference.now c.args.column.now c.args.column.now.points c.in_ok-numbers.ensures refl)
        c.append_text.ensures.octets.front;
  };
  counted = search rules;
  unfinished = search rules;
}

pub returns-in_err-append_text-2 : goal.returns-in_err-append_text-2
returns-in_err-append_text-2 g c = record {
  octets = record {
    whole = on_refused _ _ c.from_residual-in_err-append_text-2.ensures.0;
    front = two_refused _ _ _ c.args.lines.now.items c.args.listed.now c.append_text.new.lines.items c.as_slice.result.now (point_lines 1 c.args.column.now.points) _
        (dumped_is c.args.listed.now c.as_slice.result.now c.args.reference.now c.args.column.now c.args.column.now.points
        (c.as_slice.ensures.value ∙ c.in_ok-numbers.ensures) refl)
        c.in_ok-append_text.ensures.octets.whole c.append_text-2.ensures.octets.front;
  };
  counted = search rules;
  unfinished = search rules;
}

pub returns : goal.returns
returns g c = record {
  octets =
      three_written c.append_points.result _ _ _ _ c.args.lines.now.items c.args.listed.now c.append_text.new.lines.items c.as_slice.result.now
      c.append_text-2.new.lines.items (point_lines 1 c.as_slice-2.result.now) _ _
      (dumped_is c.args.listed.now c.as_slice.result.now c.args.reference.now c.args.column.now c.as_slice-2.result.now
      (c.as_slice.ensures.value ∙ c.in_ok-numbers.ensures) c.as_slice-2.ensures)
      c.in_ok-append_text.ensures.octets.whole c.in_ok-append_text-2.ensures.octets.whole c.append_points.ensures.octets;
  counted = search rules;
  unfinished = search rules;
}
