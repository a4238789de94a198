use Rattle.std.proofs.Common.{◌∙◌, ◌++◌, ap, rules, subst}
use Rattle.grib_text.specs.Lines.{list_line}
use Rattle.grib_command.specs.Pending.{WritesAllBut}
use Rattle.grib_command.proofs.Outside.{front_none}
use Rattle.grib_report.proofs.Finite.{finite_column}
use Rattle.grib_report.proofs.Pending.{dump_is}
use Rattle.grib_report.proofs.dumping.DumpingValuePrinter.append_field.Goals as goal

pub returns-in_err-column : goal.returns-in_err-column
returns-in_err-column g c = record {
  octets = record { whole = search rules; front = front_none _ _ };
  counted = search rules;
  unfinished = search rules;
}

pub ieee_reference-reference-requires : goal.ieee_reference-reference-requires
ieee_reference-reference-requires g c = record {
  finite = finite_column c.args.message.now c.args.field c.in_ok-column.column c.column.ensures.passes c.in_ok-column.ensures.column;
}

pub returns-in_err-listed : goal.returns-in_err-listed
returns-in_err-listed g c = record {
  octets = record { whole = search rules; front = front_none _ _ };
  counted = search rules;
  unfinished = search rules;
}

pub returns : goal.returns
returns g c = record {
  octets =
      subst
      (λ text. WritesAllBut c.append_dump.result (g.T.Sink.contents c.args.output.now) (g.T.Sink.contents c.append_dump.new.output) (c.args.lines.now.items ++ text)
      c.append_dump.new.lines.items)
      (dump_is c.args.message.now c.args.number c.args.field c.in_ok-column.column c.as_slice.result.now c.ieee_reference-reference.result
      c.in_ok-column.ensures.column (c.as_slice.ensures.value ∙ c.in_ok-listed.ensures ∙ ap (λ m. list_line m c.args.number c.args.field) c.message.ensures) c.ieee_reference-reference.ensures.value)
      c.append_dump.ensures.octets;
  counted = search rules;
  unfinished = search rules;
}
