use Rattle.std.proofs.Common.{◌++◌, rules, subst}
use Rattle.grib_command.specs.Pending.{WritesAllBut}
use Rattle.grib_command.proofs.Outside.{front_none}
use Rattle.grib_report.proofs.Finite.{finite_column}
use Rattle.grib_values.proofs.Pieces.{array_is}
use Rattle.grib_values.proofs.arraying.ArrayingValuePrinter.append_field.Goals as goal

pub returns-in_err-column : goal.returns-in_err-column
returns-in_err-column g c = record {
  octets = record { whole = search rules; front = front_none _ _ };
  counted = search rules;
  unfinished = search rules;
}

pub ieee_reference-reference-requires : goal.ieee_reference-reference-requires
ieee_reference-reference-requires g c = record {
  finite = finite_column c.args.message.now c.args.field c.in_ok-column.column c.column.ensures.passes c.in_ok-column.ensures.column;
}

pub returns : goal.returns
returns g c = record {
  octets =
      subst
      (λ text. WritesAllBut c.append_array.result (g.T.Sink.contents c.args.output.now) (g.T.Sink.contents c.append_array.new.output) (c.args.lines.now.items ++ text)
      c.append_array.new.octets.items)
      (array_is c.args.self.now.format c.args.message.now c.args.field c.shape_of_field-shape.result c.ieee_reference-reference.result c.in_ok-column.column
      c.in_ok-column.ensures.column c.shape_of_field-shape.ensures c.ieee_reference-reference.ensures.value)
      c.append_array.ensures.octets;
  counted = search rules;
  unfinished = search rules;
}
