use Rattle.std.proofs.Common.{◌∙◌, ◌++◌, ap, rules, subst}
use Rattle.grib_text.specs.Lines.{list_line}
use Rattle.grib_command.specs.Pending.{WritesAllBut}
use Rattle.grib_command.proofs.Outside.{front_none}
use Rattle.grib_report.proofs.Finite.{finite_column}
use Rattle.grib_report.proofs.Causes.{values_fit}
use Rattle.grib_report.proofs.Pending.{values_are}
use Rattle.grib_report.proofs.valuing.ValuedFieldsFieldTexts.append.Goals as goal

pub returns-in_err-column : goal.returns-in_err-column
returns-in_err-column g c = record {
  octets = record { whole = search rules; front = front_none _ _ };
  counted = search rules;
  unfinished = search rules;
}

pub ieee_reference-reference-requires : goal.ieee_reference-reference-requires
ieee_reference-reference-requires g c = record {
  finite = finite_column c.args.self.now.message.now c.args.field c.in_ok-column.column c.column.ensures.passes c.in_ok-column.ensures.column;
}

pub returns-in_err-listed : goal.returns-in_err-listed
returns-in_err-listed g c = record {
  octets = record { whole = search rules; front = front_none _ _ };
  counted = search rules;
  unfinished = search rules;
}

pub returns : goal.returns
returns g c = record {
  octets =
      subst
      (λ text. WritesAllBut c.append_valued.result (g.T.Sink.contents c.args.output.now) (g.T.Sink.contents c.append_valued.new.output) (c.args.lines.now.items ++ text)
      c.append_valued.new.lines.items)
      (values_are c.args.self.now.places c.args.self.now.message.now c.args.self.now.number c.args.field c.in_ok-column.column c.as_slice.result.now c.ieee_reference-reference.result
      c.in_ok-column.ensures.column (c.as_slice.ensures.value ∙ c.in_ok-listed.ensures ∙ ap (λ m. list_line m c.args.self.now.number c.args.field) c.message.ensures) c.ieee_reference-reference.ensures.value)
      c.append_valued.ensures.octets;
  counted = search rules;
  unfinished = search rules;
}

pub append_valued-requires-clause-fits : goal.append_valued-requires-clause-fits
append_valued-requires-clause-fits g c =
    values_fit c.args.self.now.places c.args.self.now.message.now c.args.field c.in_ok-column.column c.ieee_reference-reference.result c.requires.first c.requires.last
    c.in_ok-column.ensures.column c.ieee_reference-reference.ensures.value c.args.self.now.fits
