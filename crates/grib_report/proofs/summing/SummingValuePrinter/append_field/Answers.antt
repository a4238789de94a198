use Rattle.std.proofs.Common.{◌++◌, ◌∙◌, rules, subst}
use Rattle.grib_command.specs.Pending.{WritesAllBut}
use Rattle.grib_report.proofs.Finite.{finite_reference}
use Rattle.grib_command.proofs.Outside.{front_none}
use Rattle.grib_report.proofs.Pending.{sums_are}
use Rattle.grib_report.proofs.summing.SummingValuePrinter.append_field.Goals as goal

pub returns-in_err-summary : goal.returns-in_err-summary
returns-in_err-summary g c = record {
  octets = record { whole = search rules; front = front_none _ _ };
  counted = search rules;
  unfinished = search rules;
}

pub ieee_reference-reference-requires : goal.ieee_reference-reference-requires
ieee_reference-reference-requires g c = record {
  finite = finite_reference c.args.message.now c.args.field c.field_scaling-scaling.result.reference c.field_scaling-scaling.ensures.passes c.field_scaling-scaling.ensures.reference;
}

pub returns-in_err-text : goal.returns-in_err-text
returns-in_err-text g c = record {
  octets = record { whole = search rules; front = front_none _ _ };
  counted = search rules;
  unfinished = search rules;
}

pub returns : goal.returns
returns g c =
    let scaling = c.field_scaling-scaling in
    record {
      octets =
          subst
          (λ text. WritesAllBut c.append_text.result (g.T.Sink.contents c.args.output.now) (g.T.Sink.contents c.append_text.new.output) (c.args.lines.now.items ++ text)
          c.append_text.new.lines.items)
          (c.as_slice.ensures.value ∙ c.in_ok-text.ensures
          ∙ sums_are c.args.message.now c.args.number c.args.field c.in_ok-summary.summary c.ieee_reference-reference.result scaling.result.reference scaling.result.e scaling.result.d
          c.in_ok-summary.ensures c.ieee_reference-reference.ensures.value scaling.ensures.reference scaling.ensures.e scaling.ensures.d)
          c.append_text.ensures.octets;
      counted = search rules;
      unfinished = search rules;
    }
