use Rattle.std.proofs.Common.{◌∙◌, rules, subst}
use Rattle.grib_command.specs.Pending.{Writes}
use Rattle.grib_command.proofs.Outside.{front_none}
use Rattle.grib_report.proofs.Pending.{sums_are_1}
use Rattle.grib_report.proofs.summing.SummingValuePrinter.write_first.Goals as goal

pub returns-in_err-summary : goal.returns-in_err-summary
returns-in_err-summary g c = record {
  octets = record { whole = search rules; front = front_none _ _ };
  counted = search rules;
  unfinished = search rules;
}

pub returns-in_err-text : goal.returns-in_err-text
returns-in_err-text g c = record {
  octets = record { whole = search rules; front = front_none _ _ };
  counted = search rules;
  unfinished = search rules;
}

pub returns : goal.returns
returns g c =
    let scaling = c.message_scaling1-scaling in
    record {
      octets =
          subst (Writes c.write_whole.result (g.T.Sink.contents c.args.output.now) (g.T.Sink.contents c.write_whole.new.sink))
          (c.as_slice.ensures.value ∙ c.in_ok-text.ensures
          ∙ sums_are_1 c.args.message.now c.args.number c.in_ok-summary.summary c.from_ibm-reference.result scaling.result.reference scaling.result.e scaling.result.d
          c.in_ok-summary.ensures c.from_ibm-reference.ensures.value scaling.ensures.reference scaling.ensures.e scaling.ensures.d)
          c.write_whole.ensures.writes.octets;
      counted = search rules;
      unfinished = search rules;
    }
