use Rattle.std.proofs.Common.{◌∙◌, ◌++◌, ap, subst, [], refl}
use Rattle.std.proofs.KnownBytes.{Appends-nil}
use Rattle.grib_text.specs.Lines.{summary_line}
use Rattle.grib_command.specs.Pending.{WritesToAllBut}
use Rattle.grib_io.specs.declared.outside.Stop.TheVariants.{Memory}
use Rattle.grib_command.proofs.Passing.{on_refused, counts_passed}
use Rattle.grib_report.proofs.listing.append_field.Goals as goal

pub returns-in_err-line : goal.returns-in_err-line
returns-in_err-line g c =
    λ profile octets heard whole few. record {
      octets = record {
        whole = on_refused c.from_residual.result _ c.from_residual.ensures.0;
        front = ([], _, refl, Appends-nil (g.T.Sink.contents c.args.output.now));
      };
      counted = counts_passed c.from_residual.result Memory (g.T.Sink.faults c.args.output.now) (g.T.Sink.faults c.args.output.now) c.from_residual.ensures.1 refl;
      unfinished = λ all. all;
    }

pub returns : goal.returns
returns g c =
    λ profile octets heard whole few.
    subst (λ text. WritesToAllBut g.T.Sink.contents g.T.Sink.faults g.T.Sink.settled c.append_text.result c.args.output.now c.append_text.new.output (c.args.lines.now.items ++ text) c.append_text.new.lines.items)
    (c.as_slice.ensures.value ∙ (c.in_ok-line.ensures ∙ ap (λ s. summary_line s c.args.number c.args.field) (c.summary-summary.ensures profile octets heard whole few)))
    c.append_text.ensures
