use Rattle.std.proofs.Common.{◌∙◌, ap, subst, length, [], refl, rules}
use Rattle.std.proofs.KnownBytes.{Appends-nil}
use Rattle.grib_text.specs.Lines.{check_line}
use Rattle.grib_command.specs.Pending.{WritesTo}
use Rattle.grib_command.proofs.Passing.{on_refused}
use Rattle.grib_report.proofs.checking.write_heard.Goals as goal

pub returns-in_err-line : goal.returns-in_err-line
returns-in_err-line g c =
    λ profile octets heard whole. record {
      octets = record {
        whole = on_refused c.from_residual.result _ c.from_residual.ensures.0;
        front = ([], _, refl, Appends-nil (g.T.Sink.contents c.args.output.now));
      };
      counted = search rules;
      unfinished = search rules;
    }

pub returns : goal.returns
returns g c =
    let m = c.args.place.now.message in
    let before = c.args.place.now.before in
    λ profile octets heard whole.
    subst (WritesTo g.T.Sink.contents g.T.Sink.faults g.T.Sink.settled c.write_whole.result c.args.output.now c.write_whole.new.sink)
    (c.as_slice.ensures.value
    ∙ (c.in_ok-line.ensures
    ∙ (ap (λ n. check_line m before 2 n c.fields-fields.result) (c.octets-total.ensures.count profile octets heard)
    ∙ ap (λ n. check_line m before 2 (length octets) n) (c.fields-fields.ensures profile octets heard whole))))
    c.write_whole.ensures.writes
