use Rattle.std.proofs.Common.{subst, [], refl, rules}
use Rattle.std.proofs.KnownBytes.{Appends-nil}
use Rattle.grib_io.specs.Outside.{CountsStops}
use Rattle.grib_report.proofs.Pending.{pending_written, from_empty}
use Rattle.grib_command.proofs.Passing.{on_refused}
use Rattle.grib_report.proofs.listing.ListingPrinter.write_heard.Goals as goal

pub returns-in_err-lines : goal.returns-in_err-lines
returns-in_err-lines g c =
    λ hears profile octets heard whole. record {
      octets = record {
        whole = on_refused c.from_residual.result _ c.from_residual.ensures.0;
        front = ([], _, refl, Appends-nil (g.T.Sink.contents c.args.output.now));
      };
      counted = search rules;
      unfinished = search rules;
    }

pub returns : goal.returns
returns g c =
    λ hears profile octets heard whole.
    let done = c.in_ok-append_heard.ensures profile octets heard whole in
    record {
      octets =
          pending_written c.write_whole.result _ _ _ _ _ c.as_slice.result.now
          (from_empty _ _ c.in_ok-lines.lines.items _ _ c.in_ok-lines.ensures.items done.octets.whole) c.as_slice.ensures.value
          c.write_whole.ensures.writes.octets;
      counted = subst (λ n. CountsStops c.write_whole.result n (g.T.Sink.faults c.write_whole.new.sink)) done.counted c.write_whole.ensures.writes.counted;
      unfinished = λ all. done.unfinished (c.write_whole.ensures.writes.unfinished all);
    }
