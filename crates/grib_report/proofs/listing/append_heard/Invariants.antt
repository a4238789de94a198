use Rattle.std.proofs.Common.{◌≡◌, ◌++◌, ℕ, List, length}
use Rattle.grib_io.specs.Outside.{Unfinished}
use Rattle.grib2_sections.specs.Verdict.{Accepted}
use Rattle.grib_base.specs.declared.profile.Profile.{Profile}
use Rattle.grib2_message.specs.Acceptance.{verdict_under}
use Rattle.grib2_arrival.specs.Heard.{HeardUnder}
use Rattle.grib_text.specs.Lines.{list_line}
use Rattle.grib_command.specs.Pending.{AppendsAllBut}
use Rattle.grib_command.specs.Command.{texts_from}
use Rattle.grib_report.proofs.listing.append_heard.Given as goal

-- the lines of the fields so far were written but for the buffer, and no fault
abbrev pub invariant-loop-index : goal.invariant-loop-index
invariant-loop-index g l = record {
  appended : (profile : Profile) (octets : List ℕ) → HeardUnder profile l.arrival octets → verdict_under profile octets ≡ Accepted (length octets)
      → AppendsAllBut (g.T.Sink.contents l.fn.output) (g.T.Sink.contents l.output) (l.fn.lines.items ++ texts_from (list_line octets l.number) l.index 1) l.lines.items;
  faults_stay : g.T.Sink.faults l.output ≡ g.T.Sink.faults l.fn.output;
  unfinished : Unfinished (g.T.Sink.settled l.fn.output) (g.T.Sink.settled l.output);
}
