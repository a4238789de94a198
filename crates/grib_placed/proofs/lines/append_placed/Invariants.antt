use Rattle.std.proofs.Common.{◌≡◌, ◌++◌, List, ℕ, take}
use Rattle.grib_io.specs.Outside.{Unfinished}
use Rattle.grib_text.specs.Lines.{lines_by}
use Rattle.grib_command.specs.Pending.{AppendsAllBut}
use Rattle.grib_placed.specs.Lines.{placed_line}
use Rattle.grib_placed.specs.Texts.{ArePlacesOf, text_in}
use Rattle.grib_placed.proofs.lines.append_placed.Given as goal

-- the lines of the points so far were written but for the buffer, and no fault
abbrev pub invariant-loop-index : goal.invariant-loop-index
invariant-loop-index g l = record {
  appended : (s : List ℕ) → ArePlacesOf l.places s
      → AppendsAllBut (g.T.Sink.contents l.fn.output) (g.T.Sink.contents l.output)
      (l.fn.lines.items ++ lines_by (placed_line s (text_in l.form)) 1 (take l.index l.points)) l.lines.items;
  faults_stay : (s : List ℕ) → ArePlacesOf l.places s → g.T.Sink.faults l.output ≡ g.T.Sink.faults l.fn.output;
  unfinished : (s : List ℕ) → ArePlacesOf l.places s → Unfinished (g.T.Sink.settled l.fn.output) (g.T.Sink.settled l.output);
}
