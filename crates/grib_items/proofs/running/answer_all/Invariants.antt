use Rattle.std.proofs.Common.{◌≡◌, ◌+◌, ◌*◌, false, length}
use Rattle.grib_io.specs.Outside.{Unfinished}
use Rattle.grib_stream.specs.Acts.{world}
use Rattle.grib_stream.specs.Rest.{Stands}
use Rattle.grib_items.specs.Deeds.{outside}
use Rattle.grib_items.specs.Laws.{nothing}
use Rattle.grib_items.specs.Reading.{goes_on, advances_left}
use Rattle.grib_items.specs.Steps.{plan_of}
use Rattle.grib_items.proofs.Exits.{Going}
use Rattle.grib_items.proofs.Promptly.{Short}
use Rattle.grib_items.proofs.running.answer_all.Given as goal

abbrev pub invariant-items : goal.invariant-items
invariant-items g l =
    let left = g.S.Source.left in
    let held = g.T.Sink.contents in
    let noted = g.N.Sink.contents in
    let names = g.H.Shelf.contents in
    record {
      going : Going (plan_of (g.K.Performer.task l.performer) (g.K.Performer.texts l.performer) l.policy) l.limit l.left (goes_on l.rest) (left l.fn.input) (left l.input) (outside (world (held l.fn.output) (names l.fn.shelf)) (noted l.fn.notes)) (outside (world (held l.output) (names l.shelf)) (noted l.notes)) l.totals l.place l.window.octets;
      short : l.policy ≡ nothing → Short (g.K.Performer.hears l.performer) (g.K.Performer.task l.performer).judge l.window.octets;
      stands : Stands l.rest 0 0 l.left (left l.input);
      read_calm : g.S.Source.faults l.input ≡ g.S.Source.faults l.fn.input;
      output_calm : g.T.Sink.faults l.output ≡ g.T.Sink.faults l.fn.output;
      notes_calm : g.N.Sink.faults l.notes ≡ g.N.Sink.faults l.fn.notes;
      unfinished : Unfinished (g.T.Sink.settled l.fn.output) (g.T.Sink.settled l.output);
      notes_unfinished : Unfinished (g.N.Sink.settled l.fn.notes) (g.N.Sink.settled l.notes);
      shelf_calm : g.H.Shelf.faults l.shelf ≡ g.H.Shelf.faults l.fn.shelf;
      shelf : g.K.Performer.uses_shelf l.performer ≡ false → l.shelf ≡ l.fn.shelf;
    }

-- twice what may still be taken, and what was not answered yet
abbrev pub decreases-items : goal.decreases-items
decreases-items g l = 2 * l.left + length l.window.octets + advances_left l.rest
