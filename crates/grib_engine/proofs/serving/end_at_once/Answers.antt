use Rattle.grib_command.specs.Outcomes.{note_of}
use Rattle.grib_run_spec.specs.Seen.{seen}
use Rattle.grib_run_spec.specs.Tasks.{Makes, ends_at_once}
use Rattle.grib_engine.proofs.Broken.{own_note}
use Rattle.grib_engine.proofs.Ended.{served}
use Rattle.grib_engine.proofs.Unread.{ended_at_once}
use Rattle.grib_engine.proofs.serving.end_at_once.Goals as goal

pub returns : goal.returns
returns g c =
    let before = seen g.S.Source.left g.S.Source.faults g.T.Sink.contents g.T.Sink.faults g.T.Sink.settled g.N.Sink.contents g.N.Sink.faults g.N.Sink.settled g.H.Shelf.contents g.H.Shelf.faults
    c.args.input.now c.args.output.now c.args.notes.now c.args.shelf.now in
    let closed = c.close_with_note.ensures in
    record {
      serves = λ policy.
          served g.T.Sink.takes_memory g.N.Sink.takes_memory before before (Makes (ends_at_once c.args.outcome)) policy (note_of c.args.outcome) (own_note c.args.outcome)
          closed.ends closed.output_kept closed.after_fault closed.whole (ended_at_once c.args.outcome policy before c.requires);
    }
