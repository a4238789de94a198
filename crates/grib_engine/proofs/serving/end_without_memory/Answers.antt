use Rattle.std.proofs.Common.{refl}
use Rattle.grib_stream.specs.declared.outcome.Outcome.TheVariants.{Memory}
use Rattle.grib_command.specs.Outcomes.{note_of}
use Rattle.grib_run_spec.specs.Seen.{seen}
use Rattle.grib_engine.proofs.Ended.{served}
use Rattle.grib_engine.proofs.Unread.{without_memory}
use Rattle.grib_engine.proofs.serving.end_without_memory.Goals as goal

pub returns-clause-serves : goal.returns-clause-serves
returns-clause-serves g c = λ work policy.
    let before = seen g.S.Source.left g.S.Source.faults g.T.Sink.contents g.T.Sink.faults g.T.Sink.settled g.N.Sink.contents g.N.Sink.faults g.N.Sink.settled g.H.Shelf.contents g.H.Shelf.faults
    c.args.input.now c.args.output.now c.args.notes.now c.args.shelf.now in
    let closed = c.close_with_note.ensures in
    served g.T.Sink.takes_memory g.N.Sink.takes_memory before before work policy (note_of Memory) refl closed.ends closed.output_kept closed.after_fault closed.whole (without_memory work policy before)
