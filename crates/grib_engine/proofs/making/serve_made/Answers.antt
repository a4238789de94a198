use Rattle.std.proofs.Common.{ℕ, List, ◌||◌, ◌∙◌, refl, subst}
use Rattle.grib_stream.specs.declared.outcome.Outcome.TheVariants.{Memory}
use Rattle.grib_command.specs.Outcomes.{note_of}
use Rattle.grib_run_spec.specs.Serving.{Serves}
use Rattle.grib_run_spec.specs.Tasks.{Makes, writing, made_answer}
use Rattle.grib_packing.specs.Targets.{target_of}
use Rattle.grib_repack.specs.Repacked.{repacked}
use Rattle.grib_synthetic.specs.Made.{made}
use Rattle.grib_engine.specs.Beside.{beside}
use Rattle.grib_engine.proofs.Ended.{served}
use Rattle.grib_engine.proofs.Unread.{without_memory}
use Rattle.grib_engine.proofs.making.serve_made.Goals as goal

pub returns-in-Ok : goal.returns-in-Ok
returns-in-Ok g c = λ rest policy.
    let see = beside rest g.T.Sink.contents g.T.Sink.faults g.T.Sink.settled g.N.Sink.contents g.N.Sink.faults g.N.Sink.settled in
    let Its = λ (octets note : List ℕ). Serves (g.T.Sink.takes_memory || g.N.Sink.takes_memory) (Makes (writing octets note)) policy c.write_noted.result (see c.args.output.now c.args.notes.now) (see c.write_noted.new.output c.write_noted.new.notes) in
    subst (Its (repacked (target_of c.args.target) (made c.args.seed c.args.ni c.args.nj))) (c.as_slice-in-Ok.ensures.value ∙ c.in-Ok.ensures.note)
    (subst (λ octets. Its octets c.as_slice-in-Ok.result.now) (c.as_slice.ensures.value ∙ c.in-Ok.ensures.octets) (c.write_noted.ensures rest policy))

pub returns-in-Err : goal.returns-in-Err
returns-in-Err g c = λ rest policy.
    let before = beside rest g.T.Sink.contents g.T.Sink.faults g.T.Sink.settled g.N.Sink.contents g.N.Sink.faults g.N.Sink.settled c.args.output.now c.args.notes.now in
    let work = Makes (made_answer c.args.seed c.args.ni c.args.nj c.args.target) in
    let closed = c.close_with_note.ensures in
    served g.T.Sink.takes_memory g.N.Sink.takes_memory before rest work policy (note_of Memory) refl closed.ends closed.output_kept closed.after_fault closed.whole (without_memory work policy before)
