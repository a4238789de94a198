use Rattle.std.proofs.Common.{Ok, Err, ◌||◌}
use Rattle.grib_dispatch.proofs.HeardMessages.{soon_heard}
use Rattle.grib_dispatch.specs.Hearing.{hears_by}
use Rattle.grib_command.specs.Command.{task, under}
use Rattle.grib_command.specs.Outcomes.{note_of}
use Rattle.grib_run_spec.specs.Seen.{seen}
use Rattle.grib_engine.proofs.Broken.{own_note}
use Rattle.grib_engine.proofs.Ended.{ended_with}
use Rattle.grib_engine.proofs.Messages.{messages_end, ended_done, soon_by}
use Rattle.grib_engine.proofs.reading.serve_messages.Goals as goal

pub returns-in-Ok-clause-serves : goal.returns-in-Ok-clause-serves
returns-in-Ok-clause-serves g c =
    let see = seen g.S.Source.left g.S.Source.faults g.T.Sink.contents g.T.Sink.faults g.T.Sink.settled g.N.Sink.contents g.N.Sink.faults g.N.Sink.settled g.H.Shelf.contents g.H.Shelf.faults in
    let command = under c.args.profile (g.C.Answerer.definition c.args.answerer.now) in
    let mid = see c.answer_items.new.input c.answer_items.new.output c.answer_items.new.notes c.answer_items.new.shelf in
    messages_end (g.T.Sink.takes_memory || g.N.Sink.takes_memory) command c.args.policy (Ok c.in-Ok.totals) c.close_at_end.result
    (see c.args.input.now c.args.output.now c.args.notes.now c.args.shelf.now) mid (see c.answer_items.new.input c.close_at_end.new.output c.close_at_end.new.notes c.answer_items.new.shelf)
    c.in-Ok.ensures.runs c.in-Ok.ensures.counts c.in-Ok.ensures.unfinished c.in-Ok.ensures.notes_unfinished c.in-Ok.ensures.unshelved tt
    (ended_done g.T.Sink.takes_memory g.N.Sink.takes_memory mid command.ending c.in-Ok.totals c.ending.ensures c.close_at_end.ensures.ends c.close_at_end.ensures.output_kept c.close_at_end.ensures.memory_noted)

pub returns-in-Err-clause-serves : goal.returns-in-Err-clause-serves
returns-in-Err-clause-serves g c =
    let see = seen g.S.Source.left g.S.Source.faults g.T.Sink.contents g.T.Sink.faults g.T.Sink.settled g.N.Sink.contents g.N.Sink.faults g.N.Sink.settled g.H.Shelf.contents g.H.Shelf.faults in
    let mid = see c.answer_items.new.input c.answer_items.new.output c.answer_items.new.notes c.answer_items.new.shelf in
    messages_end (g.T.Sink.takes_memory || g.N.Sink.takes_memory) (under c.args.profile (g.C.Answerer.definition c.args.answerer.now)) c.args.policy (Err c.in-Err.outcome) c.close_with_note.result
    (see c.args.input.now c.args.output.now c.args.notes.now c.args.shelf.now) mid (see c.answer_items.new.input c.close_with_note.new.output c.close_with_note.new.notes c.answer_items.new.shelf)
    c.in-Err.ensures.runs c.in-Err.ensures.counts c.in-Err.ensures.unfinished c.in-Err.ensures.notes_unfinished c.in-Err.ensures.unshelved c.in-Err.ensures.before_end
    (ended_with g.T.Sink.takes_memory g.N.Sink.takes_memory mid (note_of c.in-Err.outcome) (own_note c.in-Err.outcome) c.close_with_note.ensures.ends c.close_with_note.ensures.output_kept
    c.close_with_note.ensures.after_fault c.close_with_note.ensures.whole)

pub returns-in-Ok-clause-soon : goal.returns-in-Ok-clause-soon
returns-in-Ok-clause-soon g c = λ nothing hears.
    let command = under c.args.profile (g.C.Answerer.definition c.args.answerer.now) in
    soon_heard command.hears (task command) c.close_at_end.result _ _ hears
    (soon_by c.ending.result (hears_by command.hears) (task command) (Ok c.in-Ok.totals) c.close_at_end.result _ _ c.close_at_end.ensures.ends.one_of (c.in-Ok.ensures.soon nothing))

pub returns-in-Err-clause-soon : goal.returns-in-Err-clause-soon
returns-in-Err-clause-soon g c = λ nothing hears.
    let command = under c.args.profile (g.C.Answerer.definition c.args.answerer.now) in
    soon_heard command.hears (task command) c.close_with_note.result _ _ hears
    (soon_by command.ending (hears_by command.hears) (task command) (Err c.in-Err.outcome) c.close_with_note.result _ _ c.close_with_note.ensures.ends.one_of (c.in-Err.ensures.soon nothing))
