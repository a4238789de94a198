use Rattle.std.proofs.Common.{◌≡◌, ◌||◌, refl, ap}
use Rattle.grib_command.specs.Command.{Command, under}
use Rattle.grib_command.specs.Outcomes.{note_of}
use Rattle.grib_run_spec.specs.Seen.{seen}
use Rattle.grib_run_spec.specs.Tasks.{ReadsTables, by_names, lining}
use Rattle.grib_table.specs.declared.together.Tables.{Tables}
use Rattle.grib_engine.proofs.Broken.{own_note}
use Rattle.grib_engine.proofs.Ended.{served}
use Rattle.grib_engine.proofs.Unread.{untabled, by_tables, left_alone, left_open}
use Rattle.grib_engine.proofs.reading.serve_lines_named.Goals as goal

pub returns-in-Ok-clause-serves : goal.returns-in-Ok-clause-serves
returns-in-Ok-clause-serves g c =
    let see = seen g.S.Source.left g.S.Source.faults g.T.Sink.contents g.T.Sink.faults g.T.Sink.settled g.N.Sink.contents g.N.Sink.faults g.N.Sink.settled g.H.Shelf.contents g.H.Shelf.faults in
    let now = see c.serve_lines_by.new.input c.serve_lines_by.new.output c.serve_lines_by.new.notes c.serve_lines_by.new.shelf in
    by_tables (g.T.Sink.takes_memory || g.N.Sink.takes_memory) (by_names c.args.names.now) (λ tables. under c.args.profile (lining c.args.form c.args.columns.now tables)) c.args.policy c.serve_lines_by.result
    (see c.args.input.now c.args.output.now c.args.notes.now c.args.shelf.now) now (g.H.Shelf.contents c.names_named.new.shelf) c.in-Ok.ensures.kept
    c.in-Ok.tables (g.H.Shelf.faults c.names_named.new.shelf) c.in-Ok.ensures.read c.in-Ok.ensures.counted
    (ap g.H.Shelf.contents c.serve_lines_by.ensures.unused) c.serve_lines_by.ensures.serves

pub returns-in-Ok-clause-unread : goal.returns-in-Ok-clause-unread
returns-in-Ok-clause-unread g c =
    left_open (by_names c.args.names.now) (λ tables. under c.args.profile (lining c.args.form c.args.columns.now tables)) (g.H.Shelf.contents c.args.shelf.now) (c.serve_lines_by.new.input ≡ c.args.input.now) c.in-Ok.tables c.in-Ok.ensures.read

pub returns-in-Err-clause-serves : goal.returns-in-Err-clause-serves
returns-in-Err-clause-serves g c =
    let see = seen g.S.Source.left g.S.Source.faults g.T.Sink.contents g.T.Sink.faults g.T.Sink.settled g.N.Sink.contents g.N.Sink.faults g.N.Sink.settled g.H.Shelf.contents g.H.Shelf.faults c.args.input.now c.args.output.now c.args.notes.now in
    let before = see c.args.shelf.now in
    let mid = see c.names_named.new.shelf in
    let own = c.untabled.result in
    let commands : Tables → Command = λ tables. under c.args.profile (lining c.args.form c.args.columns.now tables) in
    let closed = c.close_with_note.ensures in
    served g.T.Sink.takes_memory g.N.Sink.takes_memory before mid (ReadsTables (by_names c.args.names.now) commands) c.args.policy (note_of own) (own_note own)
    closed.ends closed.output_kept closed.after_fault closed.whole
    (untabled c.args.policy before mid.names mid.shelf_faults c.in-Err.ensures.kept (by_names c.args.names.now) commands c.in-Err.stop own c.untabled.ensures c.in-Err.ensures.read c.in-Err.ensures.counted)

pub returns-in-Err-clause-unread : goal.returns-in-Err-clause-unread
returns-in-Err-clause-unread g c =
    left_alone (by_names c.args.names.now) (λ tables. under c.args.profile (lining c.args.form c.args.columns.now tables)) (g.H.Shelf.contents c.args.shelf.now) (c.args.input.now ≡ c.args.input.now) refl
