use Rattle.std.proofs.Common.{◌≡◌, ◌||◌, ℕ, List, refl, ap, ap₂, subst}
use Rattle.grib_keys.specs.declared.wanted.Wanted.{Wanted}
use Rattle.grib_command.specs.Command.{Command, under}
use Rattle.grib_command.specs.Outcomes.{note_of}
use Rattle.grib_run_spec.specs.Seen.{seen}
use Rattle.grib_run_spec.specs.Serving.{Serves}
use Rattle.grib_run_spec.specs.Tasks.{Work, Reads, ReadsTables, by_names, filtering_named}
use Rattle.grib_table.specs.declared.together.Tables.{Tables}
use Rattle.grib_engine.proofs.Broken.{own_note}
use Rattle.grib_engine.proofs.Ended.{served}
use Rattle.grib_engine.proofs.Unread.{untabled, by_tables, left_alone, left_open}
use Rattle.grib_engine.proofs.reading.serve_filtered_named.Goals as goal

pub returns-in-Ok-clause-serves : goal.returns-in-Ok-clause-serves
returns-in-Ok-clause-serves g c =
    let takes = g.T.Sink.takes_memory || g.N.Sink.takes_memory in
    let see = seen g.S.Source.left g.S.Source.faults g.T.Sink.contents g.T.Sink.faults g.T.Sink.settled g.N.Sink.contents g.N.Sink.faults g.N.Sink.settled g.H.Shelf.contents g.H.Shelf.faults in
    let before = see c.args.input.now c.args.output.now c.args.notes.now c.args.shelf.now in
    let mid = see c.args.input.now c.args.output.now c.args.notes.now c.names_named.new.shelf in
    let now = see c.serve_messages.new.input c.serve_messages.new.output c.serve_messages.new.notes c.serve_messages.new.shelf in
    let same = ap₂ (λ (conditions : List Wanted) (wanted : List (List ℕ)). Reads (under c.args.profile (filtering_named conditions wanted c.in-Ok.tables))) c.as_slice-asked.ensures c.as_slice-given.ensures in
    by_tables takes (by_names c.args.names.now) (λ tables. under c.args.profile (filtering_named c.args.conditions.now c.args.wanted.now tables)) c.args.policy c.serve_messages.result
    before now (g.H.Shelf.contents c.names_named.new.shelf) c.in-Ok.ensures.kept c.in-Ok.tables (g.H.Shelf.faults c.names_named.new.shelf) c.in-Ok.ensures.read c.in-Ok.ensures.counted
    (ap g.H.Shelf.contents (c.serve_messages.ensures.unused refl))
    (subst (λ (work : Work). Serves takes work c.args.policy c.serve_messages.result mid now) same c.serve_messages.ensures.serves)

pub returns-in-Ok-clause-unread : goal.returns-in-Ok-clause-unread
returns-in-Ok-clause-unread g c =
    left_open (by_names c.args.names.now) (λ tables. under c.args.profile (filtering_named c.args.conditions.now c.args.wanted.now tables)) (g.H.Shelf.contents c.args.shelf.now) (c.serve_messages.new.input ≡ c.args.input.now) c.in-Ok.tables c.in-Ok.ensures.read

pub returns-in-Err-clause-serves : goal.returns-in-Err-clause-serves
returns-in-Err-clause-serves g c =
    let see = seen g.S.Source.left g.S.Source.faults g.T.Sink.contents g.T.Sink.faults g.T.Sink.settled g.N.Sink.contents g.N.Sink.faults g.N.Sink.settled g.H.Shelf.contents g.H.Shelf.faults c.args.input.now c.args.output.now c.args.notes.now in
    let before = see c.args.shelf.now in
    let mid = see c.names_named.new.shelf in
    let own = c.untabled.result in
    let commands : Tables → Command = λ tables. under c.args.profile (filtering_named c.args.conditions.now c.args.wanted.now tables) in
    let closed = c.close_with_note.ensures in
    served g.T.Sink.takes_memory g.N.Sink.takes_memory before mid (ReadsTables (by_names c.args.names.now) commands) c.args.policy (note_of own) (own_note own)
    closed.ends closed.output_kept closed.after_fault closed.whole
    (untabled c.args.policy before mid.names mid.shelf_faults c.in-Err.ensures.kept (by_names c.args.names.now) commands c.in-Err.stop own c.untabled.ensures c.in-Err.ensures.read c.in-Err.ensures.counted)

pub returns-in-Err-clause-unread : goal.returns-in-Err-clause-unread
returns-in-Err-clause-unread g c =
    left_alone (by_names c.args.names.now) (λ tables. under c.args.profile (filtering_named c.args.conditions.now c.args.wanted.now tables)) (g.H.Shelf.contents c.args.shelf.now) (c.args.input.now ≡ c.args.input.now) refl
