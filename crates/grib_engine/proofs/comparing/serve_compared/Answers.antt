use Rattle.std.proofs.Common.{◌≡◌, ◌||◌, List, Err, refl, ap, subst}
use Rattle.grib_command.specs.Command.{Command, under}
use Rattle.grib_command.specs.Outcomes.{note_of}
use Rattle.grib_compare.specs.Command.{compare_command}
use Rattle.grib_file.specs.Filed.{FieldOf, Good}
use Rattle.grib_file.specs.Read as reads
use Rattle.grib_run_spec.specs.Seen.{seen}
use Rattle.grib_run_spec.specs.Tasks.{ReadsFile}
use Rattle.grib_engine.proofs.Broken.{own_note}
use Rattle.grib_engine.proofs.Ended.{served}
use Rattle.grib_engine.proofs.Unfiled.{unfiled, by_file, file_alone, file_open}
use Rattle.grib_engine.proofs.comparing.serve_compared.Goals as goal

pub returns-in-Ok-clause-serves : goal.returns-in-Ok-clause-serves
returns-in-Ok-clause-serves g c =
    let see = seen g.S.Source.left g.S.Source.faults g.T.Sink.contents g.T.Sink.faults g.T.Sink.settled g.N.Sink.contents g.N.Sink.faults g.N.Sink.settled g.H.Shelf.contents g.H.Shelf.faults in
    let now = see c.serve_messages.new.input c.serve_messages.new.output c.serve_messages.new.notes c.serve_messages.new.shelf in
    by_file (g.T.Sink.takes_memory || g.N.Sink.takes_memory) c.args.profile c.args.name.now (λ fields. under c.args.profile (compare_command c.args.sections c.args.quiet fields)) c.args.policy c.serve_messages.result
    (see c.args.input.now c.args.output.now c.args.notes.now c.args.shelf.now) now (g.H.Shelf.contents c.read_file.new.shelf) c.in-Ok.ensures.kept
    c.in-Ok.file.fields (g.H.Shelf.faults c.read_file.new.shelf) (subst (λ name. reads.StandsAs c.args.profile (g.H.Shelf.contents c.args.shelf.now) name (Good c.in-Ok.file.fields)) c.as_str.ensures c.in-Ok.ensures.read.1) c.in-Ok.ensures.counted
    (ap g.H.Shelf.contents (c.serve_messages.ensures.unused refl)) c.serve_messages.ensures.serves

pub returns-in-Ok-clause-unread : goal.returns-in-Ok-clause-unread
returns-in-Ok-clause-unread g c =
    file_open c.args.profile c.args.name.now (λ fields. under c.args.profile (compare_command c.args.sections c.args.quiet fields)) (g.H.Shelf.contents c.args.shelf.now)
    (c.serve_messages.new.input ≡ c.args.input.now) c.in-Ok.file.fields (subst (λ name. reads.StandsAs c.args.profile (g.H.Shelf.contents c.args.shelf.now) name (Good c.in-Ok.file.fields)) c.as_str.ensures c.in-Ok.ensures.read.1)

pub returns-in-Err-clause-serves : goal.returns-in-Err-clause-serves
returns-in-Err-clause-serves g c =
    let see = seen g.S.Source.left g.S.Source.faults g.T.Sink.contents g.T.Sink.faults g.T.Sink.settled g.N.Sink.contents g.N.Sink.faults g.N.Sink.settled g.H.Shelf.contents g.H.Shelf.faults c.args.input.now c.args.output.now c.args.notes.now in
    let before = see c.args.shelf.now in
    let mid = see c.read_file.new.shelf in
    let own = c.unfiled.result in
    let commands : List FieldOf → Command = λ fields. under c.args.profile (compare_command c.args.sections c.args.quiet fields) in
    let closed = c.close_with_note.ensures in
    served g.T.Sink.takes_memory g.N.Sink.takes_memory before mid (ReadsFile c.args.profile c.args.name.now commands) c.args.policy (note_of own) (own_note own)
    closed.ends closed.output_kept closed.after_fault closed.whole
    (unfiled c.args.policy before mid.names mid.shelf_faults c.in-Err.ensures.kept c.args.profile c.args.name.now commands c.in-Err.stop own c.unfiled.ensures (subst (λ name. reads.ReadsFile (Err c.in-Err.stop) c.args.profile (g.H.Shelf.contents c.args.shelf.now) name) c.as_str.ensures c.in-Err.ensures.read) c.in-Err.ensures.counted)

pub returns-in-Err-clause-unread : goal.returns-in-Err-clause-unread
returns-in-Err-clause-unread g c =
    file_alone c.args.profile c.args.name.now (λ fields. under c.args.profile (compare_command c.args.sections c.args.quiet fields)) (g.H.Shelf.contents c.args.shelf.now) (c.args.input.now ≡ c.args.input.now) refl
