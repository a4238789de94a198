use Rattle.std.proofs.Common.{[], map, string_bytes, subst, ◌||◌, ◌∙◌}
use Rattle.grib_run_spec.specs.Seen.{seen}
use Rattle.grib_run_spec.specs.Serving.{Serves}
use Rattle.grib_run_spec.specs.Tasks.{Makes, writing}
use Rattle.grib_help.specs.Helping.{told_of_words}
use Rattle.grib_cli.proofs.running.tell_of.Goals as goal

pub returns-in-Ok : goal.returns-in-Ok
returns-in-Ok g c = λ policy.
    let see = seen g.S.Source.left g.S.Source.faults g.T.Sink.contents g.T.Sink.faults g.T.Sink.settled g.N.Sink.contents g.N.Sink.faults g.N.Sink.settled g.H.Shelf.contents g.H.Shelf.faults in
    let before = see c.args.input.now c.args.output.now c.args.notes.now c.args.shelf.now in
    let now = see c.args.input.now c.write_noted.new.output c.write_noted.new.notes c.args.shelf.now in
    subst (λ text. Serves (g.T.Sink.takes_memory || g.N.Sink.takes_memory) (Makes (writing text [])) policy c.write_noted.result before now)
    (c.as_bytes.ensures.value ∙ c.in-Ok.ensures) (c.write_noted.ensures before policy)

pub returns-in-Err : goal.returns-in-Err
returns-in-Err g c = λ policy. c.end_without_memory.ensures.serves (Makes (writing (told_of_words (map string_bytes c.args.words.now)) [])) policy
