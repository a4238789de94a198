use Rattle.std.proofs.Common.{◌≡◌, ◌||◌, false, ℕ, List, Option, sym, ap₂, subst}
use Rattle.std.proofs.lemmas.Bool.{false≢true}
use Rattle.grib_text.specs.declared.column.Column.{Column}
use Rattle.grib_run_spec.specs.Seen.{seen}
use Rattle.grib_run_spec.specs.Serving.{Serves, IfUnread}
use Rattle.grib_run_spec.specs.Tasks.{Work, by_profile, has_shelf, lines_work}
use Rattle.grib_engine.proofs.reading.serve_lines.Goals as goal

pub returns-in-Some-clause-serves : goal.returns-in-Some-clause-serves
returns-in-Some-clause-serves g c =
    let see = seen g.S.Source.left g.S.Source.faults g.T.Sink.contents g.T.Sink.faults g.T.Sink.settled g.N.Sink.contents g.N.Sink.faults g.N.Sink.settled g.H.Shelf.contents g.H.Shelf.faults in
    let before = see c.args.input.now c.args.output.now c.args.notes.now c.args.shelf.now in
    let now = see c.serve_lines_named.new.input c.serve_lines_named.new.output c.serve_lines_named.new.notes c.serve_lines_named.new.shelf in
    let same = ap₂ (λ (columns : List Column) (names : Option (List ℕ)). by_profile c.args.profile (lines_work c.args.form columns names)) c.as_slice-shown.ensures (sym c.in-Some.is) in
    subst (λ (work : Work). Serves (g.T.Sink.takes_memory || g.N.Sink.takes_memory) work c.args.policy c.serve_lines_named.result before now) same c.serve_lines_named.ensures.serves

pub returns-in-Some-clause-unread : goal.returns-in-Some-clause-unread
returns-in-Some-clause-unread g c =
    let same = ap₂ (λ (columns : List Column) (names : Option (List ℕ)). by_profile c.args.profile (lines_work c.args.form columns names)) c.as_slice-shown.ensures (sym c.in-Some.is) in
    subst (λ (work : Work). IfUnread work (g.H.Shelf.contents c.args.shelf.now) (c.serve_lines_named.new.input ≡ c.args.input.now)) same c.serve_lines_named.ensures.unread

pub returns-in-Some-clause-unused : goal.returns-in-Some-clause-unused
returns-in-Some-clause-unused g c =
    subst (λ (names : Option (List ℕ)). has_shelf (by_profile c.args.profile (lines_work c.args.form c.args.columns.now names)) ≡ false → c.serve_lines_named.new.shelf ≡ c.args.shelf.now) (sym c.in-Some.is)
    (λ off. absurd (false≢true (sym off)))

pub returns-in-None-clause-serves : goal.returns-in-None-clause-serves
returns-in-None-clause-serves g c =
    let see = seen g.S.Source.left g.S.Source.faults g.T.Sink.contents g.T.Sink.faults g.T.Sink.settled g.N.Sink.contents g.N.Sink.faults g.N.Sink.settled g.H.Shelf.contents g.H.Shelf.faults in
    let before = see c.args.input.now c.args.output.now c.args.notes.now c.args.shelf.now in
    let now = see c.serve_messages.new.input c.serve_messages.new.output c.serve_messages.new.notes c.serve_messages.new.shelf in
    let same = ap₂ (λ (columns : List Column) (names : Option (List ℕ)). by_profile c.args.profile (lines_work c.args.form columns names)) c.as_slice-shown.ensures (sym c.in-None.is) in
    subst (λ (work : Work). Serves (g.T.Sink.takes_memory || g.N.Sink.takes_memory) work c.args.policy c.serve_messages.result before now) same c.serve_messages.ensures.serves

pub returns-in-None-clause-unread : goal.returns-in-None-clause-unread
returns-in-None-clause-unread g c =
    subst (λ (names : Option (List ℕ)). IfUnread (by_profile c.args.profile (lines_work c.args.form c.args.columns.now names)) (g.H.Shelf.contents c.args.shelf.now) (c.serve_messages.new.input ≡ c.args.input.now))
    (sym c.in-None.is) tt

pub returns-in-None-clause-unused : goal.returns-in-None-clause-unused
returns-in-None-clause-unused g c =
    subst (λ (names : Option (List ℕ)). has_shelf (by_profile c.args.profile (lines_work c.args.form c.args.columns.now names)) ≡ false → c.serve_messages.new.shelf ≡ c.args.shelf.now) (sym c.in-None.is)
    c.serve_messages.ensures.unused
