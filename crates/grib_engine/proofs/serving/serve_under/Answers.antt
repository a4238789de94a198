use Rattle.std.proofs.Common.{rules, ◌≡◌, ◌||◌, false, [], sym, subst}
use Rattle.grib_command.specs.declared.ending.Ending.TheVariants.{Silent, Total}
use Rattle.grib_command.specs.Pages.{text_of}
use Rattle.grib_report.specs.Checking.{line_of, line_2}
use Rattle.grib_dispatch.specs.Hearing.{RefusesInTime}
use Rattle.grib_dispatch.proofs.HeardMessages.{in_time}
use Rattle.grib_run_spec.specs.Seen.{seen}
use Rattle.grib_run_spec.specs.Serving.{Serves, IfUnread}
use Rattle.grib_run_spec.specs.Tasks.{Makes, IfHears, has_shelf, work_under, writing}
use Rattle.grib_engine.proofs.Unread.{lines_unheard, dump_unheard, dump_reads}
use Rattle.grib_engine.proofs.serving.serve_under.Goals as goal

pub returns-in-Check-clause-soon : goal.returns-in-Check-clause-soon
returns-in-Check-clause-soon g c = λ nothing.
    subst (λ job. IfHears job (RefusesInTime c.args.profile c.serve_messages.result (g.S.Source.left c.args.input.now) (g.S.Source.left c.serve_messages.new.input))) (sym c.in-Check.is)
    (λ hears. in_time c.args.profile (line_of 1 1) line_2 Total c.serve_messages.result _ _ (c.serve_messages.ensures.soon nothing hears))

pub returns-in-List-clause-soon : goal.returns-in-List-clause-soon
returns-in-List-clause-soon g c = λ nothing.
    subst (λ job. IfHears job (RefusesInTime c.args.profile c.serve_messages-in-List.result (g.S.Source.left c.args.input.now) (g.S.Source.left c.serve_messages-in-List.new.input))) (sym c.in-List.is)
    (λ hears. in_time c.args.profile _ _ Silent c.serve_messages-in-List.result _ _ (c.serve_messages-in-List.ensures.soon nothing hears))

pub returns-in-Make-clause-serves : goal.returns-in-Make-clause-serves
returns-in-Make-clause-serves g c =
    let see = seen g.S.Source.left g.S.Source.faults g.T.Sink.contents g.T.Sink.faults g.T.Sink.settled g.N.Sink.contents g.N.Sink.faults g.N.Sink.settled g.H.Shelf.contents g.H.Shelf.faults in
    let before = see c.args.input.now c.args.output.now c.args.notes.now c.args.shelf.now in
    subst (λ job. Serves (g.T.Sink.takes_memory || g.N.Sink.takes_memory) (work_under c.args.profile job) c.args.policy c.serve_made.result before (see c.args.input.now c.serve_made.new.output c.serve_made.new.notes c.args.shelf.now)) (sym c.in-Make.is)
    (c.serve_made.ensures before c.args.policy)

pub returns-in-Print-clause-serves : goal.returns-in-Print-clause-serves
returns-in-Print-clause-serves g c =
    let see = seen g.S.Source.left g.S.Source.faults g.T.Sink.contents g.T.Sink.faults g.T.Sink.settled g.N.Sink.contents g.N.Sink.faults g.N.Sink.settled g.H.Shelf.contents g.H.Shelf.faults in
    let before = see c.args.input.now c.args.output.now c.args.notes.now c.args.shelf.now in
    let now = see c.args.input.now c.write_noted.new.output c.write_noted.new.notes c.args.shelf.now in
    let text : c.as_bytes.result.now ≡ text_of c.in-Print.page = search rules in
    subst (λ job. Serves (g.T.Sink.takes_memory || g.N.Sink.takes_memory) (work_under c.args.profile job) c.args.policy c.write_noted.result before now) (sym c.in-Print.is)
    (subst (λ octets. Serves (g.T.Sink.takes_memory || g.N.Sink.takes_memory) (Makes (writing octets [])) c.args.policy c.write_noted.result before now) text (c.write_noted.ensures before c.args.policy))

pub returns-in-Compare-clause-serves : goal.returns-in-Compare-clause-serves
returns-in-Compare-clause-serves g c =
    let see = seen g.S.Source.left g.S.Source.faults g.T.Sink.contents g.T.Sink.faults g.T.Sink.settled g.N.Sink.contents g.N.Sink.faults g.N.Sink.settled g.H.Shelf.contents g.H.Shelf.faults in
    let before = see c.args.input.now c.args.output.now c.args.notes.now c.args.shelf.now in
    let now = see c.serve_compared.new.input c.serve_compared.new.output c.serve_compared.new.notes c.serve_compared.new.shelf in
    subst (λ job. Serves (g.T.Sink.takes_memory || g.N.Sink.takes_memory) (work_under c.args.profile job) c.args.policy c.serve_compared.result before now) (sym c.in-Compare.is) c.serve_compared.ensures.serves

pub returns-in-Migrate-clause-serves : goal.returns-in-Migrate-clause-serves
returns-in-Migrate-clause-serves g c =
    let see = seen g.S.Source.left g.S.Source.faults g.T.Sink.contents g.T.Sink.faults g.T.Sink.settled g.N.Sink.contents g.N.Sink.faults g.N.Sink.settled g.H.Shelf.contents g.H.Shelf.faults in
    let before = see c.args.input.now c.args.output.now c.args.notes.now c.args.shelf.now in
    let now = see c.serve_migrated.new.input c.serve_migrated.new.output c.serve_migrated.new.notes c.serve_migrated.new.shelf in
    subst (λ job. Serves (g.T.Sink.takes_memory || g.N.Sink.takes_memory) (work_under c.args.profile job) c.args.policy c.serve_migrated.result before now) (sym c.in-Migrate.is) c.serve_migrated.ensures.serves

pub returns-in-Demote-clause-serves : goal.returns-in-Demote-clause-serves
returns-in-Demote-clause-serves g c =
    let see = seen g.S.Source.left g.S.Source.faults g.T.Sink.contents g.T.Sink.faults g.T.Sink.settled g.N.Sink.contents g.N.Sink.faults g.N.Sink.settled g.H.Shelf.contents g.H.Shelf.faults in
    let before = see c.args.input.now c.args.output.now c.args.notes.now c.args.shelf.now in
    let now = see c.serve_demoted.new.input c.serve_demoted.new.output c.serve_demoted.new.notes c.serve_demoted.new.shelf in
    subst (λ job. Serves (g.T.Sink.takes_memory || g.N.Sink.takes_memory) (work_under c.args.profile job) c.args.policy c.serve_demoted.result before now) (sym c.in-Demote.is) c.serve_demoted.ensures.serves

pub returns-in-Lines-clause-serves : goal.returns-in-Lines-clause-serves
returns-in-Lines-clause-serves g c =
    let see = seen g.S.Source.left g.S.Source.faults g.T.Sink.contents g.T.Sink.faults g.T.Sink.settled g.N.Sink.contents g.N.Sink.faults g.N.Sink.settled g.H.Shelf.contents g.H.Shelf.faults in
    let before = see c.args.input.now c.args.output.now c.args.notes.now c.args.shelf.now in
    let now = see c.serve_lines.new.input c.serve_lines.new.output c.serve_lines.new.notes c.serve_lines.new.shelf in
    subst (λ job. Serves (g.T.Sink.takes_memory || g.N.Sink.takes_memory) (work_under c.args.profile job) c.args.policy c.serve_lines.result before now) (sym c.in-Lines.is) c.serve_lines.ensures.serves

pub returns-in-Lines-clause-soon : goal.returns-in-Lines-clause-soon
returns-in-Lines-clause-soon g c = λ nothing.
    let soon = RefusesInTime c.args.profile c.serve_lines.result (g.S.Source.left c.args.input.now) (g.S.Source.left c.serve_lines.new.input) in
    subst (λ job. IfHears job soon) (sym c.in-Lines.is) (lines_unheard c.in-Lines.form c.in-Lines.columns c.in-Lines.names soon)

pub returns-in-Lines-clause-unread : goal.returns-in-Lines-clause-unread
returns-in-Lines-clause-unread g c =
    subst (λ job. IfUnread (work_under c.args.profile job) (g.H.Shelf.contents c.args.shelf.now) (c.serve_lines.new.input ≡ c.args.input.now)) (sym c.in-Lines.is) c.serve_lines.ensures.unread

pub returns-in-Lines-clause-unused : goal.returns-in-Lines-clause-unused
returns-in-Lines-clause-unused g c =
    subst (λ job. has_shelf (work_under c.args.profile job) ≡ false → c.serve_lines.new.shelf ≡ c.args.shelf.now) (sym c.in-Lines.is) c.serve_lines.ensures.unused

pub returns-in-FilterNamed-clause-serves : goal.returns-in-FilterNamed-clause-serves
returns-in-FilterNamed-clause-serves g c =
    let see = seen g.S.Source.left g.S.Source.faults g.T.Sink.contents g.T.Sink.faults g.T.Sink.settled g.N.Sink.contents g.N.Sink.faults g.N.Sink.settled g.H.Shelf.contents g.H.Shelf.faults in
    let before = see c.args.input.now c.args.output.now c.args.notes.now c.args.shelf.now in
    let now = see c.serve_filtered_named.new.input c.serve_filtered_named.new.output c.serve_filtered_named.new.notes c.serve_filtered_named.new.shelf in
    subst (λ job. Serves (g.T.Sink.takes_memory || g.N.Sink.takes_memory) (work_under c.args.profile job) c.args.policy c.serve_filtered_named.result before now) (sym c.in-FilterNamed.is) c.serve_filtered_named.ensures.serves

pub returns-in-Dump-clause-serves : goal.returns-in-Dump-clause-serves
returns-in-Dump-clause-serves g c =
    let see = seen g.S.Source.left g.S.Source.faults g.T.Sink.contents g.T.Sink.faults g.T.Sink.settled g.N.Sink.contents g.N.Sink.faults g.N.Sink.settled g.H.Shelf.contents g.H.Shelf.faults in
    let before = see c.args.input.now c.args.output.now c.args.notes.now c.args.shelf.now in
    let now = see c.serve_dumped.new.input c.serve_dumped.new.output c.serve_dumped.new.notes c.serve_dumped.new.shelf in
    subst (λ job. Serves (g.T.Sink.takes_memory || g.N.Sink.takes_memory) (work_under c.args.profile job) c.args.policy c.serve_dumped.result before now) (sym c.in-Dump.is) c.serve_dumped.ensures.serves

pub returns-in-Dump-clause-soon : goal.returns-in-Dump-clause-soon
returns-in-Dump-clause-soon g c = λ nothing.
    let soon = RefusesInTime c.args.profile c.serve_dumped.result (g.S.Source.left c.args.input.now) (g.S.Source.left c.serve_dumped.new.input) in
    subst (λ job. IfHears job soon) (sym c.in-Dump.is) (dump_unheard c.in-Dump.decimals c.in-Dump.placed soon)

pub returns-in-Dump-clause-unread : goal.returns-in-Dump-clause-unread
returns-in-Dump-clause-unread g c =
    let unread = c.serve_dumped.new.input ≡ c.args.input.now in
    subst (λ job. IfUnread (work_under c.args.profile job) (g.H.Shelf.contents c.args.shelf.now) unread) (sym c.in-Dump.is)
    (dump_reads c.args.profile c.in-Dump.decimals c.in-Dump.placed (g.H.Shelf.contents c.args.shelf.now) unread)

pub returns-in-Dump-clause-unused : goal.returns-in-Dump-clause-unused
returns-in-Dump-clause-unused g c = λ unshelved. c.serve_dumped.ensures.unused
