use Rattle.std.proofs.Common.{◌++◌, take, ◌∙◌, ap, subst, sym}
use Rattle.grib_stream.specs.Acts.{world}
use Rattle.grib_stream.specs.Performed.{Performs, performed_of}
use Rattle.grib_stream.specs.Task.{next_of}
use Rattle.grib_command.specs.Command.{task, under}
use Rattle.grib_command.specs.Judging.{judged}
use Rattle.grib_dispatch.specs.Hearing.{heard_of, is_second}
use Rattle.grib_dispatch.specs.HearingLaws.{both}
use Rattle.grib_dispatch.proofs.HeardMessages.{performs_heard, heard_verdict, second_verdict, heard_write, heard_shelf}
use Rattle.grib_dispatch.proofs.performing.AnsweringPerformer.perform_heard.Goals as goal

pub octets-octets-requires : goal.octets-octets-requires
octets-octets-requires g c =
    let heard = c.requires.whole.1 in
    record { live = (heard.0, c.requires.whole.0, heard.2) }

pub fields-fields-requires : goal.fields-fields-requires
fields-fields-requires g c =
    let heard = c.requires.whole.1 in
    record { whole = (heard.0, c.requires.whole.0, heard.2, second_verdict c.args.self.now.profile heard.0 c.requires.whole.0 heard.1 c.requires.whole.2) }

pub heard-answered-requires : goal.heard-answered-requires
heard-answered-requires g c =
    let heard = c.requires.whole.1 in
    record { whole = (heard.0, c.requires.whole.0, heard.2, second_verdict c.args.self.now.profile heard.0 c.requires.whole.0 heard.1 c.requires.whole.2) }

pub returns-clause-performs : goal.returns-clause-performs
returns-clause-performs g c =
    let profile = c.args.self.now.profile in
    let command = under profile (g.C.Answerer.definition c.args.self.now.answerer.now) in
    λ octets more names heard known is.
    let second = (both command.hears (is_second (take 8 (octets ++ more))) known).1 in
    let whole = second_verdict profile heard.0 octets heard.1 (ap judged (heard_verdict profile octets more second is)) in
    subst (λ r. Performs (next_of (task command) c.args.place.now octets) (performed_of r) (world (g.T.Sink.contents c.args.output.now) names) (world (g.T.Sink.contents c.heard-answered.new.output) names)) (sym c.heard.ensures)
    (performs_heard command c.args.place.now octets more c.heard-answered.result c.octets-octets.result c.fields-fields.result _ _ second is (c.octets-octets.ensures.count heard.0 octets heard.2) (c.fields-fields.ensures heard.0 octets heard.2 whole) ((c.heard-answered.ensures (sym c.hears.ensures ∙ c.if-not-hears.false) heard.0 octets heard.2 whole).answers names))

pub returns-clause-write_fault : goal.returns-clause-write_fault
returns-clause-write_fault g c =
    let heard = c.requires.whole.1 in
    let whole = second_verdict c.args.self.now.profile heard.0 c.requires.whole.0 heard.1 c.requires.whole.2 in
    let done = c.heard-answered.ensures (sym c.hears.ensures ∙ c.if-not-hears.false) heard.0 c.requires.whole.0 heard.2 whole in
    λ e. done.write_fault (heard_write c.heard-answered.result c.args.place.now c.octets-octets.result c.fields-fields.result (sym c.heard.ensures ∙ e))

pub returns-clause-write_calm : goal.returns-clause-write_calm
returns-clause-write_calm g c =
    let heard = c.requires.whole.1 in
    let whole = second_verdict c.args.self.now.profile heard.0 c.requires.whole.0 heard.1 c.requires.whole.2 in
    let done = c.heard-answered.ensures (sym c.hears.ensures ∙ c.if-not-hears.false) heard.0 c.requires.whole.0 heard.2 whole in
    λ other. done.write_stays (λ e. other (c.heard.ensures ∙ ap (λ a. heard_of a c.args.place.now c.octets-octets.result c.fields-fields.result) e))

pub returns-clause-unshelved : goal.returns-clause-unshelved
returns-clause-unshelved g c =
    let heard = c.requires.whole.1 in
    let whole = second_verdict c.args.self.now.profile heard.0 c.requires.whole.0 heard.1 c.requires.whole.2 in
    let done = c.heard-answered.ensures (sym c.hears.ensures ∙ c.if-not-hears.false) heard.0 c.requires.whole.0 heard.2 whole in
    λ e. done.unshelved (heard_shelf c.heard-answered.result c.args.place.now c.octets-octets.result c.fields-fields.result (sym c.heard.ensures ∙ e))

pub returns-clause-unfinished : goal.returns-clause-unfinished
returns-clause-unfinished g c =
    let heard = c.requires.whole.1 in
    let whole = second_verdict c.args.self.now.profile heard.0 c.requires.whole.0 heard.1 c.requires.whole.2 in
    (c.heard-answered.ensures (sym c.hears.ensures ∙ c.if-not-hears.false) heard.0 c.requires.whole.0 heard.2 whole).unfinished
