use Rattle.std.proofs.Common.{subst, Ok, None}
use Rattle.grib_stream.specs.Acts.{world}
use Rattle.grib_stream.specs.Hearing.{Listens}
use Rattle.grib_stream.proofs.Heard.{whole_heard, whole_unfailed, full_answers, full_ended}
use Rattle.grib_stream.proofs.listening.answer_heard.Goals as goal

pub returns-in_err-probe-in-Ok-Full-clause-answers : goal.returns-in_err-probe-in-Ok-Full-clause-answers
returns-in_err-probe-in-Ok-Full-clause-answers g c =
    let task = g.K.Performer.task c.args.performer.now in
    let listens = subst (λ heard. Listens (g.K.Hearer.Hearer.heard (g.K.Performer.judges c.args.performer.now)) task.judge (Ok heard) (g.S.Source.left c.args.input.now) (g.S.Source.left c.listen.new.input) c.args.window.now.octets c.listen.new.window.octets c.args.left.now c.listen.new.left) c.in-Ok-Full.field-0-is c.in-Ok-Full.ensures.listens in
    λ names.
    full_answers task c.args.place.now c.in-Ok-Full.fault c.probe.result c.in_err-probe-in-Ok-Full.field-0.0 c.from_residual.result c.listen.new.window.octets (world (g.T.Sink.contents c.args.output.now) names) c.from_residual.ensures.1 listens c.probe.ensures c.in_err-probe-in-Ok-Full.was

pub returns-in-Ok-Whole-clause-answers : goal.returns-in-Ok-Whole-clause-answers
returns-in-Ok-Whole-clause-answers g c =
    let task = g.K.Performer.task c.args.performer.now in
    let listens = subst (λ heard. Listens (g.K.Hearer.Hearer.heard (g.K.Performer.judges c.args.performer.now)) task.judge (Ok heard) (g.S.Source.left c.args.input.now) (g.S.Source.left c.listen.new.input) c.args.window.now.octets c.listen.new.window.octets c.args.left.now c.listen.new.left) c.in-Ok-Whole.field-0-is c.in-Ok-Whole.ensures.listens in
    λ names.
    whole_heard task (g.K.Performer.hears c.args.performer.now) c.args.place.now c.perform_heard.result (world (g.T.Sink.contents c.args.output.now) names) (world (g.T.Sink.contents c.perform_heard.new.output) names) c.requires.long c.requires.heard listens
    (λ octets more heard known is. c.perform_heard.ensures.performs octets more names heard known is)

pub returns-in-Ok-Whole-clause-read_fault : goal.returns-in-Ok-Whole-clause-read_fault
returns-in-Ok-Whole-clause-read_fault g c =
    let task = g.K.Performer.task c.args.performer.now in
    let listens = subst (λ heard. Listens (g.K.Hearer.Hearer.heard (g.K.Performer.judges c.args.performer.now)) task.judge (Ok heard) (g.S.Source.left c.args.input.now) (g.S.Source.left c.listen.new.input) c.args.window.now.octets c.listen.new.window.octets c.args.left.now c.listen.new.left) c.in-Ok-Whole.field-0-is c.in-Ok-Whole.ensures.listens in
    λ is.
    absurd (whole_unfailed (g.met.K.Performer.lawful c.args.performer.now) (g.K.Performer.hears c.args.performer.now) c.args.place.now c.perform_heard.result (world (g.T.Sink.contents c.args.output.now) None) (world (g.T.Sink.contents c.perform_heard.new.output) None) c.requires.long c.requires.heard listens
    (λ octets more heard known whole. c.perform_heard.ensures.performs octets more None heard known whole) is)

pub returns-in_ok-probe-in-Ok-Full-clause-answers : goal.returns-in_ok-probe-in-Ok-Full-clause-answers
returns-in_ok-probe-in-Ok-Full-clause-answers g c =
    let task = g.K.Performer.task c.args.performer.now in
    let listens = subst (λ heard. Listens (g.K.Hearer.Hearer.heard (g.K.Performer.judges c.args.performer.now)) task.judge (Ok heard) (g.S.Source.left c.args.input.now) (g.S.Source.left c.listen.new.input) c.args.window.now.octets c.listen.new.window.octets c.args.left.now c.listen.new.left) c.in-Ok-Full.field-0-is c.in-Ok-Full.ensures.listens in
    let ended = c.in_ok-probe-in-Ok-Full.ensures.ended in
    λ names.
    full_ended task c.args.place.now c.in-Ok-Full.fault c.refused-in-Ok-Full.result c.listen.new.window.octets (world (g.T.Sink.contents c.args.output.now) names) listens ended.0 ended.1 c.refused-in-Ok-Full.ensures
