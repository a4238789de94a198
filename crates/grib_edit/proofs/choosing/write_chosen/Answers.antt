use Rattle.std.proofs.Common.{IfOk, ◌≡◌, length, sym, ◌∙◌, subst, arith}
use Rattle.grib_command.specs.Pending.{WritesTo}
use Rattle.grib_edit.proofs.Filtered.{front_whole, front_short, is_whole, is_parted}
use Rattle.grib_edit.proofs.choosing.write_chosen.Goals as goal

pub returns-then-front-fields-clause-writes : goal.returns-then-front-fields-clause-writes
returns-then-front-fields-clause-writes g c =
    subst (WritesTo g.T.Sink.contents g.T.Sink.faults g.T.Sink.settled c.write_each_chosen.result c.args.output.now c.write_each_chosen.new.output)
    (sym (is_parted (g.C.Chooser.chosen c.args.chooser.now c.args.message.now) c.args.message.now
    (front_short _ _ c.chosen_front-front.result c.chosen_front-front.ensures (omega (arith, c.fields.ensures.count, c.if-front-fields.true)))))
    c.write_each_chosen.ensures.writes

pub returns-then-front-fields-clause-count : goal.returns-then-front-fields-clause-count
returns-then-front-fields-clause-count g c =
    subst (λ text. IfOk c.write_each_chosen.result (λ written. written ≡ length text))
    (sym (is_parted (g.C.Chooser.chosen c.args.chooser.now c.args.message.now) c.args.message.now
    (front_short _ _ c.chosen_front-front.result c.chosen_front-front.ensures (omega (arith, c.fields.ensures.count, c.if-front-fields.true)))))
    c.write_each_chosen.ensures.count

pub returns-clause-writes : goal.returns-clause-writes
returns-clause-writes g c =
    subst (WritesTo g.T.Sink.contents g.T.Sink.faults g.T.Sink.settled c.write_counted.result c.args.output.now c.write_counted.new.sink)
    (c.octets-octets.ensures.octets
    ∙ sym (is_whole (g.C.Chooser.chosen c.args.chooser.now c.args.message.now) c.args.message.now
    (front_whole _ _ c.chosen_front-front.result c.chosen_front-front.ensures (omega (arith, c.fields.ensures.count, c.if-front-fields.false)))))
    c.write_counted.ensures.writes

pub returns-clause-count : goal.returns-clause-count
returns-clause-count g c =
    subst (λ text. IfOk c.write_counted.result (λ written. written ≡ length text))
    (c.octets-octets.ensures.octets
    ∙ sym (is_whole (g.C.Chooser.chosen c.args.chooser.now c.args.message.now) c.args.message.now
    (front_whole _ _ c.chosen_front-front.result c.chosen_front-front.ensures (omega (arith, c.fields.ensures.count, c.if-front-fields.false)))))
    c.write_counted.ensures.count
