use Rattle.std.proofs.Common.{◌≡◌, IfOk, length, sym, ◌∙◌, subst}
use Rattle.grib_select.specs.Single.{single_of}
use Rattle.grib_edit.specs.FieldOctets.{single_most}
use Rattle.grib_command.specs.Pending.{WritesTo}
use Rattle.grib_edit.proofs.Filtered.{is_single, few_written}
use Rattle.grib_edit.proofs.choosing.write_if_chosen.Goals as goal

pub returns-clause-writes : goal.returns-clause-writes
returns-clause-writes g c =
    subst (WritesTo g.T.Sink.contents g.T.Sink.faults g.T.Sink.settled c.write_counted.result _ _)
    (c.as_slice.ensures.value ∙ (c.in_ok-octets.ensures ∙ sym (is_single (g.C.Chooser.chosen c.args.chooser.now c.args.message.now) c.args.message.now c.args.field (sym c.if-not-is_chosen.ensures))))
    c.write_counted.ensures.writes

pub returns-clause-count : goal.returns-clause-count
returns-clause-count g c =
    subst (λ octets. IfOk c.write_counted.result (λ count. count ≡ length octets))
    (c.as_slice.ensures.value ∙ (c.in_ok-octets.ensures ∙ sym (is_single (g.C.Chooser.chosen c.args.chooser.now c.args.message.now) c.args.message.now c.args.field (sym c.if-not-is_chosen.ensures))))
    c.write_counted.ensures.count

pub returns-clause-few : goal.returns-clause-few
returns-clause-few g c =
    few_written c.write_counted.result c.as_slice.result.now (single_of c.args.message.now c.args.field)
    (c.as_slice.ensures.value ∙ c.in_ok-octets.ensures) (single_most c.args.message.now c.args.field c.requires.message c.requires.first c.requires.last)
    c.write_counted.ensures.count
