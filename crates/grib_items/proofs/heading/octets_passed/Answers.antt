use Rattle.std.proofs.Common.{◌∙◌, sym, ap, true, false}
use Rattle.grib_items.proofs.Heads.{passed_here, passed_cut}
use Rattle.grib_items.proofs.heading.octets_passed.Goals as goal

pub returns-then-is_ended : goal.returns-then-is_ended
returns-then-is_ended c =
    sym (passed_here c.args.more c.args.octets.now c.in-Ok.head.total true c.in-Ok.ensures.0 (ap (λ h. h.total) (sym c.in-Ok.ensures.1)) c.if-octets-total.false
    (sym c.is_ended.ensures ∙ c.if-is_ended.true))

pub returns : goal.returns
returns c =
    sym (passed_here c.args.more c.args.octets.now c.in-Ok.head.total false c.in-Ok.ensures.0 (ap (λ h. h.total) (sym c.in-Ok.ensures.1)) c.if-octets-total.false
    (sym c.is_ended.ensures ∙ c.if-is_ended.false))

pub returns-else-more-2 : goal.returns-else-more-2
returns-else-more-2 c =
    sym (passed_cut c.args.more c.args.octets.now c.in-Ok.head.total c.in-Ok.ensures.0 (ap (λ h. h.total) (sym c.in-Ok.ensures.1)) c.if-octets-total.true c.if-more-2.false)
