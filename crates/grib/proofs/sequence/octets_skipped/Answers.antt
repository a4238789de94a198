use Rattle.std.proofs.Common.{refl, ◌∙◌, sym, ap, true, false}
use Rattle.grib_items.proofs.Heads.{passed_here, passed_cut}
use Rattle.grib.proofs.sequence.octets_skipped.Goals as goal

pub returns-then-octets-total : goal.returns-then-octets-total
returns-then-octets-total c =
    passed_cut false c.args.octets.now c.in-Ok.head.total c.in-Ok.ensures.0 (ap (λ h. h.total) (sym c.in-Ok.ensures.1)) c.if-octets-total.true refl

pub returns-then-is_ended : goal.returns-then-is_ended
returns-then-is_ended c =
    passed_here false c.args.octets.now c.in-Ok.head.total true c.in-Ok.ensures.0 (ap (λ h. h.total) (sym c.in-Ok.ensures.1)) c.if-octets-total.false
    (sym c.is_ended.ensures ∙ c.if-is_ended.true)

pub returns : goal.returns
returns c =
    passed_here false c.args.octets.now c.in-Ok.head.total false c.in-Ok.ensures.0 (ap (λ h. h.total) (sym c.in-Ok.ensures.1)) c.if-octets-total.false
    (sym c.is_ended.ensures ∙ c.if-is_ended.false)
