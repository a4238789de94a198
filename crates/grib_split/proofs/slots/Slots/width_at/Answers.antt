use Rattle.std.proofs.Common.{arith}
use Rattle.grib_split.proofs.Widths.{wide_many}
use Rattle.grib_split.proofs.slots.Slots.width_at.Goals as goal

pub returns-clause-wide : goal.returns-clause-wide
returns-clause-wide c run t =
    let w = c.width_of_many.ensures in
    let more = c.if-greatest-least.false in
    wide_many _ _ _ _ c.args.reserved _ _ run t.tells (omega (arith, more)) (λ none. omega (arith, none, more)) w.is w.few w.stays
