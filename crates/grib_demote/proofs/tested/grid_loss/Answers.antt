use Rattle.std.proofs.Common.{ap, sym, ◌∙◌, arith}
use Rattle.grib_demote.specs.Grids.{loss_among}
use Rattle.grib_demote.proofs.Grids.{tested_30, tested_other}
use Rattle.grib_demote.proofs.tested.grid_loss.Goals as goal

pub returns-in-30 : goal.returns-in-30
returns-in-30 c =
    let s = c.args.section3.now in
    c.lambert_loss.ensures ∙ ap loss_among (sym (tested_30 s (sym c.u16_at.ensures ∙ c.in-30.is)))

pub returns-in_default : goal.returns-in_default
returns-in_default c =
    let s = c.args.section3.now in
    let t = c.u16_at.ensures in
    c.lat_lon_loss.ensures ∙ ap loss_among (sym (tested_other s (λ e. omega arith) (λ e. omega arith) (λ e. omega arith)))
