use Rattle.std.proofs.Common.{◌++◌, ◌∙◌, ap, sym, arith}
use Rattle.grib_bits.proofs.AllOctets.{added_same}
use Rattle.grib_demote.specs.Grids.{polar}
use Rattle.grib_demote.proofs.Grids.{template_10, template_20, template_30, template_other}
use Rattle.grib_demote.proofs.grid.add_template.Goals as goal

pub returns-in-10 : goal.returns-in-10
returns-in-10 c =
    added_same c.args.out.now.items c.add_numbers.new.out.items _ _ c.add_numbers.result
    (c.mercator_numbers.ensures ∙ sym (template_10 c.args.section3.now (sym c.u16_at.ensures ∙ c.in-10.is))) c.add_numbers.ensures

pub returns-in-20 : goal.returns-in-20
returns-in-20 c =
    added_same c.args.out.now.items c.add_polar.new.out.items _ _ c.add_polar.result
    (sym (template_20 c.args.section3.now (sym c.u16_at.ensures ∙ c.in-20.is))) c.add_polar.ensures

pub returns-in-30 : goal.returns-in-30
returns-in-30 c =
    added_same c.args.out.now.items c.add_polar-in-30.new.out.items _ _ c.add_polar-in-30.result
    (ap (λ others. polar c.args.section3.now ++ others) c.lambert_numbers.ensures ∙ sym (template_30 c.args.section3.now (sym c.u16_at.ensures ∙ c.in-30.is))) c.add_polar-in-30.ensures

pub returns-in_default : goal.returns-in_default
returns-in_default c =
    let s = c.args.section3.now in
    let t = c.u16_at.ensures in
    added_same c.args.out.now.items c.add_numbers-in_default.new.out.items _ _ c.add_numbers-in_default.result
    (c.lat_lon_numbers.ensures ∙ sym (template_other s (λ e. omega arith) (λ e. omega arith) (λ e. omega arith))) c.add_numbers-in_default.ensures
