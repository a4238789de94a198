use Rattle.std.proofs.Common.{List, ◌++◌, ap, ◌∙◌}
use Rattle.grib_bits.specs.declared.adding.Number.{Number}
use Rattle.grib_bits.specs.Encoding.{all_octets}
use Rattle.grib_bits.proofs.AllOctets.{added_behind}
use Rattle.grib_demote.specs.Grids.{polar}
use Rattle.grib_demote.proofs.grid.add_polar.Goals as goal

pub returns : goal.returns
returns c =
    let old = c.args.out.now.items in
    added_behind old c.add_numbers.new.out.items c.add_numbers-2.new.out.items (polar c.args.section3.now) c.args.others.now c.add_numbers-2.result
    (c.in_ok-add_numbers.ensures ∙ ap (λ (numbers : List Number). old ++ all_octets numbers) c.polar_numbers.ensures) c.add_numbers-2.ensures
