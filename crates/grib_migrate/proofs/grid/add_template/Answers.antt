use Rattle.std.proofs.Common.{ℕ, List, ◌++◌, ◌∙◌, ap, sym, arith}
use Rattle.grib_bits.specs.declared.adding.Number.{Number}
use Rattle.grib_bits.specs.Encoding.{all_octets}
use Rattle.grib_migrate.specs.Grids.{lat_lon}
use Rattle.grib_migrate.proofs.Grids.{of_type_3, of_other_type, part_same, part_memory}
use Rattle.grib_migrate.proofs.grid.add_template.Goals as goal

pub returns-in_err-add_numbers-in-1 : goal.returns-in_err-add_numbers-in-1
returns-in_err-add_numbers-in-1 c = part_memory c.from_residual-in_err-add_numbers-in-1.result _ _ _ _ c.from_residual-in_err-add_numbers-in-1.ensures

pub returns-in-3 : goal.returns-in-3
returns-in-3 c =
    let of_type = of_type_3 c.args.section2.now (sym c.u8_at.ensures ∙ c.in-3.is) in
    part_same c.add_lambert.result _ _ _ _ _ _ (sym of_type.loss_is) (sym of_type.numbers_are) c.add_lambert.ensures

pub returns-in_ok-add_numbers-in_default : goal.returns-in_ok-add_numbers-in_default
returns-in_ok-add_numbers-in_default c =
    let s = c.args.section2.now in
    let t = c.u8_at.ensures in
    let of_type = of_other_type s (λ e. omega arith) (λ e. omega arith) (λ e. omega arith) (λ e. omega arith) in
    let found = c.in_ok-lat_lon_numbers-in_default.ensures in (
      of_type.loss_is ∙ found.0,
      c.in_ok-add_numbers-in_default.ensures
          ∙ ap (λ (numbers : List Number). c.args.out.now.items ++ all_octets numbers) (found.1 ∙ ap (λ (n : ℕ). lat_lon s n) c.increment.ensures ∙ sym of_type.numbers_are),
    )
