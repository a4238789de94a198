use Rattle.std.proofs.Common.{ℕ, List, ◌++◌, ◌∙◌, ap}
use Rattle.grib_bits.specs.declared.adding.Number.{Number}
use Rattle.grib_bits.specs.Encoding.{all_octets}
use Rattle.grib_bits.proofs.AllOctets.{octets_behind}
use Rattle.grib_migrate.specs.Grids.{polar, lambert, polar_scaled, lambert_own, angle, three}
use Rattle.grib_migrate.proofs.Grids.{fits_before, latin1_is}
use Rattle.grib_migrate.proofs.grid.add_lambert.Goals as goal

pub returns : goal.returns
returns c =
    let s = c.args.section2.now in
    let old = c.args.out.now.items in
    let before = c.add_numbers.new.out.items in
    let own = c.in_ok-lambert.ensures in
    let latin1 = c.unwrap_or-latin1.ensures ∙ latin1_is s c.scale.result c.scale.ensures own.0 in (
      fits_before s polar_scaled lambert_own c.in_ok-polar.ensures.0 ∙ own.0,
      octets_behind old before c.add_numbers-2.new.out.items (polar s (angle (three s 29))) (lambert s)
          (c.in_ok-add_numbers.ensures ∙ ap (λ (numbers : List Number). old ++ all_octets numbers) (c.in_ok-polar.ensures.1 ∙ ap (λ (lad : ℕ). polar s lad) latin1))
          (c.in_ok-add_numbers-2.ensures ∙ ap (λ (numbers : List Number). before ++ all_octets numbers) own.1),
    )
