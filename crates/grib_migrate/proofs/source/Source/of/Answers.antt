use Rattle.std.proofs.Common.{ℕ, ◌≤◌, sym, subst}
use Rattle.grib_base.specs.declared.limits.TheConstants.{MOST_POINTS}
use Rattle.grib1_sections.specs.Acceptance.{identification, grid, bitmap, data_section, points_of, values_of}
use Rattle.grib_migrate.specs.Held.{Holds}
use Rattle.grib_migrate.proofs.Sections.{all_hold}
use Rattle.grib_migrate.proofs.source.Source.of.Goals as goal

pub returns-clause-holds : goal.returns-clause-holds
returns-clause-holds c =
    let m = c.args.message.now in
    let p = c.section.ensures.passes in
    let whole : Holds (identification m) (grid m) (bitmap m) (data_section m) (points_of m) (values_of m) =
    all_hold (identification m) (grid m) (bitmap m) (data_section m) (points_of m) (values_of m) p.identification_stands p.grid_stands p.bitmap_stands p.data_stands
    (subst (λ (n : ℕ). n ≤ MOST_POINTS) c.points.ensures.points c.points.ensures.few) in
    subst (λ (n : ℕ). Holds (identification m) (grid m) (bitmap m) (data_section m) c.points.result n) (sym c.values.ensures.values)
    (subst (λ (n : ℕ). Holds (identification m) (grid m) (bitmap m) (data_section m) n (values_of m)) (sym c.points.ensures.points) whole)
