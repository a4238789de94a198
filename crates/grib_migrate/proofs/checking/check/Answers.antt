use Rattle.std.proofs.Common.{Option, sym, ap, ◌∙◌}
use Rattle.grib_params.specs.declared.surface_row.SurfaceTarget.{SurfaceTarget}
use Rattle.grib_migrate.specs.Chosen.{surfaces_by, target_by}
use Rattle.grib_migrate.proofs.Kept.{nothing_lost, ordered}
use Rattle.grib_migrate.proofs.checking.check.Goals as goal

pub returns : goal.returns
returns c =
    let s1 = c.args.section1.now in
    let named = sym c.named_in-named.ensures in
    let t = ap (λ (n : Option SurfaceTarget). target_by c.args.table.now n s1) named ∙ sym c.target_by.ensures ∙ c.in-Some.is in
    let s = ap (λ (n : Option SurfaceTarget). surfaces_by n s1) named ∙ sym c.surfaces_by.ensures ∙ c.in-Some-surfaces_by.is in
    let u = sym c.unit_of.ensures.unit ∙ c.in-Some-unit_of.is in
    let range = sym c.loses_range.ensures ∙ c.if-loses_range.false in
    let average = sym c.loses_average.ensures ∙ c.if-loses_average.false in
    let own = sym c.loses_local.ensures ∙ c.if-loses_local.false in
    let other = sym c.has_other_flags.ensures ∙ c.if-has_other_flags.false in (
      nothing_lost c.args.table.now c.args.surfaces.now c.args.local s1 c.args.section2.now _ _ _ t s u range c.in_ok-end.ensures.0 average own other,
      record { target = t; surfaces_are = s; member = c.member_of-member.ensures; unit = u; end = c.in_ok-end.ensures.1; ordered = ordered s1 range },
    )
