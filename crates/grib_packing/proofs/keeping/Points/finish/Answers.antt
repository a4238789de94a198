use Rattle.std.proofs.Common.{◌≡◌, ℕ, ◌-◌, ◌++◌, length, replicate, ap, ◌∙◌, arith}
use Rattle.grib_packing.specs.declared.column.Point.TheVariants.{Missing}
use Rattle.grib_packing.proofs.Masks.{all_points}
use Rattle.grib_packing.proofs.keeping.Points.finish.Goals as goal

pub returns : goal.returns
returns c = λ mask seen are.
    let self = c.args.self in
    let points = self.points.items in
    let left : c.saturating_sub-left.result ≡ length mask - length points =
    omega (arith, c.saturating_sub-left.ensures, c.len.ensures, c.len-2.ensures, ap length (c.deref.ensures ∙ are.mask_stays), self.points.ok.0) in
    c.push_missing.ensures.points (omega (arith, left, are.within, are.memory, self.points.ok.0))
    ∙ ap (λ (n : ℕ). points ++ replicate n Missing) left
    ∙ all_points mask seen self are
