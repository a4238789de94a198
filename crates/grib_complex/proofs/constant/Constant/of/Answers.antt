use Rattle.std.proofs.Common.{◌≡◌, ℕ, pos, List, replicate, sym, subst₂}
use Rattle.grib_base.specs.declared.code.Code.{Code}
use Rattle.grib_base.specs.declared.code.Code.TheVariants.{Primary, Secondary}
use Rattle.grib_packing.specs.declared.column.Point.{Point}
use Rattle.grib_packing.specs.declared.column.Point.TheVariants.{Missing, Missing2}
use Rattle.grib_packing.specs.Differences.{Descriptors}
use Rattle.grib_spatial.specs.Undoing.{read_with}
use Rattle.grib_complex.specs.Constant.{DifferencesOf}
use Rattle.grib_complex.proofs.AllTheSame.{read_is, primary_told, secondary_told}
use Rattle.grib_complex.proofs.constant.Constant.of.Goals as goal

-- the point and the descriptors as they are known
told_by : (order n : ℕ) (p q : Point) (d e : Descriptors) (codes : List Code) (k : ℕ) → p ≡ q → e ≡ d → DifferencesOf order (replicate n q) e codes k → DifferencesOf order (replicate n p) d codes k
told_by order n p q d e codes k same is told =
    subst₂ (λ (r : Point) (f : Descriptors). DifferencesOf order (replicate n r) f codes k) (sym same) is told

pub returns-in-Missing : goal.returns-in-Missing
returns-in-Missing c =
    let order = c.args.order in
    let n = c.args.count in
    told_by order n c.args.point Missing (read_with order c.same_differences.result) _ (replicate n Primary) 1 c.in-Missing.is
    (read_is order c.same_differences.result (pos 0) (pos 0) c.same_differences.ensures.first c.same_differences.ensures.second c.same_differences.ensures.minimum)
    (primary_told order n c.requires.some c.requires.order)

pub returns-in-Missing2 : goal.returns-in-Missing2
returns-in-Missing2 c =
    let order = c.args.order in
    let n = c.args.count in
    told_by order n c.args.point Missing2 (read_with order c.same_differences-in-Missing2.result) _ (replicate n Secondary) 2 c.in-Missing2.is
    (read_is order c.same_differences-in-Missing2.result (pos 0) (pos 0) c.same_differences-in-Missing2.ensures.first c.same_differences-in-Missing2.ensures.second c.same_differences-in-Missing2.ensures.minimum)
    (secondary_told order n c.requires.some c.requires.order)
