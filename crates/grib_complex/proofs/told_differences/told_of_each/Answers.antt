use Rattle.std.proofs.Common.{◌≡◌, ℕ, List, Bool, cond, Option, Some, None, nat_lt, ap, sym, ◌∙◌, subst}
use Rattle.std.specs.List.{list_any}
use Rattle.grib_base.proofs.Passing.{carried}
use Rattle.grib_packing.specs.Differences.{difference_codes}
use Rattle.grib_packing.specs.declared.column.Point.{Point}
use Rattle.grib_packing.specs.Misfits.{Misfit, ToSpatial, DifferenceRange, first_misfit, greatest_code, management_of, scaled_numbers, are_differences_out}
use Rattle.grib_packing.specs.Written.{IsPackFault}
use Rattle.grib_spatial.specs.Undoing.{read_with}
use Rattle.grib_complex.proofs.Differing.{out_by_codes}
use Rattle.grib_complex.proofs.told_differences.told_of_each.Goals as goal

-- the first misfit is that of the codes
misfit_is : (order k : ℕ) (points : List Point) → k ≡ management_of points
    → are_differences_out order k (scaled_numbers points) ≡ list_any (λ code. nat_lt (greatest_code k) code) (difference_codes order (scaled_numbers points))
    → first_misfit (ToSpatial order) points ≡ cond (list_any (λ code. nat_lt (greatest_code k) code) (difference_codes order (scaled_numbers points))) (Some DifferenceRange) None
misfit_is order k points k_is by_codes =
    ap (λ (b : Bool). cond b (Some DifferenceRange) None) (ap (λ (j : ℕ). are_differences_out order j (scaled_numbers points)) (sym k_is) ∙ by_codes)

pub returns-in_err-codes : goal.returns-in_err-codes
returns-in_err-codes c =
    let points = c.args.points.now in
    let order = c.args.order in
    let k = c.management-management.result in
    let by_codes = out_by_codes order k (scaled_numbers points) (read_with order c.differences_of-differences.result) c.differences_of-differences.ensures (sym c.are_out.ensures ∙ c.if-are_out.false) in
    let is = misfit_is order k points c.management-management.ensures.is by_codes in
    carried _ _ _ _ c.from_residual.ensures.1 (subst (λ (expected : Option Misfit). IsPackFault expected c.in_err-codes.field-0.0) (sym is) c.in_err-codes.ensures)

pub returns : goal.returns
returns c =
    let points = c.args.points.now in
    let order = c.args.order in
    let k = c.management-management.result in
    let numbers = scaled_numbers points in
    let by_codes = out_by_codes order k numbers (read_with order c.differences_of-differences.result) c.differences_of-differences.ensures (sym c.are_out.ensures ∙ c.if-are_out.false) in
    let none : first_misfit (ToSpatial order) points ≡ None =
    misfit_is order k points c.management-management.ensures.is by_codes ∙ ap (λ (b : Bool). cond b (Some DifferenceRange) None) c.in_ok-codes.ensures.0 in (
      none,
      record {
        told = c.differences_of-differences.ensures;
        codes_are = c.in_ok-codes.ensures.1;
        management = c.management-management.ensures.is;
        fit = by_codes ∙ c.in_ok-codes.ensures.0;
      },
    )
