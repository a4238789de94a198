-- Lemmas on what is told of differences.
use Rattle.std.proofs.Common.{◌≡◌, ℕ, ◌^◌, ◌<◌, ◌≤◌, List, Bool, length, nat_abs, false, cond, Some, None, All, ap, sym, ◌∙◌, subst, subst₂}
use Rattle.grib_base.specs.declared.code.Code.{Code}
use Rattle.grib_packing.specs.declared.column.Point.{Point}
use Rattle.grib_packing.specs.Differences.{Descriptors, difference_codes}
use Rattle.grib_packing.specs.Misfits.{ToSpatial, DifferenceRange, first_misfit, management_of, scaled_numbers, are_differences_out}
use Rattle.grib_codes.specs.Span.{IsTold}
use Rattle.grib_complex.specs.Constant.{DifferencesOf}
use Rattle.grib_codes.proofs.Reserved.{length-placed, management-few}
use Rattle.grib_complex.proofs.Differing.{length-codes, small_values, spatial_told}

module _ (order k : ℕ) (points : List Point) (d : Descriptors) (codes : List Code) (h : DifferencesOf order points d codes k) where
  pub fits : are_differences_out order (management_of points) (scaled_numbers points) ≡ false
  fits = ap (λ (j : ℕ). are_differences_out order j (scaled_numbers points)) (sym h.management) ∙ h.fit

  pub codes_told : All (IsTold k) codes
  codes_told = subst₂ (λ (j : ℕ) (cs : List Code). All (IsTold j) cs) (sym h.management) (sym h.codes_are) (spatial_told order points fits)

  pub none_misfits : first_misfit (ToSpatial order) points ≡ None
  none_misfits = ap (λ (b : Bool). cond b (Some DifferenceRange) None) fits

  pub codes_as_long : length codes ≡ length points
  codes_as_long = ap length h.codes_are ∙ length-placed points (difference_codes order (scaled_numbers points)) (length-codes order (scaled_numbers points))

  pub few_reserved : k ≤ 2
  few_reserved = subst (λ (j : ℕ). j ≤ 2) (sym h.management) (management-few points)

  pub values_small : (nat_abs d.first < 2 ^ 31) × (nat_abs d.second < 2 ^ 31) × (nat_abs d.minimum < 2 ^ 31)
  values_small =
      subst (λ (e : Descriptors). (nat_abs e.first < 2 ^ 31) × (nat_abs e.second < 2 ^ 31) × (nat_abs e.minimum < 2 ^ 31)) (sym h.told)
      (small_values order k (scaled_numbers points) h.fit)
