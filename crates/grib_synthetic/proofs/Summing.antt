-- Lemmas on what is summed up of points.
use Rattle.std.proofs.Common.{◌≡◌, ℕ, ◌+◌, List, [], ◌∷◌, ◌++◌, length, map, sum, ℤ, nat_abs, ap, ◌∙◌, arith, ◌⊎◌, inl, inr}
use Rattle.std.proofs.lemmas.List.{length-append, map-append}
use Rattle.std.proofs.lemmas.List.Sums.{sum_by-append}
use Rattle.std.proofs.lemmas.List.Elements.{filter_map-append}
use Rattle.grib_packing.specs.declared.column.Point.{Point}
use Rattle.grib_packing.specs.declared.column.Point.TheVariants.{Scaled, Missing, Missing2}
use Rattle.grib_packing.specs.Misfits.{scaled_of, scaled_numbers}
use Rattle.grib_packing.specs.Packed.{simple_numbers}
use Rattle.grib_synthetic.specs.declared.summary.Summary.{Summary}
use Rattle.grib_synthetic.specs.Summary.{SumsUp, present_count, present_sum}

-- the numbers of points and of one point more
numbers-more : (points : List Point) (point : Point) → simple_numbers (points ++ point ∷ []) ≡ simple_numbers points ++ simple_numbers (point ∷ [])
numbers-more points point =
    ap (map nat_abs) (filter_map-append scaled_of points (point ∷ [])) ∙ map-append nat_abs (scaled_numbers points) (scaled_numbers (point ∷ []))

count-more : (points : List Point) (point : Point) → present_count (points ++ point ∷ []) ≡ present_count points + present_count (point ∷ [])
count-more points point = ap length (numbers-more points point) ∙ length-append (simple_numbers points) (simple_numbers (point ∷ []))

sum-more : (points : List Point) (point : Point) → present_sum (points ++ point ∷ []) ≡ present_sum points + present_sum (point ∷ [])
sum-more points point = ap sum (numbers-more points point) ∙ sum_by-append (λ (x : ℕ). x) (simple_numbers points) (simple_numbers (point ∷ []))

-- one point more
pub sums-more : (before now : Summary) (points : List Point) (point : Point) → SumsUp before points
    → now.present ≡ before.present + present_count (point ∷ []) → now.sum ≡ before.sum + present_sum (point ∷ []) → SumsUp now (points ++ point ∷ [])
sums-more before now points point so_far present summed = record {
  present_stands = omega (arith, so_far.present_stands, present, count-more points point);
  sum_stands = omega (arith, so_far.sum_stands, summed, sum-more points point);
}

-- a point with a number, and one without
pub one_number : (point : Point) (x : ℤ) → point ≡ Scaled x → (present_count (point ∷ []) ≡ 1) × (present_sum (point ∷ []) ≡ nat_abs x)
one_number point x is =
    let number : present_sum (point ∷ []) ≡ 0 + nat_abs x = ap (λ (p : Point). present_sum (p ∷ [])) is in
    (ap (λ (p : Point). present_count (p ∷ [])) is, omega (arith, number))

pub no_number : (point : Point) → (point ≡ Missing) ⊎ (point ≡ Missing2) → (present_count (point ∷ []) ≡ 0) × (present_sum (point ∷ []) ≡ 0)
no_number point (inl is) = (ap (λ (p : Point). present_count (p ∷ [])) is, ap (λ (p : Point). present_sum (p ∷ [])) is)
no_number point (inr is) = (ap (λ (p : Point). present_count (p ∷ [])) is, ap (λ (p : Point). present_sum (p ∷ [])) is)
