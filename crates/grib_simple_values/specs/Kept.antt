-- What is seen of values as these come, before they are packed simply.
use Rattle.std.specs.Prelude.{◌≡◌, ℕ, ◌+◌, ◌-◌, ◌^◌, ◌<◌, cond, max, nat_abs, int_lt, pos, List, [], ◌∷◌, ◌++◌, length, map}
use Rattle.std.proofs.Common.{ap, ◌∙◌, arith}
use Rattle.std.proofs.lemmas.List.{length-append, map-append}
use Rattle.std.proofs.lemmas.List.Elements.{filter_map-append}
use Rattle.grib_packing.specs.declared.column.Point.{Point}
use Rattle.grib_packing.specs.declared.column.Point.TheVariants.{Scaled, Missing, Missing2}
use Rattle.grib_packing.specs.Groupings.{greatest}
use Rattle.grib_packing.specs.Misfits.{scaled_of, scaled_numbers}
use Rattle.grib_packing.specs.Packed.{simple_numbers}
use Rattle.grib_simple_values.specs.declared.seen.Seen.{Seen}

-- The number of a point, 0 where it is missing. One that has no place in simple packing counts as one of 64 bits.
abbrev pub reach_of : Point → ℕ
reach_of (Scaled x) = cond (int_lt x (pos 0)) (2 ^ 64 - 1) (nat_abs x)
reach_of Missing = 0
reach_of Missing2 = 2 ^ 64 - 1

-- the greatest number of these points, and how many of them have one
pub record IsSeen (points : List Point) (seen : Seen) : Type 0 where
  pub greatest_is : seen.greatest ≡ greatest (map reach_of points)
  pub present_is : length points < 2 ^ 32 → seen.present ≡ length (simple_numbers points)

-- the greatest of the points that came, and how many of them have a number
pub record SeenKept (before : Seen) (added : List Point) (after : Seen) : Type 0 where
  pub reach : after.greatest ≡ max before.greatest (greatest (map reach_of added))
  pub counted : before.present + length (simple_numbers added) < 2 ^ 32 → after.present ≡ before.present + length (simple_numbers added)

pub seen-none : (keeper : Seen) → SeenKept keeper [] keeper
seen-none keeper = record {
  reach = omega arith;
  counted = λ few. omega arith;
}

-- the greatest of both parts
pub greatest-append : (xs ys : List ℕ) → greatest (xs ++ ys) ≡ max (greatest xs) (greatest ys)
greatest-append [] ys = omega arith
greatest-append (x ∷ xs) ys = omega (arith, greatest-append xs ys)

-- the numbers of both parts
pub numbers-append : (points more_points : List Point) → simple_numbers (points ++ more_points) ≡ simple_numbers points ++ simple_numbers more_points
numbers-append points more_points =
    ap (map nat_abs) (filter_map-append scaled_of points more_points) ∙ map-append nat_abs (scaled_numbers points) (scaled_numbers more_points)

pub seen-more : (before between after : Seen) (points more_points : List Point) → SeenKept before points between → SeenKept between more_points after
    → SeenKept before (points ++ more_points) after
seen-more before between after points more_points first second =
    let both : greatest (map reach_of (points ++ more_points)) ≡ max (greatest (map reach_of points)) (greatest (map reach_of more_points)) =
    ap greatest (map-append reach_of points more_points) ∙ greatest-append (map reach_of points) (map reach_of more_points) in
    let long = ap length (numbers-append points more_points) ∙ length-append (simple_numbers points) (simple_numbers more_points) in
    record {
      reach = omega (arith, first.reach, second.reach, both);
      counted = λ few.
          let here = first.counted (omega (arith, few, long)) in
          let rest = second.counted (omega (arith, few, long, here)) in
          omega (arith, here, rest, long);
    }
