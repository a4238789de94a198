-- Numbers of one width.
use Rattle.std.proofs.Common.{ℕ, ◌*◌, ◌^◌, ◌<◌, pos, Bool, List, [], ◌∷◌, drop, map, All}
use Rattle.std.specs.List.{range_with_len}
use Rattle.std.proofs.lemmas.List.Elements.{All-nil, All-cons}
use Rattle.grib_bits.specs.Plain.{plain, plain_at}
use Rattle.grib_bits.proofs.WordNumbers.{number-lt}
use Rattle.grib_packing.specs.declared.column.Point.{Point}
use Rattle.grib_packing.specs.declared.column.Point.TheVariants.{Scaled}

-- the point of a packed number
abbrev pub plain_point : ℕ → Point
plain_point x = Scaled (pos x)

each_below : (bs : List Bool) (w : ℕ) (places : List ℕ) → All (λ n. n < 2 ^ w) (map (plain_at bs w) places)
each_below bs w [] = All-nil (λ n. n < 2 ^ w)
each_below bs w (k ∷ ks) = All-cons (λ n. n < 2 ^ w) (plain_at bs w k) (map (plain_at bs w) ks) (number-lt w (drop (k * w) bs)) (each_below bs w ks)

pub plain_below : (bs : List Bool) (w n : ℕ) → All (λ n. n < 2 ^ w) (plain bs w n)
plain_below bs w n = each_below bs w (range_with_len 0 n)
