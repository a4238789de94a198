-- The values of two fields as whole numbers: both times one power of two and one power of ten.
use Rattle.std.specs.Prelude.{◌≡◌, ◌^◌, ◌↔◌, ℤ, pos, ◌+ℤ◌, ◌-ℤ◌, ◌*ℤ◌, ◌≤ℤ◌, nat_abs}
use Rattle.grib_bits.specs.Bits.{bits_of, signed}
use Rattle.grib_dyadic.specs.Reference.{binary, two_to_difference, SameNumber}
use Rattle.grib_dyadic.specs.Value.{Same}
use Rattle.grib_same.specs.declared.scale.ValueScale.{ValueScale}
use Rattle.grib_same.specs.declared.side.Side.{Side}
use Rattle.grib_same.specs.declared.side.Level.{Level}
use Rattle.grib_same.specs.declared.quick.Line.{Line}
use Rattle.grib_same.specs.declared.quick.Quick.{Quick}
use Rattle.grib_same.specs.Scales.{value_by}

-- the numbers of a field, where R is mantissa * 2 ^ exponent
pub record IsSideOf (side : Side) (scale : ValueScale) : Type 0 where
  pub reference : SameNumber scale.reference (binary side.mantissa side.exponent)
  pub e_is : side.e ≡ signed (bits_of 16 scale.e)
  pub d_is : side.d ≡ signed (bits_of 16 scale.d)

-- the value of the point with X is a whole number times 2 ^ binary / 10 ^ decimal, for every X
pub record IsBelow (level : Level) (side : Side) : Type 0 where
  pub reference : level.binary ≤ℤ side.exponent
  pub step : level.binary ≤ℤ side.e
  pub tens : side.d ≤ℤ level.decimal

-- that whole number
abbrev pub whole_at : Side → Level → ℤ → ℤ
whole_at side level x =
    ((side.mantissa *ℤ pos (two_to_difference side.exponent level.binary)) +ℤ (x *ℤ pos (two_to_difference side.e level.binary)))
    *ℤ pos (10 ^ nat_abs (level.decimal -ℤ side.d))

abbrev pub line_at : Line → ℤ → ℤ
line_at line x = line.origin +ℤ (x *ℤ line.stride)

-- the values of two points are the same exactly where the numbers of the two lines are
abbrev pub Decides : Quick → ValueScale → ValueScale → Type 0
Decides quick left right = (x y : ℤ) → (line_at quick.left x ≡ line_at quick.right y) ↔ Same (value_by left x) (value_by right y)
