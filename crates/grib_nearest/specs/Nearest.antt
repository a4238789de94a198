-- The word of a binary format whose number is nearest to an exact number (IEEE 754-2019, sections 3.4 and 4.3.1, roundTiesToEven).
-- A significand of the format has `prec` digits and the greatest exponent is `emax`: 53 and 1023 for binary64, 24 and 127 for
-- binary32. With `low` = emax + prec - 2, the least number above 0 is 2 ^ -low.
use Rattle.std.specs.Prelude.{◌≡◌, ◌≢◌, ℕ, ◌+◌, ◌-◌, ◌*◌, ◌/◌, ◌%◌, ◌^◌, ◌≤◌, ◌==◌, cond, min}
use Rattle.std.specs.Float.Ieee.{Format, prec, emax, low, size}
use Rattle.grib_decimal.specs.Rounding.{nearest}

-- A word without its sign has the exponent field and, below it, the prec - 1 digits of the fraction: what a 1 in the field counts.
abbrev pub field_unit : Format → ℕ
field_unit f = 2 ^ (prec f - 1)

-- the word of infinity: all bits of the exponent field, no fraction
abbrev pub infinity : Format → ℕ
infinity f = (2 * emax f + 1) * field_unit f

-- What a word stands for, in units of the least number above 0: its fraction where the exponent field is 0, else the fraction with a
-- 1 before it, times 2 ^ (field - 1). Infinity stands where the numbers would go on, at 2 ^ (emax + 1), so that the bound from which
-- numbers are rounded to it is the number halfway to there.
abbrev pub units_of : Format → ℕ → ℕ
units_of f word =
    let field = word / field_unit f in
    let fraction = word % field_unit f in
    cond (field == 0) fraction ((field_unit f + fraction) * 2 ^ (field - 1))

-- how far a word's number is from n / d, in units of the least number above 0, times d
abbrev pub distance : Format → ℕ → ℕ → ℕ → ℕ
distance f n d word =
    let exact = n * 2 ^ low f in
    let number = units_of f word * d in
    (exact - number) + (number - exact)

-- No word's number is nearer to n / d, and where another is as near, the last digit of this one is 0.
pub record IsNearest (f : Format) (n d word : ℕ) : Type 0 where
  pub within : word ≤ infinity f
  pub nearest : (other : ℕ) → other ≤ infinity f → distance f n d word ≤ distance f n d other
  pub even : (other : ℕ) → other ≤ infinity f → distance f n d other ≡ distance f n d word → other ≢ word → word % 2 ≡ 0

-- The word: of the number n / d in units of the least number, all binary digits but the first `prec` are dropped, and what is kept is
-- rounded, half to even. The exponent field counts the dropped digits and takes the first digit in, and where rounding gives a digit more.
unfoldable pub nearest_word : Format → ℕ → ℕ → ℕ
nearest_word f n d =
    let exact = n * 2 ^ low f in
    let dropped = size (exact / d) - prec f in
    min (dropped * field_unit f + nearest exact (d * 2 ^ dropped)) (infinity f)
