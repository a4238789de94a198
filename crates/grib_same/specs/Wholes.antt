-- Whole numbers of any length by their digits to base 2 ^ 32, the least one first, and what stands above them.
use Rattle.std.specs.Prelude.{ℕ, ◌^◌, List, [], ◌∷◌, ℤ, pos, ◌+ℤ◌, ◌*ℤ◌}
use Rattle.grib_same.specs.declared.whole.Whole.{Whole}

abbrev pub number_of : List ℕ → ℤ → ℤ
number_of [] top = top
number_of (digit ∷ digits) top = pos digit +ℤ (pos (2 ^ 32) *ℤ number_of digits top)

abbrev pub value : Whole → ℤ
value whole = number_of whole.digits.items whole.top
