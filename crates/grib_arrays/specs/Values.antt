-- The octets of values: those of the word whose number is nearest to the exact value, ties to even, the least octet first. A
-- point that is missing has the octets of a quiet NaN.
use Rattle.std.specs.Prelude.{ℕ, ℤ, List}
use Rattle.std.specs.Int.{is_negative, w32, w64, to_le_bytes}
use Rattle.grib_dyadic.specs.Reference.{Binary}
use Rattle.grib_dyadic.specs.Value.{Exact, value_of}
use Rattle.grib_packing.specs.declared.column.Point.{Point}
use Rattle.grib_packing.specs.declared.column.Point.TheVariants.{Scaled, Missing, Missing2}
use Rattle.grib_decimal.specs.Decimal.{numerator, denominator}
use Rattle.grib_nearest.specs.declared.format.Format.{Format}
use Rattle.grib_nearest.specs.declared.format.Format.TheVariants.{Binary32, Binary64}
use Rattle.grib_nearest.specs.Formats.{format_of}
use Rattle.grib_nearest.specs.Nearest.{nearest_word}
use Rattle.grib_nearest.specs.Values.{signed_word}

abbrev pub value_word : Format → Exact → ℕ
value_word f v = signed_word (format_of f) (is_negative v.number) (nearest_word (format_of f) (numerator v 0) (denominator v 0))

-- all bits of the exponent field, and the first of the fraction
abbrev pub nan_word : Format → ℕ
nan_word Binary32 = 0x7fc0_0000
nan_word Binary64 = 0x7ff8_0000_0000_0000

abbrev pub word_octets : Format → ℕ → List ℕ
word_octets Binary32 word = to_le_bytes w32 word
word_octets Binary64 word = to_le_bytes w64 word

-- of a point of a field with the reference value R and the scale factors E and D
abbrev pub point_word : Format → Binary → ℤ → ℤ → Point → ℕ
point_word f r e d (Scaled x) = value_word f (value_of r e d x)
point_word f r e d Missing = nan_word f
point_word f r e d Missing2 = nan_word f

abbrev pub point_octets : Format → Binary → ℤ → ℤ → Point → List ℕ
point_octets f r e d point = word_octets f (point_word f r e d point)
