-- Values that are missing, which have no number.
use Rattle.std.proofs.Common.{◌≢◌, [], ◌∷◌, ℤ, refl}
use Rattle.std.proofs.lemmas.List.{append-nil}
use Rattle.grib_packing.specs.declared.column.Point.{Point}
use Rattle.grib_packing.specs.declared.column.Point.TheVariants.{Scaled, Missing, Missing2}
use Rattle.grib_simple_values.specs.declared.numbers.NumberWriter.{NumberWriter}
use Rattle.grib_simple_values.specs.Written.{NumbersKept}

-- nothing is written for one of them
pub skipped : (writer : NumberWriter) (point : Point) → ((x : ℤ) → point ≢ Scaled x) → NumbersKept writer (point ∷ []) writer
skipped writer (Scaled x) other = absurd (other x refl)
skipped writer Missing other = record { keeps = λ count most numbers room small has. rw (append-nil numbers) has }
skipped writer Missing2 other = record { keeps = λ count most numbers room small has. rw (append-nil numbers) has }
