-- What Section 5 says of a field, by its packing (WMO-No. 306, Volume I.2, FM 92 GRIB edition 2, data representation
-- templates 5.0, 5.2, 5.3 and 5.42).
use Rattle.std.specs.Prelude.{◌≡◌, ◌≤◌, ◌⊎◌, ℕ, true, None, List}
use Rattle.grib_packing.specs.Entries.{is_opaque_packing, packing_fault}
use Rattle.grib_packing.specs.Packing.{packing_template}
use Rattle.grib_packing.specs.Representation as simple
use Rattle.grib_complex_reading.specs.Representation as complex
use Rattle.grib_block_feeding.specs.Representation as coded
use Rattle.grib_packings.specs.declared.data_representation.DataRepresentation.{DataRepresentation}
use Rattle.grib_packings.specs.declared.data_representation.DataRepresentation.TheVariants.{Read, Opaque}
use Rattle.grib_packings.specs.declared.representation.Representation.{Representation}
use Rattle.grib_packings.specs.declared.representation.Representation.TheVariants.{Simple, Complex, Coded}

-- the numbers of the section, of its template
abbrev pub HasNumbersOf : Representation → List ℕ → Type 0
HasNumbersOf (Simple numbers) s5 = (packing_template s5 ≡ 0) × simple.Spelled numbers s5
HasNumbersOf (Complex numbers) s5 = ((packing_template s5 ≡ 2) ⊎ (packing_template s5 ≡ 3)) × complex.Spelled numbers s5
HasNumbersOf (Coded numbers) s5 = (packing_template s5 ≡ 42) × coded.Spelled numbers s5

-- what this Section 5 says, which no rule of the profile refuses for a grid of this many points
pub record Represents (representation : Representation) (s5 : List ℕ) : Type 0 where
  pub numbers : HasNumbersOf representation s5
  pub points : ℕ
  pub few : points ≤ 33554432
  pub accepted : packing_fault s5 points ≡ None

-- What this Section 5 says of a field: one that no rule of the profile refuses, or one with an opaque packing.
abbrev pub IsDataOf : DataRepresentation → List ℕ → Type 0
IsDataOf (Read representation) s5 = Represents representation s5
IsDataOf (Opaque opaque) s5 = (is_opaque_packing s5 ≡ true) × simple.SpelledOpaque opaque s5
