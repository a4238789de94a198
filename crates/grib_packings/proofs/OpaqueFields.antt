-- Lemmas on what Section 5 says of a field, where its packing may be opaque.
use Rattle.std.proofs.Common.{◌≡◌, ℕ, true, false, List, None, refl, sym, ◌∙◌}
use Rattle.grib_packing.specs.Entries.{is_opaque_packing, packing_fault}
use Rattle.grib_packing.specs.declared.opaque.Opaque as shared
use Rattle.grib_packing.proofs.OpaquePackings.{accepted_known}
use Rattle.grib_packings.specs.declared.data_representation.DataRepresentation.{DataRepresentation}
use Rattle.grib_packings.specs.declared.data_representation.DataRepresentation.TheVariants.{Read, Opaque}
use Rattle.grib_packings.specs.declared.representation.Representation.{Representation}
use Rattle.grib_packings.specs.Field.{IsDataOf, Represents}

-- a Section 5 whose values can be read has no opaque packing
pub represented_known : (representation : Representation) (s5 : List ℕ) → Represents representation s5 → is_opaque_packing s5 ≡ false
represented_known representation s5 represents = accepted_known s5 represents.points represents.accepted

-- what is said of an accepted Section 5 is not that its packing is opaque
pub never_opaque : (opaque : shared.Opaque) (s5 : List ℕ) (points : ℕ) → IsDataOf (Opaque opaque) s5 → packing_fault s5 points ≡ None → ⊥
never_opaque opaque s5 points is none = let e : true ≡ false = sym is.0 ∙ accepted_known s5 points none in cc

-- so it gives the values
pub record IsRead (field : DataRepresentation) (s5 : List ℕ) : Type 0 where
  pub representation : Representation
  pub is : field ≡ Read representation
  pub represents : Represents representation s5

pub read_from_known : (field : DataRepresentation) (s5 : List ℕ) → IsDataOf field s5 → is_opaque_packing s5 ≡ false → IsRead field s5
read_from_known (Read representation) s5 is known = record { representation = representation; is = refl; represents = is }
read_from_known (Opaque opaque) s5 is known = let e : true ≡ false = sym is.0 ∙ known in cc

pub read_from_accepted : (field : DataRepresentation) (s5 : List ℕ) (points : ℕ) → IsDataOf field s5 → packing_fault s5 points ≡ None → IsRead field s5
read_from_accepted field s5 points is none = read_from_known field s5 is (accepted_known s5 points none)
