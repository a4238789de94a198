-- The reference value of a field of an accepted message is finite.
use Rattle.std.proofs.Common.{◌≡◌, ◌≢◌, ℕ, ◌<◌, List, sym, ◌∙◌, subst, arith}
use Rattle.std.proofs.lemmas.Bool.{false≢true, eq-eqb}
use Rattle.grib_bits.specs.Binary32.{ieee_exponent}
use Rattle.grib_packing.specs.declared.column.Column.{Column}
use Rattle.grib_packing.specs.Packing.{reference_word}
use Rattle.grib_packing.proofs.Packings.{packing_passes}
use Rattle.grib2_grids.specs.Grid.{grid_points}
use Rattle.grib2_message.specs.Fields.{part_octets, column_of}
use Rattle.grib2_message.specs.Message.{FieldReads}

finite_word : (m : List ℕ) (i : ℕ) → FieldReads m i → ieee_exponent (reference_word (part_octets m i 5)) < 255
finite_word m i passes =
    let octets = part_octets m i 5 in
    let packing = packing_passes octets (grid_points (part_octets m i 3)) passes.packing in
    let other : ieee_exponent (reference_word octets) ≢ 255 = λ e. false≢true (sym packing.finite ∙ eq-eqb (ieee_exponent (reference_word octets)) 255 e) in
    let bound : ieee_exponent (reference_word octets) < 256 = omega arith in
    omega arith

pub finite_column : (m : List ℕ) (i : ℕ) (column : Column) → FieldReads m i → column ≡ column_of m i → ieee_exponent column.reference < 255
finite_column m i column passes is = subst (λ x. ieee_exponent x.reference < 255) (sym is) (finite_word m i passes)

pub finite_reference : (m : List ℕ) (i word : ℕ) → FieldReads m i → word ≡ (column_of m i).reference → ieee_exponent word < 255
finite_reference m i word passes is = subst (λ w. ieee_exponent w < 255) (sym is) (finite_word m i passes)
