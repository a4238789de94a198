-- Lemmas on a Section 5 of simple packing.
use Rattle.std.proofs.Common.{◌≡◌, ℕ, None, List}
use Rattle.grib_base.specs.Rules.{first_fault, first_fault_at}
use Rattle.grib_base.proofs.Passing.{none-located}
use Rattle.grib_packing.specs.declared.column.Column.{Column}
use Rattle.grib_packing.specs.declared.column.Point.{Point}
use Rattle.grib_packing.specs.Packing.{packing_template, reference_word, binary_scale, decimal_scale}
use Rattle.grib_packing.specs.Column.{column_with}
use Rattle.grib_packing.specs.Entries.{packing_rules, packing_fault}
use Rattle.grib_packing.proofs.Packings.{packing_fault-simple}

-- a column by its parts
pub same_column : (s5 : List ℕ) (reference e d : ℕ) (points expected : List Point) → reference ≡ reference_word s5 → e ≡ binary_scale s5 → d ≡ decimal_scale s5 → points ≡ expected
    → ◌≡◌ {A = Column} (record { reference = reference; e = e; d = d; points = points }) (column_with s5 expected)
same_column s5 reference e d points expected is_reference is_e is_d is_points =
    λ i. record { reference = is_reference i; e = is_e i; d = is_d i; points = is_points i }

-- A Section 5 of template 5.0 that passes the rules of all templates is accepted.
pub accepted-simple : (start : ℕ) (s : List ℕ) (points : ℕ) → first_fault_at start (packing_rules s points) ≡ None → packing_template s ≡ 0 → packing_fault s points ≡ None
accepted-simple start s points passes template =
    packing_fault-simple s points (none-located start (first_fault (packing_rules s points)) passes) template
