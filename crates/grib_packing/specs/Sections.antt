-- The numbers of Section 5 as they are written (WMO-No. 306, Volume I.2, FM 92 GRIB edition 2, data representation
-- templates 5.0, 5.2 and 5.3).
use Rattle.std.specs.Prelude.{ℕ, List, ◌++◌}
use Rattle.grib_bits.specs.Encoding.{octets_of}
use Rattle.grib_packing.specs.declared.column.Column.{Column}

abbrev pub Octets : Type 0
Octets = List ℕ

-- octets 6 to 21 of a Section 5
abbrev pub number_octets : Column → ℕ → ℕ → ℕ → ℕ → List ℕ
number_octets column values template bit_width kind =
    octets_of 4 values ++ octets_of 2 template ++ octets_of 4 column.reference ++ octets_of 2 column.e
    ++ octets_of 2 column.d ++ octets_of 1 bit_width ++ octets_of 1 kind
