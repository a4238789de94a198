-- The numbers of Section 5 in templates 5.2 and 5.3 (WMO-No. 306, Volume I.2, FM 92 GRIB edition 2).
use Rattle.std.specs.Prelude.{◌≡◌, ℕ, List}
use Rattle.grib_bits.specs.Octets.{octets}
use Rattle.grib_packing.specs.Complex.{layout_of, difference_order, extra_octets}
use Rattle.grib_packing.specs.Representation as simple
use Rattle.grib_complex_reading.specs.declared.representation.Complex.{Complex}

-- the value has the numbers of the section
pub record Spelled (value : Complex) (s : List ℕ) : Type 0 where
  pub simple : simple.Spelled value.simple s
  pub split : value.split ≡ octets s 22 22
  pub primary : value.primary ≡ octets s 24 27
  pub secondary : value.secondary ≡ octets s 28 31
  pub layout : value.layout ≡ layout_of s
  pub order : value.order ≡ difference_order s
  pub extra : value.extra ≡ extra_octets s
