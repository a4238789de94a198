-- Section 5 of complex packing as it is written (WMO-No. 306, Volume I.2, FM 92 GRIB edition 2, data
-- representation templates 5.2 and 5.3).
use Rattle.std.specs.Prelude.{◌≡◌, ℕ, List, ◌++◌}
use Rattle.grib_bits.specs.Octets.{octets}
use Rattle.grib_bits.specs.Encoding.{octets_of}
use Rattle.grib_packing.specs.declared.layout.Layout.{Layout}
use Rattle.grib_packing.specs.Complex.{layout_of}

-- octets 22 to 47
abbrev pub layout_octets : Layout → List ℕ
layout_octets layout =
    octets_of 1 1 ++ octets_of 1 layout.management ++ octets_of 4 4294967295 ++ octets_of 4 4294967295 ++ octets_of 4 layout.groups
    ++ octets_of 1 layout.width_reference ++ octets_of 1 layout.width_bits ++ octets_of 4 layout.length_reference ++ octets_of 1 layout.length_increment
    ++ octets_of 4 layout.last_length ++ octets_of 1 layout.length_bits

-- a section with general group splitting, no substitutes and this layout
pub record HasLayoutOf (s : List ℕ) (layout : Layout) : Type 0 where
  pub splitting : octets s 22 22 ≡ 1
  pub primary : octets s 24 27 ≡ 4294967295
  pub secondary : octets s 28 31 ≡ 4294967295
  pub laid_out : layout_of s ≡ layout
