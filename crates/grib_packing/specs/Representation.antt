-- The numbers of Section 5 that all packings share (WMO-No. 306, Volume I.2, FM 92 GRIB edition 2, data
-- representation templates 5.0, 5.2 and 5.3), and those that stand in every template (Section 5).
use Rattle.std.specs.Prelude.{◌≡◌, ℕ, List}
use Rattle.grib_bits.specs.Octets.{octets}
use Rattle.grib_packing.specs.declared.opaque.Opaque.{Opaque}
use Rattle.grib_packing.specs.declared.representation.Simple.{Simple}

-- the value has the numbers of the section
pub record Spelled (value : Simple) (s : List ℕ) : Type 0 where
  pub values : value.values ≡ octets s 6 9
  pub template : value.template ≡ octets s 10 11
  pub reference : value.reference ≡ octets s 12 15
  pub e : value.e ≡ octets s 16 17
  pub d : value.d ≡ octets s 18 19
  pub bits : value.bits ≡ octets s 20 20
  pub kind : value.kind ≡ octets s 21 21

-- the value has the numbers of the section that stand in every template
pub record SpelledOpaque (value : Opaque) (s : List ℕ) : Type 0 where
  pub values : value.values ≡ octets s 6 9
  pub template : value.template ≡ octets s 10 11
