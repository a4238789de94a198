-- Section 1, the identification section (WMO-No. 306, Volume I.2, FM 92 GRIB edition 2).
use Rattle.std.specs.Prelude.{◌≡◌, ℕ, List, [], ◌∷◌, ◌++◌, length, nat_lt}
use Rattle.grib_bits.specs.Octets.{octets}
use Rattle.grib_bits.specs.Encoding.{octets_of}
use Rattle.grib2_sections.specs.declared.identification.Identification.{Identification}
use Rattle.grib_base.specs.declared.fault.Reason.TheVariants.{SectionLength}
use Rattle.grib_base.specs.Rules.{Rule, rule}

-- rule S1.1
abbrev pub identification_rules : List ℕ → List Rule
identification_rules s = rule (nat_lt (length s) 21) 1 SectionLength (length s)  -- S1.1
    ∷ []

-- the value has the numbers of the section
pub record Spelled (value : Identification) (s : List ℕ) : Type 0 where
  pub centre : value.centre ≡ octets s 6 7
  pub sub_centre : value.sub_centre ≡ octets s 8 9
  pub master : value.master ≡ octets s 10 10
  pub local : value.local ≡ octets s 11 11
  pub significance : value.significance ≡ octets s 12 12
  pub year : value.year ≡ octets s 13 14
  pub month : value.month ≡ octets s 15 15
  pub day : value.day ≡ octets s 16 16
  pub hour : value.hour ≡ octets s 17 17
  pub minute : value.minute ≡ octets s 18 18
  pub second : value.second ≡ octets s 19 19
  pub status : value.status ≡ octets s 20 20
  pub data_type : value.data_type ≡ octets s 21 21

-- the section of a value, of 21 octets
abbrev pub section_of_identification : Identification → List ℕ
section_of_identification value =
    octets_of 4 21 ++ octets_of 1 1 ++ octets_of 2 value.centre ++ octets_of 2 value.sub_centre
    ++ octets_of 1 value.master ++ octets_of 1 value.local ++ octets_of 1 value.significance
    ++ octets_of 2 value.year ++ octets_of 1 value.month ++ octets_of 1 value.day ++ octets_of 1 value.hour
    ++ octets_of 1 value.minute ++ octets_of 1 value.second ++ octets_of 1 value.status
    ++ octets_of 1 value.data_type
