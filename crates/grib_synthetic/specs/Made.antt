-- The message that is made from a number (WMO-No. 306, Volume I.2, FM 92 GRIB edition 2, templates 3.0,
-- 4.0 and 5.0). Which message is made is a choice of ours.
use Rattle.std.specs.Prelude.{ℕ, ◌+◌, ◌*◌, ◌^◌, ◌<◌, ◌≤◌, List, [], ◌∷◌, ◌++◌, length}
use Rattle.std.specs.List.{concat}
use Rattle.grib_bits.specs.Encoding.{octets_of}
use Rattle.grib2_sections.specs.Head.{indicator, end_mark}
use Rattle.grib_packing.specs.Misfits.{ToSimple}
use Rattle.grib_packing.specs.declared.written.Packed.{Packed}
use Rattle.grib_packed.specs.Written.{packed}
use Rattle.grib_synthetic.specs.Points.{made_column}

-- Section 0, with this total length: edition 2, discipline 0
abbrev pub made_indicator : ℕ → List ℕ
made_indicator total = indicator ++ octets_of 4 0x0000_00_02 ++ octets_of 8 total

-- Section 1: centre 98, forecast products of 2024-01-15 12:00:00
abbrev pub made_identification : List ℕ
made_identification = octets_of 21 0x00000015_01_0062_0000_02_00_01_07E8_01_0F_0C_00_00_00_01

-- Section 3, template 3.0: nj rows of ni points, from 90 N 0 E to 90 S 359 E, increments not given
abbrev pub made_grid : ℕ → ℕ → List ℕ
made_grid ni nj =
    octets_of 6 0x00000048_03_00 ++ octets_of 4 (ni * nj)
    ++ octets_of 20 0x00_00_0000_06_FF_FFFFFFFF_FF_FFFFFFFF_FF_FFFFFFFF ++ octets_of 4 ni ++ octets_of 4 nj
    ++ octets_of 34 0x00000000_FFFFFFFF_055D4A80_00000000_00_855D4A80_1565E7C0_FFFFFFFF_FFFFFFFF_00

-- Section 4, template 4.0: temperature, 6 hours ahead, 2 m above ground
abbrev pub made_product : List ℕ
made_product = octets_of 34 0x00000022_04_0000_0000_00_00_02_FF_01_0000_00_01_00000006_67_00_00000002_FF_FF_FFFFFFFF

-- the sections after Section 0, with Sections 5, 6 and 7 of a packing
abbrev pub sections_with : ℕ → ℕ → Packed → List (List ℕ)
sections_with ni nj parts =
    made_identification ∷ made_grid ni nj ∷ made_product ∷ parts.section5 ∷ parts.section6 ∷ parts.section7 ∷ []

-- the message of these sections; its total length counts Section 0 and the end mark too
abbrev pub message_with : ℕ → ℕ → Packed → List ℕ
message_with ni nj parts =
    let rest = concat (sections_with ni nj parts) in
    made_indicator (16 + length rest + 4) ++ rest ++ end_mark

-- with the made field in simple packing
unfoldable pub made : ℕ → ℕ → ℕ → List ℕ
made seed ni nj = message_with ni nj (packed ToSimple (made_column seed ni nj) 0)

-- what a message may be made from
pub record MayBeMade (seed ni nj : ℕ) : Type 0 where
  pub seed_fits : seed < 2 ^ 31
  pub some_columns : 1 ≤ ni
  pub few_columns : ni ≤ 4096
  pub some_rows : 1 ≤ nj
  pub few_rows : nj ≤ 4096
