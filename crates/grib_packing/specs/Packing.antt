-- Section 5, the data representation section (WMO-No. 306, Volume I.2, FM 92 GRIB edition 2, data
-- representation templates 5.0, 5.2, 5.3 and 5.42): what all of them share.
use Rattle.std.specs.Prelude.{ℕ, cond, List, ◌==◌}
use Rattle.grib_bits.specs.Octets.{octets}
use Rattle.grib_base.specs.declared.fault.Reason.{Reason}
use Rattle.grib_base.specs.declared.fault.Reason.TheVariants.{PackingTemplate, Jpeg2000, PngPacked, Ccsds}

-- The numbers of Section 5, by their octets.
abbrev pub value_count : List ℕ → ℕ
value_count s = octets s 6 9

abbrev pub packing_template : List ℕ → ℕ
packing_template s = octets s 10 11

-- the word of the reference value R
abbrev pub reference_word : List ℕ → ℕ
reference_word s = octets s 12 15

-- the raw octets of the binary scale factor E and of the decimal scale factor D
abbrev pub binary_scale : List ℕ → ℕ
binary_scale s = octets s 16 17

abbrev pub decimal_scale : List ℕ → ℕ
decimal_scale s = octets s 18 19

-- the bits of each packed number, or of each group reference
abbrev pub bit_width : List ℕ → ℕ
bit_width s = octets s 20 20

-- why a template that is not of a profile is refused
abbrev pub template_reason : ℕ → Reason
template_reason t = cond (t == 40) Jpeg2000 (cond (t == 41) PngPacked (cond (t == 42) Ccsds PackingTemplate))
