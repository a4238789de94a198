-- Sections 3 and 4 of edition 1 (WMO-No. 306, Volume I.2, FM 92 GRIB): the bitmap and the numbers of a column in
-- simple packing, by the Sections 5, 6 and 7 that template 5.0 of edition 2 has for it.
use Rattle.std.specs.Prelude.{ℕ, ◌+◌, ◌-◌, ◌*◌, ◌%◌, Bool, not, cond, List, [], ◌∷◌, ◌++◌, drop, length, unwrap_or, ◌==◌}
use Rattle.grib_bits.specs.Bits.{digit}
use Rattle.grib_bits.specs.Octets.{octets}
use Rattle.grib_packing.specs.Packing.{value_count, reference_word, binary_scale, bit_width}
use Rattle.grib_packing.specs.declared.written.Packed.{Packed}
use Rattle.grib_bits.specs.declared.adding.Number.{Number}
use Rattle.grib_bits.specs.declared.adding.Number.TheVariants.{One, Two, Four}
use Rattle.grib_bits.specs.Encoding.{all_octets, section1_of}
use Rattle.grib_demote.specs.Words.{ibm_of}

-- how many bits fill a section of this many bits up to an even number of octets
abbrev pub padding : ℕ → ℕ
padding bits = (16 - bits % 16) % 16

-- the contents of a section of an even number of octets: a zero is added to an even number of octets, since
-- the length has three
abbrev pub evened : List ℕ → List ℕ
evened contents = contents ++ cond (length contents % 2 == 0) (0 ∷ []) []

-- a point is missing: Section 6 has bits of its own
abbrev pub has_bitmap : Packed → Bool
has_bitmap packed = not (octets packed.section6 6 6 == 255)

-- octets 4-6 of Section 3, for this number of points
abbrev pub bitmap_numbers : ℕ → List Number
bitmap_numbers points = One (padding (48 + points)) ∷ Two 0 ∷ []

-- octet 4 and further: a bit for each point, in an even number of octets
abbrev pub bitmap_octets : Packed → ℕ → List ℕ
bitmap_octets packed points = evened (all_octets (bitmap_numbers points) ++ drop 6 packed.section6)

abbrev pub bitmap_section : Packed → ℕ → List ℕ
bitmap_section packed points = cond (has_bitmap packed) (section1_of (bitmap_octets packed points)) []

-- octets 4-11 of Section 4, of a field with this Section 5: the flags, bit 3 the original values were integers,
-- and the bits of padding
abbrev pub packing_numbers : List ℕ → Packed → List Number
packing_numbers s5 packed =
    let values = value_count packed.section5 in
    let width = bit_width packed.section5 in
    One (32 * digit (octets s5 21 21 == 1) + padding (88 + values * width))  -- 4
    ∷ Two (binary_scale s5)  -- 5-6
    ∷ Four (unwrap_or (ibm_of (reference_word s5)) 0)  -- 7-10
    ∷ One width  -- 11
    ∷ []

-- octet 4 and further: the numbers of the points that are there, in an even number of octets
abbrev pub data_octets : List ℕ → Packed → List ℕ
data_octets s5 packed = evened (all_octets (packing_numbers s5 packed) ++ drop 5 packed.section7)

abbrev pub data_section : List ℕ → Packed → List ℕ
data_section s5 packed = section1_of (data_octets s5 packed)
