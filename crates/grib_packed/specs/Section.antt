-- A section by its number and the bits after its octet 5.
use Rattle.std.specs.Prelude.{ℕ, ◌/◌, Bool, List, length}
use Rattle.grib_bits.specs.Plain.{plain}
use Rattle.grib_bits.specs.Encoding.{section_of}
use Rattle.grib_packing.specs.Packed.{padded}

-- the octets of some bits, which zeros fill up to a whole octet: the numbers of 8 bits each
abbrev pub octets_with : List Bool → List ℕ
octets_with contents = plain (padded contents) 8 (length (padded contents) / 8)

-- the section with this number and these contents: its length, its number, and the octets of the contents
abbrev pub section_with : ℕ → List Bool → List ℕ
section_with number contents = section_of number (octets_with contents)
