-- The plain message in CCSDS packing.
use Rattle.std.specs.Prelude.{ℕ, List}
use Rattle.grib_examples.specs.Hex.{hex, put}

-- four numbers of 8 bits, in blocks of 8 with a reference each 128 blocks
abbrev pub coded_numbers : List ℕ
coded_numbers = hex "00000019 05 00000004 002A C2ED4000 8003 0001 08 00 0E 08 0080"

-- 0, 1, 2 and 255 as one block of Split with k = 5
abbrev pub coded_values : List ℕ
coded_values = hex "0000000D 07 C0180F845F000000"

-- four numbers of 4 bits, in blocks of 8 with a reference each 2 blocks
abbrev pub four_bits : List ℕ
four_bits = put (put coded_numbers 20 (hex "04")) 24 (hex "0002")
