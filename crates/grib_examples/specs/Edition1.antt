-- Worked messages of edition 1 of docs/WORKED.md, section by section, and two made from G1.
use Rattle.std.specs.Prelude.{ℕ, List, ◌++◌}
use Rattle.grib_examples.specs.Hex.{hex, put}
use Rattle.grib_examples.specs.Messages.{end}

-- Section 0 with a total length
abbrev pub head_1 : List ℕ → List ℕ
head_1 total = hex "47524942" ++ total ++ hex "01"

-- The sections of G1.
abbrev pub identification_1 : List ℕ
identification_1 = hex "00001C 02 62 01 FF 80 0B 64 01F4 18 01 0F 0C 00 01 06 00 00 0000 00 15 00 0001"

abbrev pub grid_1 : List ℕ
grid_1 = hex "000020 00 FF 00 0002 0002 00C350 002710 80 00BF68 002AF8 03E8 03E8 00 00000000"

abbrev pub values_1 : List ℕ
values_1 = hex "000010 08 8003 C276A000 08 000102FF 00"

-- G1, 88 octets: a field of 2 by 2 points
abbrev pub g1 : List ℕ
g1 = head_1 (hex "000058") ++ identification_1 ++ grid_1 ++ values_1 ++ end

-- G1 with numbers of 48 bits, 108 octets
abbrev pub g1_wide : List ℕ
g1_wide =
    head_1 (hex "00006C") ++ identification_1 ++ grid_1 ++ hex "000024 08 8003 C276A000 30"
    ++ hex "000000000000 000000000001 FFFFFFFFFFFF 010000000000 00" ++ end

-- G1 with a bitmap that leaves out its second point, 95 octets
abbrev pub g1_masked : List ℕ
g1_masked = head_1 (hex "00005F") ++ put identification_1 8 (hex "C0") ++ grid_1 ++ hex "000007 04 0000 B0" ++ values_1 ++ end

-- G1 with a reduced grid of rows of one and of three points and one vertical coordinate, 96 octets
abbrev pub g1_reduced : List ℕ
g1_reduced =
    head_1 (hex "000060") ++ identification_1
    ++ hex "000028 01 21 04 FFFF 0002 00C350 002710 00 00BF68 002AF8 FFFF 0001 00 00000000 41100000 0001 0003"
    ++ values_1 ++ end
