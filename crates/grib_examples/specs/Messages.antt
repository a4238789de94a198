-- The worked messages of docs/WORKED.md, section by section.
use Rattle.std.specs.Prelude.{ℕ, List, ◌++◌, drop}
use Rattle.grib_examples.specs.Hex.{hex, put}

-- Section 0 of edition 2 with a total length, and the end
abbrev pub head : List ℕ → List ℕ
head total = hex "47524942 0000 00 02" ++ total

abbrev pub end : List ℕ
end = hex "37373737"

-- The sections of M1.
abbrev pub identification : List ℕ
identification = hex "00000015 01 0062 0000 02 00 01 07E8 01 0F 0C 00 00 00 01"

abbrev pub grid : List ℕ
grid =
    hex "00000048 03 00 00000004 00 00 0000 06 FF FFFFFFFF FF FFFFFFFF FF FFFFFFFF 00000002 00000002"
    ++ hex "00000000 FFFFFFFF 02FAF080 00989680 30 02EBAE40 00A7D8C0 000F4240 000F4240 00"

abbrev pub product : List ℕ
product = hex "00000022 04 0000 0000 00 00 02 FF 01 0000 00 01 00000006 67 00 00000002 FF FF FFFFFFFF"

abbrev pub representation : List ℕ
representation = hex "00000015 05 00000004 0000 C2ED4000 8003 0001 08 00"

abbrev pub no_bitmap : List ℕ
no_bitmap = hex "00000006 06 FF"

abbrev pub values : List ℕ
values = hex "00000009 07 000102FF"

-- M1, 183 octets: a field of 2 by 2 points in simple packing
abbrev pub m1 : List ℕ
m1 = head (hex "00000000000000B7") ++ identification ++ grid ++ product ++ representation ++ no_bitmap ++ values ++ end

-- Section 5 of M1 with three values
abbrev pub three_values : List ℕ
three_values = put representation 6 (hex "00000003")

-- M2, 252 octets: two fields, the second with the bitmap of the first
abbrev pub m2 : List ℕ
m2 =
    head (hex "00000000000000FC") ++ identification ++ grid
    ++ product ++ three_values ++ hex "00000007 06 00 B0" ++ hex "00000008 07 000102"
    ++ product ++ three_values ++ hex "00000006 06 FE" ++ hex "00000008 07 030405"
    ++ end

-- Section 5 of M3
abbrev pub differences : List ℕ
differences =
    hex "00000031 05 00000004 0003 C2ED4000 8003 0001 05 00 01 00 FFFFFFFF FFFFFFFF 00000002"
    ++ hex "00 03 00000001 01 00000002 06 01 01"

-- M3, 215 octets: spatial differencing of order 1
abbrev pub m3 : List ℕ
m3 =
    head (hex "00000000000000D7") ++ identification ++ grid ++ product ++ differences
    ++ no_bitmap ++ hex "0000000D 07 05 8A 02C0 0C 0410 A0" ++ end

-- Section 3 of M1 with three points, 3 by 1
abbrev pub grid_3_by_1 : List ℕ
grid_3_by_1 = put (put grid 7 (hex "00000003")) 31 (hex "00000003 00000001")

-- C1, 209 octets: complex packing with a primary missing value
abbrev pub c1 : List ℕ
c1 =
    head (hex "00000000000000D1") ++ identification ++ grid_3_by_1 ++ product
    ++ hex "0000002F 05 00000003 0002 C2ED4000 8003 0001 03 00 01 01 FFFFFFFF FFFFFFFF 00000001"
    ++ hex "00 02 00000001 01 00000003 06"
    ++ no_bitmap ++ hex "00000009 07 A0 80 08 34" ++ end

-- Section 5 of C2
abbrev pub marks_only : List ℕ
marks_only =
    hex "0000002F 05 00000004 0002 C2ED4000 8003 0001 02 00 01 02 FFFFFFFF FFFFFFFF 00000001"
    ++ hex "00 01 00000001 01 00000004 06"

-- C2, 209 octets: complex packing with primary and secondary missing values only
abbrev pub c2 : List ℕ
c2 =
    head (hex "00000000000000D1") ++ identification ++ grid ++ product ++ marks_only
    ++ no_bitmap ++ hex "00000009 07 00 80 0C A0" ++ end

-- Section 3 of M1 as template 3.1, without its length
abbrev pub rotated : List ℕ
rotated = put (drop 4 grid) 9 (hex "0001") ++ hex "82625A00 00000000 00000000"

-- T1, 195 octets: a rotated grid
abbrev pub t1 : List ℕ
t1 =
    head (hex "00000000000000C3") ++ identification ++ hex "00000054" ++ rotated
    ++ product ++ representation ++ no_bitmap ++ values ++ end

-- Section 4 of T2: an ensemble member over an interval, template 4.11
abbrev pub interval : List ℕ
interval =
    hex "0000003D" ++ put (drop 4 product) 4 (hex "000B")
    ++ hex "01 03 0A 07E8 01 0F 12 00 00 01 00000000 01 02 01 00000006 01 00000000"

-- T2, 210 octets: an ensemble member over an interval
abbrev pub t2 : List ℕ
t2 = head (hex "00000000000000D2") ++ identification ++ grid ++ interval ++ representation ++ no_bitmap ++ values ++ end

-- W, 199 octets: numbers of 40 bits
abbrev pub w : List ℕ
w =
    head (hex "00000000000000C7") ++ identification ++ grid ++ product ++ put representation 20 (hex "28")
    ++ no_bitmap ++ hex "00000019 07 0000000000 0000000001 0000000002 0100000000" ++ end
