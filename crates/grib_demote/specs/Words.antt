-- A binary32 word as a word of the IBM single form, exactly (WMO-No. 306, Volume I.2, FM 92 GRIB: edition 2
-- writes the one, edition 1 the other).
use Rattle.std.specs.Prelude.{ℕ, ◌+◌, ◌*◌, ◌/◌, ◌%◌, ◌^◌, cond, Bool, ◌&&◌, Option, Some, None, option_map, find, nat_lt, ◌==◌}
use Rattle.std.specs.List.{range_with_len}
use Rattle.grib_bits.specs.Binary32.{ieee_sign, ieee_exponent, ieee_fraction}

-- the magnitude of a finite word, counted in units of 2 ^ -280
abbrev pub magnitude : ℕ → ℕ
magnitude word =
    let exponent = ieee_exponent word in
    cond (exponent == 0) (ieee_fraction word * 2 ^ 131) ((2 ^ 23 + ieee_fraction word) * 2 ^ (exponent + 130))

-- whether n is B * 2 ^ (4 A) with B below 2 ^ 24
abbrev pub stands_at : ℕ → ℕ → Bool
stands_at n a = (n % 2 ^ (4 * a) == 0) && nat_lt n (2 ^ (4 * a + 24))

-- the IBM word with this A: the sign, 7 bits of A, 24 of B
abbrev pub ibm_at : ℕ → ℕ → ℕ
ibm_at word a = ieee_sign word * 2 ^ 31 + (a * 2 ^ 24 + magnitude word / 2 ^ (4 * a))

-- the IBM word of the same number with the least A, none where there is none; zero has no sign
abbrev pub ibm_of : ℕ → Option ℕ
ibm_of word =
    let n = magnitude word in
    cond (ieee_exponent word == 255) None
    (cond (n == 0) (Some 0) (option_map (ibm_at word) (find (stands_at n) (range_with_len 0 128))))
