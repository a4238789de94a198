-- A word of the IBM single form as a binary32 word, exactly (WMO-No. 306, Volume I.2, FM 92 GRIB: edition 1
-- writes the one, edition 2 the other).
use Rattle.std.specs.Prelude.{ℕ, ◌+◌, ◌*◌, ◌/◌, ◌%◌, ◌^◌, cond, Option, Some, None, find, nat_lt, ◌==◌}
use Rattle.std.specs.List.{range_with_len}
use Rattle.std.specs.Option.{option_and_then}
use Rattle.grib_dyadic.specs.Reference.{ibm_a, ibm_b}

-- the magnitude of an IBM word, B * 2 ^ (4 A - 280), counted in units of 2 ^ -280
abbrev pub magnitude : ℕ → ℕ
magnitude word = ibm_b word * 2 ^ (4 * ibm_a word)

-- A finite binary32 word has the magnitude f * 2 ^ (p - 149), where p is the least place from 0 to 253 that
-- leaves f below 2 ^ 24; it is p * 2 ^ 23 + f behind its sign. In units of 2 ^ -280 that is f * 2 ^ (p + 131).
abbrev pub place_of : ℕ → Option ℕ
place_of n = find (λ p. nat_lt n (2 ^ (p + 155))) (range_with_len 0 254)

-- the word with the sign of another, where the magnitude is a whole f at that place
abbrev pub word_at : ℕ → ℕ → ℕ → Option ℕ
word_at word n p =
    cond (n % 2 ^ (p + 131) == 0) (Some (word / 2 ^ 31 * 2 ^ 31 + (p * 2 ^ 23 + n / 2 ^ (p + 131)))) None

-- the binary32 word of the same number, none where there is none; zero has no sign
abbrev pub binary32_of : ℕ → Option ℕ
binary32_of word =
    let n = magnitude word in cond (n == 0) (Some 0) (option_and_then (word_at word n) (place_of n))
