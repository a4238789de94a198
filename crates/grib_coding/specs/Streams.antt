-- Worked streams, in octets, and their numbers. libaec reads each so.
use Rattle.std.specs.Prelude.{ℕ, List, [], ◌∷◌, ◌++◌, replicate}
use Rattle.grib_coding.specs.declared.coding.Coding.{Coding}

abbrev pub coding : ℕ → ℕ → ℕ → ℕ → Coding
coding n flags block interval = record { bits = n; flags = flags; block = block; interval = interval }

-- one block of Split with k = 5 and reference 0, then padding
abbrev pub split_octets : List ℕ
split_octets = 0xC0 ∷ 0x18 ∷ 0x0F ∷ 0x84 ∷ 0x5F ∷ 0x00 ∷ 0x00 ∷ 0x00 ∷ []

-- 28 numbers in intervals of two blocks: a run of two blocks, Split with k = 0, a plain block
abbrev pub mixed_octets : List ℕ
mixed_octets = 0x03 ∷ 0x49 ∷ 0xE5 ∷ 0xFC ∷ 0x27 ∷ 0xFC ∷ 0x00 ∷ 0x00 ∷ []

abbrev pub mixed_numbers : List ℕ
mixed_numbers = replicate 19 3 ++ 4 ∷ 3 ∷ 3 ∷ 3 ∷ 3 ∷ 3 ∷ 9 ∷ 0 ∷ 15 ∷ []

-- a run to the end of its segment, and past the last value
abbrev pub run_octets : List ℕ
run_octets = 0x00 ∷ 0x03 ∷ 0x84 ∷ []

-- 10 numbers of 2 bits with identifiers of 1 bit: a plain block, a second extension
abbrev pub short_octets : List ℕ
short_octets = 0x8E ∷ 0xE0 ∷ 0x20 ∷ 0x78 ∷ []

-- numbers of 17 bits in Split with k = 13
abbrev pub wide_octets : List ℕ
wide_octets = 0x76 ∷ 0x1A ∷ 0x83 ∷ 0xF0 ∷ 0x10 ∷ 0x01 ∷ 0x00 ∷ 0x0C ∷ 0x00 ∷ 0x40 ∷ 0x04 ∷ 0x00 ∷ 0x18 ∷ 0x04 ∷ 0xE5 ∷ 0xA4 ∷ []

abbrev pub wide_numbers : List ℕ
wide_numbers = 100000 ∷ 100001 ∷ 99999 ∷ 100000 ∷ 100002 ∷ 100000 ∷ 99990 ∷ 131071 ∷ []

-- a run of five blocks, where intervals have two
abbrev pub long_run_octets : List ℕ
long_run_octets = 0x00 ∷ 0x04 ∷ []

-- a second extension that begins with 91 zeros, and one that begins with 90
abbrev pub long_sequence_octets : List ℕ
long_sequence_octets = 0x10 ∷ replicate 11 0 ++ 0x1E ∷ []

abbrev pub longest_sequence_octets : List ℕ
longest_sequence_octets = 0x10 ∷ replicate 11 0 ++ 0x3C ∷ []

-- Split with k = 1 and reference 0, whose second code is 16
abbrev pub great_code_octets : List ℕ
great_code_octets = 0x40 ∷ 0x01 ∷ 0xFC ∷ 0x00 ∷ []

-- two intervals of one block that is a run, the second one from its own octet on
abbrev pub padded_octets : List ℕ
padded_octets = 0x05 ∷ 0x85 ∷ 0x07 ∷ 0x80 ∷ []
