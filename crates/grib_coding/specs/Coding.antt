-- What blocks are coded by (CCSDS 121.0-B; WMO-No. 306, Volume I.2, FM 92 GRIB edition 2, data representation
-- template 5.42, octets 20 and 22 to 25).
use Rattle.std.specs.Prelude.{◌≡◌, ℕ, ◌+◌, ◌-◌, ◌/◌, ◌%◌, ◌^◌, ◌≤◌, ◌⊎◌, Bool, true, false, cond, nat_lt, ◌==◌}
use Rattle.grib_coding.specs.declared.coding.Coding.{Coding}

-- whether the flags have this value among their sum, a power of 2
abbrev pub has_flag : ℕ → ℕ → Bool
has_flag flags value = flags / value % 2 == 1

-- Codes are mapped differences, and the first number of each interval stands as it is, its reference.
abbrev pub is_mapped : Coding → Bool
is_mapped c = has_flag c.flags 8

-- identifiers have 1 or 2 bits
abbrev pub is_restricted : Coding → Bool
is_restricted c = has_flag c.flags 16

-- each interval begins at a whole octet
abbrev pub is_padded : Coding → Bool
is_padded c = has_flag c.flags 32

-- the greatest number
abbrev pub greatest : Coding → ℕ
greatest c = 2 ^ c.bits - 1

-- how many bits the identifier of an item has
abbrev pub identifier_width : Coding → ℕ
identifier_width c =
    cond (nat_lt 16 c.bits) 5
    (cond (nat_lt 8 c.bits) 4
    (cond (is_restricted c) (cond (nat_lt 2 c.bits) 2 1) 3))

-- how many blocks hold `count` values
abbrev pub block_count : Coding → ℕ → ℕ
block_count c count = (count + c.block - 1) / c.block

-- Codings that can be: numbers of 1 to 32 bits without sign, which libaec may hold in memory as it likes (2, 4),
-- blocks of 8, 16, 32 or 64, and intervals of 1 to 4096 blocks. Short identifiers are for at most 4 bits.
pub record Fits (c : Coding) : Type 0 where
  pub some_bits : 1 ≤ c.bits
  pub most_bits : c.bits ≤ 32
  pub unsigned : has_flag c.flags 1 ≡ false
  pub enforced : has_flag c.flags 64 ≡ false
  pub seven_flags : c.flags ≤ 127
  pub restricted : is_restricted c ≡ true → c.bits ≤ 4
  pub block : (c.block ≡ 8) ⊎ ((c.block ≡ 16) ⊎ ((c.block ≡ 32) ⊎ (c.block ≡ 64)))
  pub some_blocks : 1 ≤ c.interval
  pub most_blocks : c.interval ≤ 4096
