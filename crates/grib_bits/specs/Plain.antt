-- Numbers that stand one after another (WMO-No. 306, Volume I.2, FM 92 GRIB edition 2, data template 7.0).
use Rattle.std.specs.Prelude.{ℕ, ◌*◌, Bool, List, take, drop, map}
use Rattle.std.specs.List.{range_with_len}
use Rattle.grib_bits.specs.Bits.{num}

-- the number of the w bits after the first k * w
abbrev pub plain_at : List Bool → ℕ → ℕ → ℕ
plain_at bits w k = num (take w (drop (k * w) bits))

-- `count` numbers of w bits each
abbrev pub plain : List Bool → ℕ → ℕ → List ℕ
plain bits w count = map (plain_at bits w) (range_with_len 0 count)
