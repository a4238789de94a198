-- Codes in 32 bits each. A word is the number itself, or one of the codes that are reserved for missing points, as
-- in a group of 32 bits (WMO-No. 306, Volume I.2, FM 92 GRIB edition 2, data template 7.2).
use Rattle.std.specs.Prelude.{ℕ, ◌+◌, ◌-◌, ◌^◌, cond, List, map, nat_lt, ◌==◌}
use Rattle.grib_base.specs.declared.code.Code.{Code}
use Rattle.grib_base.specs.declared.code.Code.TheVariants.{Present, Primary, Secondary}

-- what a word stands for: a number where it and the reserved codes take 32 bits at most, else a mark, all bits set
-- for primary missing
abbrev pub code_of : ℕ → ℕ → Code
code_of reserved word =
    cond (nat_lt (word + reserved) (2 ^ 32)) (Present word) (cond (word == 2 ^ 32 - 1) Primary Secondary)

abbrev pub codes_of : ℕ → List ℕ → List Code
codes_of reserved words = map (code_of reserved) words
