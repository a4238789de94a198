-- The blocks that numbers are cut into, by what tells each value (CCSDS 121.0-B; WMO-No. 306, Volume I.2, FM 92 GRIB
-- edition 2, data template 7.42).
use Rattle.std.specs.Prelude.{ℕ, zero, suc, ◌+◌, ◌-◌, ◌*◌, ◌%◌, Bool, cond, ◌==◌, List, [], ◌∷◌, ◌++◌, length, get_or, map, take, drop, replicate, Option, Some, None}
use Rattle.std.specs.List.{list_all}
use Rattle.grib_coding.specs.declared.coding.Coding.{Coding}
use Rattle.grib_coding.specs.Coding.{block_count, is_mapped}
use Rattle.grib_coding.specs.Numbers.{Told, Reference, Code, told_after}

-- What tells the values of all blocks: what follows the last number, up to the end of its block, is told by the code 0.
abbrev pub all_told : Coding → List ℕ → List Told
all_told c numbers =
    told_after c 0 0 numbers ++ replicate (c.block * block_count c (length numbers) - length numbers) (Code 0)

-- so many pieces of this size, one after another
abbrev pub pieces : ℕ → ℕ → List Told → List (List Told)
pieces size zero told = []
pieces size (suc count) told = take size told ∷ pieces size count (drop size told)

abbrev pub blocks_of : Coding → List ℕ → List (List Told)
blocks_of c numbers = pieces c.block (block_count c (length numbers)) (all_told c numbers)

-- the code of a value, 0 where a reference tells it
abbrev pub code_of : Told → ℕ
code_of (Reference number) = 0
code_of (Code code) = code

abbrev pub codes_of : List Told → List ℕ
codes_of block = map code_of block

-- the reference that a block begins with
abbrev pub reference_of : List Told → Option ℕ
reference_of [] = None
reference_of (Reference number ∷ block) = Some number
reference_of (Code code ∷ block) = None

-- a zero block: its codes are all 0, the reference apart
abbrev pub is_zero : List Told → Bool
is_zero block = list_all (λ code. code == 0) (codes_of block)

-- how many zero blocks stand in front of the first that is none
abbrev pub zero_blocks : List (List Told) → ℕ
zero_blocks [] = 0
zero_blocks (block ∷ blocks) = cond (is_zero block) (zero_blocks blocks + 1) 0
