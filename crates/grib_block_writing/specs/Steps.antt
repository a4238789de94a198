-- Blocks and runs as they are written one after another (CCSDS 121.0-B): what the writer of blocks is told and keeps.
use Rattle.std.specs.Prelude.{◌≡◌, ℕ, ◌+◌, ◌-◌, ◌*◌, ◌%◌, Bool, false, cond, ◌==◌, List, [], ◌∷◌, ◌++◌, length, get_or, take, drop, Option}
use Rattle.grib_bits.specs.Bits.{bits_of}
use Rattle.grib_bits.specs.Written.{Written}
use Rattle.grib_coding.specs.declared.coding.Coding.{Coding}
use Rattle.grib_coding.specs.Coding.{identifier_width, is_mapped}
use Rattle.grib_coding.specs.Numbers.{Told}
use Rattle.grib_coding.specs.Runs.{run_number}
use Rattle.grib_coding.specs.Blocks.{all_told}
use Rattle.grib_coding.specs.Written.{reference_bits}

-- the block with this number, from 0
abbrev pub block_at : Coding → List ℕ → ℕ → List Told
block_at c numbers block = take c.block (drop (block * c.block) (all_told c numbers))

-- the numbers of a block
abbrev pub numbers_of : Coding → List ℕ → ℕ → List ℕ
numbers_of c numbers block = take c.block (drop (block * c.block) numbers)

-- What the codes of a block are told from: where they are mapped differences, the number before the block, or its own
-- first number where that is a reference.
abbrev pub base_of : Coding → List ℕ → ℕ → ℕ
base_of c numbers block =
    let first = block * c.block in
    cond (is_mapped c) (cond (block % c.interval == 0) (get_or numbers first 0) (get_or numbers (first - 1) 0)) 0

-- an identifier of so many bits, and the reference behind it
abbrev pub head_bits : Coding → ℕ → ℕ → Option ℕ → List Bool
head_bits c identifier width reference = bits_of width identifier ++ reference_bits c reference

-- These bits were written behind what stood there, into memory that was spare.
pub record AddsBits (before now : Written) (bits : List Bool) : Type 0 where
  pub added : now.bits ≡ before.bits ++ bits
  pub spare : now.spare + length bits ≡ before.spare

-- These bits are still left of all that is written behind what stood there.
pub record Leaves (before now : Written) (all left : List Bool) : Type 0 where
  pub bits : now.bits ++ left ≡ before.bits ++ all
  pub spare : now.spare + length all ≡ before.spare + length left

-- the bits of a run of so many blocks, its reference apart
abbrev pub run_size : Coding → ℕ → Bool → ℕ
run_size c blocks ends = identifier_width c + run_number blocks ends + 2

-- the bits of runs one after another, of which the last may end with its segment, its interval or the last block
abbrev pub sizes_of : Coding → List ℕ → Bool → ℕ
sizes_of c [] ends = 0
sizes_of c (blocks ∷ []) ends = run_size c blocks ends
sizes_of c (blocks ∷ more ∷ runs) ends = run_size c blocks false + sizes_of c (more ∷ runs) ends
