-- A worked list of items of which one run goes past its segment.
use Rattle.std.specs.Prelude.{ℕ, List, [], ◌∷◌, ◌++◌, replicate, None}
use Rattle.grib_coding.specs.Items.{Run, Second}
use Rattle.grib_coding.specs.Reading.{Coded, coded_of}

-- 67 blocks of 8 numbers, of which only block 60 is no zero block
abbrev pub past_numbers : List ℕ
past_numbers = replicate 480 0 ++ 1 ∷ replicate 55 0

-- 60 zero blocks, block 60, and 6 zero blocks, of which the first 3 end a segment
abbrev pub past_items : List Coded
past_items = coded_of None (Run 60) ∷ coded_of None (Second (1 ∷ 0 ∷ 0 ∷ 0 ∷ [])) ∷ coded_of None (Run 6) ∷ []
