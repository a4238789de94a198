-- What a writer of bits has written, and how many more bits it has memory for.
use Rattle.std.specs.Prelude.{ℕ, ◌-◌, ◌%◌, List, Bool, length}

pub record Written : Type 0 where
  pub bits : List Bool
  pub spare : ℕ

-- how many bits are missing up to the end of an octet, from 0 to 7
abbrev pub padding : List Bool → ℕ
padding bits = (8 - length bits % 8) % 8
