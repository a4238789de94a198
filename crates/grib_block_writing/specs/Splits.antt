-- The bits of a block by how many low bits its codes are told with.
use Rattle.std.specs.Prelude.{◌≡◌, ℕ, ◌+◌, ◌*◌, ◌≤◌, ◌<◌, List}
use Rattle.grib_coding.specs.Choices.{high_sum}

-- the bits of `kept` of the codes, those that do not stand in a reference: the code of such a one is 0
abbrev pub split_bits : ℕ → List ℕ → ℕ → ℕ
split_bits kept codes k = kept * (k + 1) + high_sum k codes

-- these are the bits with k, with no number up to `most` are they fewer, and with none below k as few
pub record IsLeastSplit (kept : ℕ) (codes : List ℕ) (most k bits : ℕ) : Type 0 where
  pub is : bits ≡ split_bits kept codes k
  pub within : k ≤ most
  pub least : (j : ℕ) → j ≤ most → bits ≤ split_bits kept codes j
  pub first : (j : ℕ) → j < k → bits < split_bits kept codes j
