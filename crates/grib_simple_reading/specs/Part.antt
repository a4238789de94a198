-- Some of the numbers that stand one after another.
use Rattle.std.specs.Prelude.{ℕ, Bool, List, map}
use Rattle.std.specs.List.{range_with_len}
use Rattle.grib_bits.specs.Plain.{plain_at}

-- `count` numbers of w bits from the one at `first` on, where the first of all is at 0
abbrev pub plain_from : List Bool → ℕ → ℕ → ℕ → List ℕ
plain_from bits w first count = map (plain_at bits w) (range_with_len first count)
