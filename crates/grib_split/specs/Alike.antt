-- What is known at a place, and codes from there on that are all the same.
use Rattle.std.specs.Prelude.{◌≡◌, ℕ, ◌+◌, ◌<◌, ◌≤◌, true, false, List, length, get_or, drop, slice_index}
use Rattle.grib_base.specs.declared.code.Code.{Code}
use Rattle.grib_base.specs.declared.code.Code.TheVariants.{Present}
use Rattle.grib_packing.specs.Groupings.{width_of}
use Rattle.grib_split.specs.declared.choosing.Costs.{Costs}
use Rattle.grib_split.specs.declared.choosing.Here.{Here}
use Rattle.grib_split.specs.declared.slots.Slots.{Slots}
use Rattle.grib_split.specs.Costs.{header_of}
use Rattle.grib_split.specs.Least.{IsLeast, IsHead}
use Rattle.grib_split.specs.Runs.{Runs, Afters, Falls, Soonest, Holds, IsLow, after_of}

-- the code at a place
abbrev pub code_at : List Code → ℕ → Code
code_at codes at = get_or codes at (Present 0)

-- `count` codes from a place on are the same, 64 at most
pub record Alike (codes : List Code) (at count : ℕ) : Type 0 where
  pub most : count ≤ 64
  pub fits : at + count ≤ length codes
  pub same : (i : ℕ) → i < count → code_at codes (at + i) ≡ code_at codes at

-- 64 codes from a place on are the same, and the least cost does not rise from one place to the next
pub record Steady (header reserved : ℕ) (codes : List Code) (at : ℕ) (slots : Slots) (here : Here) : Type 0 where
  pub all : here.alike ≡ 64
  pub holds : Holds reserved slots (code_at codes at)
  pub falls : Falls slots at here.best.cost
  pub cost : here.best.cost ≡ header + after_of slots at 64
  pub soonest : Soonest slots at here.best.length

-- what is known at a place
pub record Known (header reserved : ℕ) (codes : List Code) (at : ℕ) (slots : Slots) (here : Here) : Type 0 where
  pub alike : Alike codes at here.alike
  pub after : Afters header reserved codes at slots
  pub low : IsLow slots.after
  pub base : slots.after.base ≤ here.best.cost
  pub cost : IsLeast header (width_of reserved) (drop at codes) here.best.cost
  pub some : 1 ≤ here.best.length
  pub most : here.best.length ≤ 64
  pub runs : here.steady ≡ false → Runs reserved codes at slots
  pub steady : here.steady ≡ true → Steady header reserved codes at slots here

-- the choices from place `at` on are first lengths of chosen groupings
abbrev pub HeadsFrom : Costs → List Code → ℕ → List ℕ → Type 0
HeadsFrom costs codes at choices =
    (i : ℕ) → at ≤ i → i < length codes → IsHead (header_of costs) (width_of costs.reserved) (drop i codes) (slice_index choices i)
