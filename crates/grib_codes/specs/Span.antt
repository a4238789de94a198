-- What the width of a run of codes rests on.
use Rattle.std.specs.Prelude.{◌≡◌, ℕ, ◌+◌, ◌^◌, ◌<◌, ◌≤◌, List}
use Rattle.std.specs.List.{list_any}
use Rattle.grib_base.specs.declared.code.Code.{Code}
use Rattle.grib_base.specs.declared.code.Code.TheVariants.{Present, Primary, Secondary}
use Rattle.grib_packing.specs.Groupings.{greatest, smallest, present_codes, is_present, is_primary, is_secondary}
use Rattle.grib_codes.specs.declared.span.Span.{Span}

-- the least and the greatest number, 0 for none, and which kinds of codes there are
pub record IsSpan (span : Span) (run : List Code) : Type 0 where
  pub least : span.least ≡ smallest (present_codes run)
  pub greatest : span.greatest ≡ greatest (present_codes run)
  pub present : span.present ≡ list_any is_present run
  pub primary : span.primary ≡ list_any is_primary run
  pub secondary : span.secondary ≡ list_any is_secondary run

-- the least number is not above the greatest
abbrev pub IsOrdered : Span → Type 0
IsOrdered span = span.least ≤ span.greatest

-- the greatest number and the reserved codes take 32 bits at most
abbrev pub IsSmallWith : ℕ → Span → Type 0
IsSmallWith reserved span = span.greatest + reserved < 2 ^ 32

-- the numbers and the reserved codes take 32 bits at most
abbrev pub IsSmall : ℕ → List Code → Type 0
IsSmall reserved run = greatest (present_codes run) + reserved < 2 ^ 32

-- a number and the reserved codes take 32 bits at most
abbrev pub IsBelow : ℕ → Code → Type 0
IsBelow reserved (Present n) = n + reserved < 2 ^ 32
IsBelow reserved Primary = Unit {0}
IsBelow reserved Secondary = Unit {0}

-- and a mark is one of the reserved codes
abbrev pub IsTold : ℕ → Code → Type 0
IsTold reserved (Present n) = n + reserved < 2 ^ 32
IsTold reserved Primary = 1 ≤ reserved
IsTold reserved Secondary = 2 ≤ reserved
