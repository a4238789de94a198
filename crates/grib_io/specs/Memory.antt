-- Sources and sinks that lie in memory. Calls are numbered from 1, and some numbers are to fail.
use Rattle.std.specs.Prelude.{◌≡◌, ℕ, ◌+◌, ◌-◌, ◌^◌, min, Bool, true, false, MatchResult, ◌&&◌, ◌==◌, cond, nat_lt, List, ◌++◌, length}
use Rattle.std.specs.List.{list_any}
use Rattle.std.specs.declared.result.Result.{Result}
use Rattle.grib_io.specs.declared.outside.Stop.{Stop}
use Rattle.grib_io.specs.declared.outside.Stop.TheVariants.{Failed, Memory}
use Rattle.grib_io.specs.declared.outside.ShelfStop.{ShelfStop}
use Rattle.grib_io.specs.declared.outside.ShelfStop.TheVariants.{Absent, Failed as ShelfFailed}

-- the numbers of the calls that are to fail, and how many calls were made and how many of them failed
pub record Calls : Type 0 where
  pub failing : List ℕ
  pub made : ℕ
  pub faults : ℕ

-- the count after this one: it goes on to 2 ^ 64 - 1, and stays there
abbrev pub next_count : ℕ → ℕ
next_count n = min (n + 1) (2 ^ 64 - 1)

-- the count after a read that stopped: an absent name is no fault
abbrev pub next_count_after : ShelfStop → ℕ → ℕ
next_count_after Absent n = n
next_count_after ShelfFailed n = next_count n

-- whether the next call is to fail; the calls after the first 2 ^ 64 - 1 have no number
abbrev pub next_fails : Calls → Bool
next_fails calls = nat_lt calls.made (2 ^ 64 - 1) && list_any (λ number. number == calls.made + 1) calls.failing

-- after one call more
abbrev pub one_more : Calls → Calls
one_more calls = record {
  failing = calls.failing;
  made = next_count calls.made;
  faults = cond (next_fails calls) (next_count calls.faults) calls.faults;
}

-- the octets that are left, and how many a read gives at most
pub record Supply : Type 0 where
  pub left : List ℕ
  pub piece : ℕ

-- how many octets a read gives of those that are left, a piece at most, to so much room
abbrev pub count_given : List ℕ → ℕ → ℕ → ℕ
count_given left piece room = min piece (min room (length left))

-- a supply whose calls are counted
pub record FaultySupply : Type 0 where
  pub left : List ℕ
  pub piece : ℕ
  pub calls : Calls

-- the octets that were written, how many a write takes at most, and whether nothing waits for `finish`
pub record Store : Type 0 where
  pub octets : List ℕ
  pub piece : ℕ
  pub settled : Bool

-- the store after these octets more, of which some wait for `finish` where there are any
abbrev pub after_write : Store → List ℕ → Store
after_write store more = record {
  octets = store.octets ++ more;
  piece = store.piece;
  settled = store.settled && (length more == 0);
}

-- a store whose calls are counted
pub record FaultyStore : Type 0 where
  pub octets : List ℕ
  pub piece : ℕ
  pub settled : Bool
  pub calls : Calls

-- Whether a call failed. That there is no memory comes only where the call is not to fail.
abbrev pub is_failed : Stop → Bool
is_failed Failed = true
is_failed Memory = false

abbrev pub FailsWhere : {T : Type 0} → Bool → Result T Stop → Type 0
FailsWhere fails result = MatchResult result (λ _. fails ≡ false) (λ stop. is_failed stop ≡ fails)

-- Whether a read of a shelf failed. A name is absent only where the call is not to fail.
abbrev pub is_shelf_failed : ShelfStop → Bool
is_shelf_failed ShelfFailed = true
is_shelf_failed Absent = false

abbrev pub ReadFailsWhere : {T : Type 0} → Bool → Result T ShelfStop → Type 0
ReadFailsWhere fails result = MatchResult result (λ _. fails ≡ false) (λ stop. is_shelf_failed stop ≡ fails)
