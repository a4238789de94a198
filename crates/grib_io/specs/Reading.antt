-- Octets that are read of what stands on a shelf under a name.
use Rattle.std.specs.Prelude.{◌≡◌, ℕ, ◌+◌, ◌≤◌, ◌⊎◌, Bool, true, min, nat_lt, List, length, take, drop, Option, Some, None, IsSomeAnd, MatchResult}
use Rattle.std.specs.declared.result.Result.{Result}
use Rattle.grib_io.specs.declared.outside.ShelfStop.{ShelfStop}
use Rattle.grib_io.specs.declared.outside.ShelfStop.TheVariants as shelf
use Rattle.grib_io.specs.declared.reading.ReadStop.{ReadStop}
use Rattle.grib_io.specs.declared.reading.ReadStop.TheVariants.{Absent, Failed, Memory}
use Rattle.grib_io.specs.Outside.{Counted}
use Rattle.grib_io.specs.Shelves.{Held, Stays, Tells}

-- the first octets, as many as are asked for at most; all of them where no number is given
abbrev pub first_of : Option ℕ → List ℕ → List ℕ
first_of None octets = octets
first_of (Some most) octets = take most octets

-- these octets are those of what stands there, as many as are asked for at most
abbrev pub IsFirst : Option ℕ → List ℕ → Option (List ℕ) → Type 0
IsFirst most octets text = IsSomeAnd text (λ all. octets ≡ first_of most all)

-- why nothing is read: the name is absent. That the shelf failed, or that there is no memory, says nothing of it
abbrev pub StopsAt : ReadStop → Option (List ℕ) → Type 0
StopsAt Absent text = text ≡ None
StopsAt Failed text = Unit {0}
StopsAt Memory text = Unit {0}

-- the count of the shelf's faults: one more where the shelf failed
abbrev pub CountsReadStop : ReadStop → ℕ → ℕ → Type 0
CountsReadStop Absent before now = now ≡ before
CountsReadStop Failed before now = Counted before now
CountsReadStop Memory before now = now ≡ before

abbrev pub CountsRead : {T : Type 0} → Result T ReadStop → ℕ → ℕ → Type 0
CountsRead result before now = MatchResult result (λ _. now ≡ before) (λ stop. CountsReadStop stop before now)

-- a shelf that gives nothing, as why nothing is read
abbrev pub stop_of_shelf : ShelfStop → ReadStop
stop_of_shelf shelf.Absent = Absent
stop_of_shelf shelf.Failed = Failed

-- ---- for private functions

-- whether more than this many octets are asked for
abbrev pub asks_on : Option ℕ → ℕ → Bool
asks_on None filled = true
asks_on (Some most) filled = nat_lt filled most

-- this much room, but no more than for what is asked for
abbrev pub room_for : Option ℕ → ℕ → ℕ
room_for None size = size
room_for (Some most) size = min most size

-- there is no more room than for what is asked for
abbrev pub FitsIn : Option ℕ → ℕ → Type 0
FitsIn None room = Unit {0}
FitsIn (Some most) room = room ≤ most

-- the first octets of a buffer are those of what stands there; nothing is said where there are none yet
abbrev pub IsFront : ℕ → List ℕ → Option (List ℕ) → Type 0
IsFront filled buffer text = (filled ≡ 0) ⊎ IsSomeAnd text (λ octets. take filled buffer ≡ take filled octets)

-- so are this many after those
abbrev pub Continues : ℕ → ℕ → List ℕ → Option (List ℕ) → Type 0
Continues filled count buffer text = IsSomeAnd text (λ octets. take count (drop filled buffer) ≡ take count (drop filled octets))

-- it stands there, and has no more than this many octets
abbrev pub EndsBy : ℕ → Option (List ℕ) → Type 0
EndsBy most text = IsSomeAnd text (λ octets. length octets ≤ most)

-- this many octets more were read into a buffer, after the first `filled`; none only at the end
pub record MoreRead (shelf : Option Held) (name : List ℕ) (filled : ℕ) (old now : List ℕ) (count : ℕ) : Type 0 where
  pub within : filled + count ≤ length now
  pub front : take filled now ≡ take filled old
  pub read : Tells shelf name (Continues filled count now)
  pub end : count ≡ 0 → Tells shelf name (EndsBy filled)

-- this many octets were read into a buffer
pub record ReadSoFar (shelf now : Option Held) (name : List ℕ) (filled : ℕ) (buffer : List ℕ) : Type 0 where
  pub within : filled ≤ length buffer
  pub front : Tells shelf name (IsFront filled buffer)
  pub kept : Stays shelf now
