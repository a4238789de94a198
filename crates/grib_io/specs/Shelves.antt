-- What is said of a shelf: the octets that it holds under each name, where it tells them, and a count of
-- its faults, which never falls. A name is the list of its octets in UTF-8.
use Rattle.std.specs.Prelude.{◌≡◌, ◌≢◌, ℕ, ◌<◌, ◌≤◌, ◌⊎◌, ◌↔◌, MatchResult, List, [], ◌++◌, length, take, drop, None, Some, IsSomeAnd, unwrap_or, Ok, Err}
use Rattle.std.specs.declared.option.Option.{Option}
use Rattle.std.specs.declared.result.Result.{Result}
use Rattle.grib_io.specs.declared.outside.ShelfStop.{ShelfStop}
use Rattle.grib_io.specs.declared.outside.ShelfStop.TheVariants.{Absent, Failed}
use Rattle.grib_io.specs.Outside.{Counted}

-- the octets under each name, None where the name is absent
abbrev pub Held : Type 0
Held = List ℕ → Option (List ℕ)

-- each name but this one has what it had
abbrev pub OthersAsBefore : Held → Held → List ℕ → Type 0
OthersAsBefore before now name = (other : List ℕ) → other ≢ name → now other ≡ before other

-- each name has what it had
abbrev pub AsBefore : Held → Held → Type 0
AsBefore before now = (name : List ℕ) → now name ≡ before name

-- the same of an object that may tell what it holds. One that does not tell claims nothing
abbrev pub OthersStay : Option Held → Option Held → List ℕ → Type 0
OthersStay None now name = Unit {0}
OthersStay (Some before) None name = ⊥
OthersStay (Some before) (Some now) name = OthersAsBefore before now name

abbrev pub Stays : Option Held → Option Held → Type 0
Stays None now = Unit {0}
Stays (Some before) None = ⊥
Stays (Some before) (Some now) = AsBefore before now

-- what stands under the name before and after a call
abbrev pub Turns : Option Held → Option Held → List ℕ → (Option (List ℕ) → Option (List ℕ) → Type 0) → Type 0
Turns None now name Change = Unit {0}
Turns (Some before) None name Change = ⊥
Turns (Some before) (Some now) name Change = Change (before name) (now name)

-- this stands under the name, where the shelf tells it
abbrev pub Stood : Option Held → List ℕ → Option (List ℕ) → Type 0
Stood None name text = Unit {0}
Stood (Some held) name text = text ≡ held name

-- this is so of what stands under the name, where the shelf tells it
abbrev pub Tells : Option Held → List ℕ → (Option (List ℕ) → Type 0) → Type 0
Tells None name Is = Unit {0}
Tells (Some held) name Is = Is (held name)

-- The front of the room has `count` octets from the offset on. None for room that is not empty are given
-- exactly where the offset is at or past the end.
abbrev pub Copies : List ℕ → ℕ → ℕ → List ℕ → Type 0
Copies octets offset count into = (take count into ≡ take count (drop offset octets)) × (0 < length into → (count ≡ 0 ↔ length octets ≤ offset))

-- a read of what stands under a name
abbrev pub ReadsName : Option (List ℕ) → ℕ → Result ℕ ShelfStop → List ℕ → Type 0
ReadsName held offset (Ok count) into = IsSomeAnd held (λ octets. Copies octets offset count into)
ReadsName held offset (Err Absent) into = held ≡ None
ReadsName held offset (Err Failed) into = Unit {0}

-- a read of a shelf
abbrev pub ReadsAt : Option Held → List ℕ → ℕ → Result ℕ ShelfStop → List ℕ → Type 0
ReadsAt None name offset result into = Unit {0}
ReadsAt (Some held) name offset result into = ReadsName (held name) offset result into

-- a name that is made is present and empty; a refused call leaves it so, or as it was
abbrev pub Makes : {T E : Type 0} → Result T E → Option (List ℕ) → Option (List ℕ) → Type 0
Makes result before now = MatchResult result (λ _. now ≡ Some []) (λ _. (now ≡ before) ⊎ (now ≡ Some []))

-- the piece stands at the end of what the name had, nothing where it was absent; a refused call leaves the
-- name as it was, or with some front of the piece
abbrev pub AddsPiece : {T E : Type 0} → Result T E → List ℕ → Option (List ℕ) → Option (List ℕ) → Type 0
AddsPiece result piece before now = MatchResult result
    (λ _. now ≡ Some (unwrap_or before [] ++ piece))
    (λ _. (now ≡ before) ⊎ ((front rest : List ℕ) × (piece ≡ front ++ rest) × (now ≡ Some (unwrap_or before [] ++ front))))

-- the count after a read: an absent name is no fault
abbrev pub CountsShelfStop : ShelfStop → ℕ → ℕ → Type 0
CountsShelfStop Absent before now = now ≡ before
CountsShelfStop Failed before now = Counted before now

abbrev pub CountsShelfRead : {T : Type 0} → Result T ShelfStop → ℕ → ℕ → Type 0
CountsShelfRead result before now = MatchResult result (λ _. now ≡ before) (λ stop. CountsShelfStop stop before now)
