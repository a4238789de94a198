-- The messages of an input that comes in pieces.
use Rattle.std.specs.Prelude.{◌≡◌, ℕ, ◌+◌, ◌-◌, ◌^◌, ◌==◌, cond, Bool, true, false, Option, None, Some, Result, Ok, Err, List, [], ◌∷◌, ◌++◌, ◌≤◌, ◌⊎◌, length, take, drop, IfSome, MatchResult}
use Rattle.std.specs.Io.KnownBytes.{IsAtEnd}
use Rattle.grib_io.specs.Outside.{Counted}
use Rattle.grib_stream.specs.Reading.{Takes}
use Rattle.grib_stream.specs.Stream.{Judgement, Message, Faulty, message_after}
use Rattle.grib_items.specs.Items.{Item, Accepted, Refused, passed_after}
use Rattle.grib_command.specs.Judging.{judge}
use Rattle.grib_dispatch.specs.declared.reading.Held.{Held}
use Rattle.grib.specs.declared.fault.ReadError.{ReadError}
use Rattle.grib.specs.declared.fault.ReadError.TheVariants.{NoMessage, Refused as ReadRefused, Memory, Source, TooLong}
use Rattle.grib.specs.Messages.{Left, items_left, IsGiven}

-- What a reader has: its source, the octets that it read from the item on at which it stands, how many of these are that
-- item (none where it stands at no item), how many octets of the input stand before them, how many more it may take, and
-- whether it takes no more of the source.
pub record Reading (S : Type 0) : Type 0 where
  pub source : S
  pub ahead : List ℕ
  pub size : ℕ
  pub place : ℕ
  pub quota : ℕ
  pub ended : Bool

-- the item of this many octets, by what is said of those from its `GRIB` on
abbrev pub item_by : ℕ → List ℕ → ℕ → Judgement → Item
item_by place octets size (Message total) = Accepted (message_after place (take total octets))
item_by place octets size (Faulty fault) = Refused (passed_after place fault (take size octets))

-- the item at which it stands
abbrev pub current : {S : Type 0} → Reading S → Option Item
current reading = cond (reading.size == 0) None (Some (item_by reading.place reading.ahead reading.size (judge reading.ahead)))

-- what is left behind that item, where these octets follow those that were read
abbrev pub left_with : {S : Type 0} → Reading S → List ℕ → Left
left_with reading later = record { octets = drop reading.size reading.ahead ++ later; place = reading.place + reading.size }

-- the octets that the source still gives to it, where the source tells them
abbrev pub rest_of : {S : Type 0} → (S → Option (List ℕ)) → Reading S → Option (List ℕ)
rest_of left reading = cond reading.ended (Some []) (left reading.source)

-- It stands at the first of the items that were left, and the others are left; or at none, and none is left.
abbrev pub StandsAtNext : List Item → Result Bool ReadError → Option Item → List Item → Type 0
StandsAtNext before (Ok true) item after = (first : Item) × (item ≡ Some first) × (before ≡ first ∷ after)
StandsAtNext before (Ok false) item after = (item ≡ None) × (before ≡ []) × (after ≡ [])
StandsAtNext before (Err error) item after = (item ≡ None) × (after ≡ [])

-- what was left is a front that was taken and what is left now, whatever that is
pub record Advances {S : Type 0} (left : S → Option (List ℕ)) (old new : Reading S) (result : Result Bool ReadError) : Type 0 where
  pub taken : List ℕ
  pub takes : Takes (left old.source) (left new.source) taken
  pub still : old.ended ≡ true → (new.source ≡ old.source) × (new.ended ≡ true) × (taken ≡ [])
  pub items : (later : List ℕ) → (new.ended ≡ true → later ≡ [])
      → StandsAtNext (items_left (left_with old (taken ++ later))) result (current new) (items_left (left_with new later))
  pub long : result ≡ Err TooLong → old.place + length old.ahead + length taken ≡ 2 ^ 64 - 1

-- the same, where the source tells its octets
abbrev pub AdvancesOver : {S : Type 0} → (S → Option (List ℕ)) → Reading S → Reading S → Result Bool ReadError → Type 0
AdvancesOver left old new result =
    IfSome (rest_of left old) (λ before. (after : List ℕ) × (rest_of left new ≡ Some after)
    × StandsAtNext (items_left (left_with old before)) result (current new) (items_left (left_with new after)))

-- what is given where it stands
abbrev pub Shows : Option Item → Result Held ReadError → Type 0
Shows None given = given ≡ Err NoMessage
Shows (Some item) given = IsGiven item given

-- the count of the faults of the source: an error of it is counted, and no other
abbrev pub CountsError : ReadError → ℕ → ℕ → Type 0
CountsError NoMessage before now = now ≡ before
CountsError (ReadRefused place fault) before now = now ≡ before
CountsError Memory before now = now ≡ before
CountsError Source before now = Counted before now
CountsError TooLong before now = now ≡ before

abbrev pub CountsFaults : {T : Type 0} → Result T ReadError → ℕ → ℕ → Type 0
CountsFaults result before now = MatchResult result (λ _. now ≡ before) (λ error. CountsError error before now)

-- at the beginning of a source
abbrev pub starting : {S : Type 0} → S → Reading S
starting source = record { source = source; ahead = []; size = 0; place = 0; quota = 2 ^ 64 - 1; ended = false }

-- behind so many of the octets that were read
abbrev pub behind : {S : Type 0} → Reading S → ℕ → Reading S
behind reading count = record {
  source = reading.source;
  ahead = drop count reading.ahead;
  size = 0;
  place = reading.place + count;
  quota = reading.quota;
  ended = reading.ended;
}

-- how many octets may still stand behind the item at which it stands, as a number that falls with each item
abbrev pub turns_left : {S : Type 0} → Reading S → ℕ
turns_left reading = 2 ^ 64 - (reading.place + reading.size)

-- ---- within a call

-- how often it can still read, as a number
abbrev pub reads_left : {S : Type 0} → Reading S → ℕ
reads_left reading = reading.quota + cond reading.ended 0 1

-- octets were read behind those that were there, until so many are there or the input ended
pub record Adds {S : Type 0} (left : S → Option (List ℕ)) (old new : Reading S) (wanted : ℕ) : Type 0 where
  pub taken : List ℕ
  pub takes : Takes (left old.source) (left new.source) taken
  pub ahead : new.ahead ≡ old.ahead ++ taken
  pub place : new.place ≡ old.place
  pub size : new.size ≡ 0
  pub quota : new.quota + length taken ≡ old.quota
  pub still : old.ended ≡ true → (new.source ≡ old.source) × (new.ended ≡ true) × (taken ≡ [])
  pub end : new.ended ≡ true → old.ended ≡ false → IsAtEnd (left new.source)
  pub there : (new.ended ≡ true) ⊎ (wanted ≤ length new.ahead)

-- the items that were left are those that are left
pub record Keeps {S : Type 0} (left : S → Option (List ℕ)) (old new : Reading S) : Type 0 where
  pub taken : List ℕ
  pub takes : Takes (left old.source) (left new.source) taken
  pub still : old.ended ≡ true → (new.source ≡ old.source) × (new.ended ≡ true) × (taken ≡ [])
  pub end : new.ended ≡ true → old.ended ≡ false → IsAtEnd (left new.source)
  pub items : (later : List ℕ) → (new.ended ≡ true → later ≡ []) → items_left (left_with old (taken ++ later)) ≡ items_left (left_with new later)
  pub count : new.place + length new.ahead ≡ old.place + length old.ahead + length taken
  pub on : old.place ≤ new.place

-- reading broke, and nothing is left
pub record Breaks {S : Type 0} (left : S → Option (List ℕ)) (old new : Reading S) (error : ReadError) : Type 0 where
  pub taken : List ℕ
  pub takes : Takes (left old.source) (left new.source) taken
  pub going : old.ended ≡ false
  pub ended : new.ended ≡ true
  pub none : new.ahead ≡ []
  pub size : new.size ≡ 0
  pub long : error ≡ TooLong → old.place + length old.ahead + length taken ≡ 2 ^ 64 - 1
