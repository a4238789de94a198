-- The messages of an input one after the other, and the octets that are refused between them: the items of a run that
-- skips what is refused.
use Rattle.std.specs.Prelude.{◌≡◌, ℕ, true, false, Option, None, Some, Result, Ok, Err, List, [], ◌∷◌}
use Rattle.grib_base.specs.declared.profile.Profile.TheVariants.{Stated}
use Rattle.grib_stream.specs.Stream.{Judgement, Message, Faulty, message_after}
use Rattle.grib_items.specs.Next.{passed}
use Rattle.grib_items.specs.Items.{Item, Accepted, Refused as Skipped, passed_after, items_from}
use Rattle.grib_command.specs.Judging.{judge}
use Rattle.grib_dispatch.specs.Reading.{IsHeld, held_octets}
use Rattle.grib_dispatch.specs.declared.reading.Held.{Held}
use Rattle.grib.specs.declared.fault.ReadError.{ReadError}
use Rattle.grib.specs.declared.fault.ReadError.TheVariants.{NoMessage, Refused, Memory, Source, TooLong}

-- what is left of an input, and how many of its octets stand before that
pub record Left : Type 0 where
  pub octets : List ℕ
  pub place : ℕ

-- its messages, and what is refused: up to the stated end, or its `GRIB` alone
abbrev pub items_left : Left → List Item
items_left left = (items_from judge true false 0 left.place 0 left.octets).items

-- how many octets an item has that begins with a `GRIB`, by what is said of the octets from there on
abbrev pub IsSize : List ℕ → ℕ → Judgement → Type 0
IsSize octets size (Message total) = total ≡ size
IsSize octets size (Faulty fault) = passed false octets ≡ Some size

-- what is given of an item: the message, or where and why it is refused; that there is no memory says nothing of it
abbrev pub IsGiven : Item → Result Held ReadError → Type 0
IsGiven item (Ok message) = ((before : ℕ) × (item ≡ Accepted (message_after before (held_octets message)))) × IsHeld Stated message
IsGiven item (Err (Refused place fault)) = (octets : List ℕ) × (item ≡ Skipped (passed_after place fault octets))
IsGiven item (Err Memory) = Unit {0}
IsGiven item (Err NoMessage) = ⊥
IsGiven item (Err Source) = ⊥
IsGiven item (Err TooLong) = ⊥

-- what a call gives: the next item, or nothing where none is left. Where there is no memory, nothing is left.
abbrev pub GivesNext : Left → Option (Result Held ReadError) → Left → Type 0
GivesNext before None after = (items_left before ≡ []) × (after.octets ≡ [])
GivesNext before (Some (Err Memory)) after = after.octets ≡ []
GivesNext before (Some given) after = (item : Item) × (items_left before ≡ item ∷ items_left after) × IsGiven item given
