-- Where no field of a message has a cause, the places of each are told.
use Rattle.std.proofs.Common.{◌≡◌, ℕ, ◌+◌, ◌≤◌, true, Option, Some, None, is_none, List, refl, arith}
use Rattle.grib_base.proofs.Firsts.{none_each}
use Rattle.grib_base.specs.Rules.{or_later}
use Rattle.grib2_message.specs.Fields.{field_count, part_octets}
use Rattle.grib_places.specs.Places.{place_cause_of}
use Rattle.grib_command.specs.LawfulCommands.{unmapped}
use Rattle.grib_reasons.specs.declared.cause.Cause.{Cause}
use Rattle.grib_placed.specs.Causes.{cause_of_field, field_place_cause, message_place_cause}

none_of : (o : Option Cause) → is_none o ≡ true → o ≡ None
none_of None is = refl
none_of (Some cause) is = let no : ⊥ = cc in absurd no

pub told : (m : List ℕ) (i : ℕ) → 1 ≤ i → i ≤ field_count m → is_none (message_place_cause m) ≡ true → place_cause_of (part_octets m i 3) ≡ None
told m i first last none =
    unmapped (cause_of_field i) (place_cause_of (part_octets m i 3))
    (none_each (field_place_cause m) 1 (field_count m) i (none_of (message_place_cause m) none) first (omega arith))

-- no first cause, and no later one
pub neither : (first : Option Cause) (later : Unit {0} → Option Cause) → is_none (or_later first later) ≡ true → (is_none first ≡ true) × (is_none (later tt) ≡ true)
neither None later none = (refl, none)
neither (Some cause) later none = let no : ⊥ = cc in absurd no
