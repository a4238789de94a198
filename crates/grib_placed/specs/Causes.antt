-- Why the places of the points of a message of edition 2 are not told.
use Rattle.std.specs.Prelude.{ℕ, Option, option_map, List}
use Rattle.grib_base.specs.Rules.{first_among}
use Rattle.grib2_message.specs.Fields.{field_count, part_octets}
use Rattle.grib_reasons.specs.declared.cause.Cause.{Cause}
use Rattle.grib_reasons.specs.declared.cause.Cause.TheVariants.{GridKind, ScanMode}
use Rattle.grib_places.specs.declared.cause.PlaceCause.{PlaceCause}
use Rattle.grib_places.specs.declared.cause.PlaceCause.TheVariants as places
use Rattle.grib_places.specs.Places.{place_cause_of}

-- a cause of field i
abbrev pub cause_of_field : ℕ → PlaceCause → Cause
cause_of_field i places.GridKind = GridKind i
cause_of_field i places.ScanMode = ScanMode i

-- that by its grid
abbrev pub field_place_cause : List ℕ → ℕ → Option Cause
field_place_cause message i = option_map (cause_of_field i) (place_cause_of (part_octets message i 3))

-- the first of a message
abbrev pub message_place_cause : List ℕ → Option Cause
message_place_cause message = first_among (field_place_cause message) (field_count message) 1
