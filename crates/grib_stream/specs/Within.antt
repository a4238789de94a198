-- The messages that end within the first octets of an input.
use Rattle.std.specs.Prelude.{ℕ, ◌+◌, Bool, List, length, nat_le, filter}
use Rattle.grib_stream.specs.Stream.{Found}

abbrev pub ends_within : ℕ → Found → Bool
ends_within n found = nat_le (found.before + length found.octets) n

abbrev pub messages_within : ℕ → List Found → List Found
messages_within n messages = filter (ends_within n) messages
