-- What was read of the octets from a `GRIB` on.
use Rattle.std.specs.Prelude.{◌≡◌, ℕ, List, length, take}
use Rattle.grib_stream.specs.Stream.{Message, Faulty}
use Rattle.grib1_sections.specs.Message.{IsMessage1}
use Rattle.grib2_message.specs.Message.{IsMessageUnder}
use Rattle.grib_base.specs.declared.profile.Profile.{Profile}
use Rattle.grib_base.specs.declared.fault.ReadFault.{ReadFault}
use Rattle.grib_base.specs.declared.fault.ReadFault.TheVariants.{Refused, Memory}
use Rattle.grib_dispatch.specs.declared.reading.Held.{Held}
use Rattle.grib_dispatch.specs.declared.reading.Held.TheVariants.{One, Two}
use Rattle.grib_command.specs.Judging.{judge_under}

-- the octets of a message
abbrev pub held_octets : Held → List ℕ
held_octets (One message) = message
held_octets (Two message) = message

-- they are accepted by a profile, and no more, as a message of its edition
abbrev pub IsHeld : Profile → Held → Type 0
IsHeld profile (One message) = IsMessage1 message
IsHeld profile (Two message) = IsMessageUnder profile message

-- they begin with this message
pub record Holds (profile : Profile) (octets : List ℕ) (held : Held) : Type 0 where
  pub judged : judge_under profile octets ≡ Message (length (held_octets held))
  pub message : held_octets held ≡ take (length (held_octets held)) octets
  pub accepted : IsHeld profile held

-- why there is no message; no memory says nothing of them
abbrev pub IsUnread : Profile → List ℕ → ReadFault → Type 0
IsUnread profile octets (Refused fault) = judge_under profile octets ≡ Faulty fault
IsUnread profile octets Memory = Unit {0}
