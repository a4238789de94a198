-- A field of a message of edition 2 is one of its fields.
use Rattle.std.proofs.Common.{◌≡◌, ℕ, ◌≤◌, List, subst}
use Rattle.grib_base.specs.declared.profile.Profile.TheVariants.{Stated}
use Rattle.grib2_message.specs.Fields.{field_count}
use Rattle.grib2_message.specs.Message.{IsMessage}
use Rattle.grib_dispatch.specs.Reading.{IsHeld}
use Rattle.grib_dispatch.specs.declared.reading.Held.{Held}
use Rattle.grib_dispatch.specs.declared.reading.Held.TheVariants.{Two}
use Rattle.grib.specs.Message.{field_count_in}

pub second_last : (held : Held) (message : List ℕ) (number : ℕ) → held ≡ Two message → number ≤ field_count_in held → number ≤ field_count message
second_last held message number is last = subst (λ h. number ≤ field_count_in h) is last

-- and the message is accepted
pub second_accepted : (held : Held) (message : List ℕ) → held ≡ Two message → IsHeld Stated held → IsMessage message
second_accepted held message is accepted = subst (λ (h : Held). IsHeld Stated h) is accepted
