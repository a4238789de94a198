-- `repack to=least`: each message with each of its fields in the fewest octets.
use Rattle.std.proofs.Common.{◌≤◌, None, length, arith}
use Rattle.grib_base.specs.declared.limits.TheConstants.{MOST_OCTETS}
use Rattle.grib_base.specs.declared.profile.Profile.{Profile}
use Rattle.grib_base.specs.declared.profile.Profile.TheVariants.{Open}
use Rattle.grib2_message.specs.Assembled.{assembled}
use Rattle.grib2_message.proofs.Parted.{message_most}
use Rattle.grib_least.specs.Least.{least, least_forms}
use Rattle.grib_least.proofs.Kept.{no_longer}
use Rattle.grib_command.specs.Command.{Command, IsLawfulCommand, changing_unless, reading_values}
use Rattle.grib_command.specs.LawfulCommands.{values_unless_lawful}

-- by the packings that a profile has; no message whose values can be read is kept
abbrev pub shrinking : Profile → Command
shrinking profile = changing_unless (λ message. None) (least profile)

abbrev pub least_command : Profile → Command
least_command profile = reading_values (shrinking profile)

-- ---- it is lawful

pub least_lawful : (profile : Profile) → IsLawfulCommand (least_command profile)
least_lawful profile = values_unless_lawful (λ message. None) (least profile) (λ message h readable none.
    let shorter : length (least profile message) ≤ length message = no_longer message (assembled message (least_forms profile message)) in
    let most : length message ≤ MOST_OCTETS = message_most Open message h in
    omega (arith, shorter, most))
