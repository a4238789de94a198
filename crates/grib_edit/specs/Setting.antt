-- `set`: each message with new values of some keys.
use Rattle.std.proofs.Common.{Bool, cond, Option, Some, None, List, All, IsTrue}
use Rattle.std.specs.Option.{option_or}
use Rattle.grib_base.specs.declared.profile.Profile.TheVariants.{Open}
use Rattle.grib2_message.proofs.Parted.{message_most}
use Rattle.grib_keys.specs.declared.condition.Change.{Change}
use Rattle.grib_keys.specs.Keys.{can_set}
use Rattle.grib_dates.specs.declared.rule.Dates.{Dates}
use Rattle.grib_dates.specs.declared.rule.Dates.TheVariants.{Any, Valid}
use Rattle.grib_dates.specs.Times.{is_valid_time2}
use Rattle.grib_select.specs.Changed.{with_keys, set_fault}
use Rattle.grib_select.specs.declared.changing.SetFault.{SetFault}
use Rattle.grib_select.specs.declared.changing.SetFault.TheVariants.{KeyRange, KeyAbsent, Memory}
use Rattle.grib_select.proofs.Kept.{can_be_set, changed_accepted}
use Rattle.grib_reasons.specs.declared.cause.Cause.{Cause}
use Rattle.grib_reasons.specs.declared.cause.Cause.TheVariants as causes
use Rattle.grib_command.specs.Command.{Command, IsLawfulCommand, changing_unless}
use Rattle.grib_command.specs.LawfulCommands.{unless_lawful}

-- the fault of a change as the cause that a message is kept by. No change is at fault for lack of memory.
abbrev pub set_cause : Option SetFault → Option Cause
set_cause None = None
set_cause (Some (KeyRange key)) = Some (causes.KeyRange key)
set_cause (Some (KeyAbsent field key)) = Some (causes.KeyAbsent field key)
set_cause (Some Memory) = None

-- the cause of a message that would have a valid reference time, or one that is not valid
abbrev pub date_cause : Dates → Bool → Option Cause
date_cause Any valid = None
date_cause Valid valid = cond valid None (Some causes.Date)

-- the fault of a change comes first
abbrev pub set_command : Dates → List Change → Command
set_command dates changes =
    changing_unless
    (λ message. option_or (set_cause (set_fault message changes)) (date_cause dates (is_valid_time2 (with_keys message changes))))
    (λ message. with_keys message changes)

-- ---- it is lawful

pub set_lawful : (dates : Dates) (changes : List Change) → All (λ c. IsTrue (can_set c.key)) changes → IsLawfulCommand (set_command dates changes)
set_lawful dates changes can =
    unless_lawful _ _ (λ message h none. message_most Open (with_keys message changes) (changed_accepted Open message changes h (can_be_set changes can)))
