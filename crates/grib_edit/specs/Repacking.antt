-- `repack`: each message with its fields packed anew.
use Rattle.std.proofs.Common.{◌≡◌, ℕ, ◌≤◌, true, false, cond, Option, Some, None, option_map, List, length, nat_lt, ap, ⊎_elim, ltb-false}
use Rattle.std.proofs.lemmas.Bool.{cases_Bool}
use Rattle.grib_base.proofs.Firsts.{none_later}
use Rattle.grib_base.specs.Rules.{first_among}
use Rattle.grib_base.specs.declared.limits.TheConstants.{MOST_OCTETS}
use Rattle.grib2_message.specs.Fields.{field_count}
use Rattle.grib_packing.specs.Misfits.{Target}
use Rattle.grib_packing.specs.declared.target.RepackTarget.{RepackTarget}
use Rattle.grib_packing.specs.Targets.{target_of}
use Rattle.grib_repack.specs.Repacked as misfits
use Rattle.grib_repack.specs.Repacked.{RepackMisfit, repacked, length_misfit, repack_misfit, field_misfit}
use Rattle.grib_reasons.specs.declared.cause.Cause.{Cause}
use Rattle.grib_reasons.specs.declared.cause.Cause.TheVariants.{SecondaryMissing, OutOfRange, DifferenceRange, OutputTooLong}
use Rattle.grib_command.specs.Command.{Command, IsLawfulCommand, changing_unless, reading_values}
use Rattle.grib_command.specs.LawfulCommands.{values_unless_lawful, unmapped}

-- the misfit of a message as the cause that it is kept by
abbrev pub cause_of : RepackMisfit → Cause
cause_of (misfits.SecondaryMissing field point) = SecondaryMissing field point
cause_of (misfits.OutOfRange field point) = OutOfRange field point
cause_of (misfits.DifferenceRange field) = DifferenceRange field
cause_of (misfits.OutputTooLong length) = OutputTooLong length

-- of messages whose values can be read
abbrev pub repacking : RepackTarget → Command
repacking target =
    changing_unless (λ message. option_map cause_of (repack_misfit (target_of target) message)) (repacked (target_of target))

abbrev pub repack_command : RepackTarget → Command
repack_command target = reading_values (repacking target)

-- ---- it is lawful

fits_length : (l : ℕ) → length_misfit l ≡ None → l ≤ MOST_OCTETS
fits_length l none =
    ⊎_elim
    (λ (long : nat_lt MOST_OCTETS l ≡ true).
    let some : length_misfit l ≡ Some (misfits.OutputTooLong l) = ap (λ b. cond b (Some (misfits.OutputTooLong l)) None) long in
    let no : ⊥ = cc in absurd no)
    (λ (short : nat_lt MOST_OCTETS l ≡ false). ltb-false MOST_OCTETS l short)
    (cases_Bool (nat_lt MOST_OCTETS l))

pub few_repacked : (target : Target) (message : List ℕ) → repack_misfit target message ≡ None → length (repacked target message) ≤ MOST_OCTETS
few_repacked target message none =
    fits_length (length (repacked target message))
    (none_later (first_among (field_misfit target message) (field_count message) 1) (λ _. length_misfit (length (repacked target message))) none).1

pub repack_lawful : (target : RepackTarget) → IsLawfulCommand (repack_command target)
repack_lawful target = values_unless_lawful _ _ (λ message h readable none. few_repacked (target_of target) message (unmapped cause_of (repack_misfit (target_of target) message) none))
