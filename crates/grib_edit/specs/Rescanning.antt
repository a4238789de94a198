-- `rescan` and `crop`: each message in the order of scanning octet 0, or a box of its grids.
use Rattle.std.proofs.Common.{◌≡◌, ℕ, ◌≤◌, true, false, cond, Option, Some, None, option_map, List, length, nat_lt, ap, ⊎_elim, ltb-false}
use native.Mathlib.Bridge.{le_prop}
use mathlib.Core.HLevel.{×_prop, Unit-prop}
use Rattle.std.proofs.lemmas.Bool.{cases_Bool}
use Rattle.grib_base.proofs.Firsts.{none_later}
use Rattle.grib_base.specs.Rules.{first_among}
use Rattle.grib_base.specs.declared.limits.TheConstants.{MOST_OCTETS}
use Rattle.grib2_message.specs.Fields.{field_count}
use Rattle.grib_packing.specs.Misfits as packing
use Rattle.grib_rescan.specs.declared.cause.GridCause.TheVariants as grid
use Rattle.grib_reorder.specs.declared.edit.GridEdit.{GridEdit}
use Rattle.grib_reorder.specs.declared.edit.GridEdit.TheVariants.{Rescan, Crop, Within}
use Rattle.grib_reorder.specs.declared.fault.RescanFault.{RescanFault}
use Rattle.grib_reorder.specs.declared.fault.RescanFault.TheVariants as faults
use Rattle.grib_reorder.specs.Rescanned.{Stands, EditMisfit, OfGrid, OfColumn, TooLong, edited, length_misfit, edit_misfit, field_misfit}
use Rattle.grib_reasons.specs.declared.cause.Cause.{Cause}
use Rattle.grib_reasons.specs.declared.cause.Cause.TheVariants as causes
use Rattle.grib_command.specs.declared.answered.Answered.{Answered}
use Rattle.grib_command.specs.declared.answered.Answered.TheVariants.{Kept, Memory}
use Rattle.grib_command.specs.Command.{Command, IsLawfulCommand, changing_unless, reading_values}
use Rattle.grib_command.specs.LawfulCommands.{values_unless_lawful, unmapped}

-- the misfit of a message as the cause that it is kept by
abbrev pub edit_cause : EditMisfit → Cause
edit_cause (OfGrid field grid.GridKind) = causes.GridKind field
edit_cause (OfGrid field grid.ScanMode) = causes.ScanMode field
edit_cause (OfGrid field grid.OutsideBox) = causes.OutsideBox field
edit_cause (OfGrid field grid.Increments) = causes.Increments field
edit_cause (OfColumn field (packing.SecondaryMissing point)) = causes.SecondaryMissing field point
edit_cause (OfColumn field (packing.OutOfRange point)) = causes.OutOfRange field point
edit_cause (OfColumn field packing.DifferenceRange) = causes.DifferenceRange field
edit_cause (TooLong length) = causes.OutputTooLong length

-- of messages whose values can be read
abbrev pub editing : GridEdit → Command
editing edit = changing_unless (λ message. option_map edit_cause (edit_misfit edit message)) (edited edit)

abbrev pub edit_command : GridEdit → Command
edit_command edit = reading_values (editing edit)

-- what comes of a message that is not edited
abbrev pub answered_unedited : RescanFault → Answered
answered_unedited (faults.GridKind field) = Kept (causes.GridKind field)
answered_unedited (faults.ScanMode field) = Kept (causes.ScanMode field)
answered_unedited (faults.OutsideBox field) = Kept (causes.OutsideBox field)
answered_unedited (faults.Increments field) = Kept (causes.Increments field)
answered_unedited (faults.OutOfRange field point) = Kept (causes.OutOfRange field point)
answered_unedited (faults.DifferenceRange field) = Kept (causes.DifferenceRange field)
answered_unedited (faults.OutputTooLong length) = Kept (causes.OutputTooLong length)
answered_unedited faults.Memory = Memory

-- ---- that a box stands is a fact

pub Stands-prop : (edit : GridEdit) → IsProp (Stands edit)
Stands-prop Rescan = Unit-prop
Stands-prop (Crop area) = ×_prop le_prop le_prop
Stands-prop (Within bounds) = Unit-prop

-- ---- it is lawful

fits_length : (l : ℕ) → length_misfit l ≡ None → l ≤ MOST_OCTETS
fits_length l none =
    ⊎_elim
    (λ (long : nat_lt MOST_OCTETS l ≡ true).
    let some : length_misfit l ≡ Some (TooLong l) = ap (λ b. cond b (Some (TooLong l)) None) long in
    let no : ⊥ = cc in absurd no)
    (λ (short : nat_lt MOST_OCTETS l ≡ false). ltb-false MOST_OCTETS l short)
    (cases_Bool (nat_lt MOST_OCTETS l))

few_of : (edit : GridEdit) (message : List ℕ) → edit_misfit edit message ≡ None → length (edited edit message) ≤ MOST_OCTETS
few_of edit message none =
    fits_length (length (edited edit message))
    (none_later (first_among (field_misfit edit message) (field_count message) 1) (λ _. length_misfit (length (edited edit message))) none).1

pub edit_lawful : (edit : GridEdit) → IsLawfulCommand (edit_command edit)
edit_lawful edit = values_unless_lawful _ _ (λ message h readable none. few_of edit message (unmapped edit_cause (edit_misfit edit message) none))
