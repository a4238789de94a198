-- Why a message is not changed, as a note prints it.
use Rattle.std.specs.Prelude.{ℕ, List, ◌++◌, codes}
use Rattle.std.specs.Fmt.{decimal}
use Rattle.grib_keys.specs.Keys.{name_of}
use Rattle.grib_keys.specs.Keys1.{name1_of}
use Rattle.grib_reasons.specs.declared.cause.Cause.{Cause}
use Rattle.grib_reasons.specs.declared.cause.Cause.TheVariants.{EditionOne, EditionTwo, SecondaryMissing, OutOfRange, DifferenceRange, OutputTooLong, KeyRange, KeyRange1, KeyAbsent, Lost, GridKind, ScanMode, OutsideBox, Increments, DecimalRange, Demoted, Packing, Date}
use Rattle.grib_reasons.specs.Losses.{loss_text}
use Rattle.grib_reasons.specs.Demotions.{demotion_text}

-- the name of the cause, and where it stands: fields count from 1 in their message, points from 1 in their field
abbrev pub cause_text : Cause → List ℕ
cause_text EditionOne = codes "EditionOne"
cause_text EditionTwo = codes "EditionTwo"
cause_text (SecondaryMissing field point) = codes "SecondaryMissing field " ++ decimal field ++ codes " point " ++ decimal point
cause_text (OutOfRange field point) = codes "OutOfRange field " ++ decimal field ++ codes " point " ++ decimal point
cause_text (DifferenceRange field) = codes "DifferenceRange field " ++ decimal field
cause_text (OutputTooLong length) = codes "OutputTooLong " ++ decimal length
cause_text (KeyRange key) = codes "KeyRange " ++ name_of key
cause_text (KeyRange1 key) = codes "KeyRange " ++ name1_of key
cause_text (KeyAbsent field key) = codes "KeyAbsent " ++ name_of key ++ codes " field " ++ decimal field
cause_text (Lost loss) = codes "Loss " ++ loss_text loss
cause_text (Demoted field loss) = codes "Demotion " ++ demotion_text loss ++ codes " field " ++ decimal field
cause_text (GridKind field) = codes "GridKind field " ++ decimal field
cause_text (ScanMode field) = codes "ScanMode field " ++ decimal field
cause_text (OutsideBox field) = codes "OutsideBox field " ++ decimal field
cause_text (Increments field) = codes "Increments field " ++ decimal field
cause_text (DecimalRange field point) = codes "DecimalRange field " ++ decimal field ++ codes " point " ++ decimal point
cause_text (Packing template field) = codes "Packing " ++ decimal template ++ codes " field " ++ decimal field
cause_text Date = codes "Date"
