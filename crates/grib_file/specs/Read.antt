-- What was read of a file that stands on a shelf under a name.
use Rattle.std.specs.Prelude.{◌≡◌, ℕ, ◌≤◌, List, Option, None, Some, Result, Ok, Err, length, true}
use Rattle.grib_base.specs.declared.profile.Profile.{Profile}
use Rattle.grib_io.specs.Outside.{Counted}
use Rattle.grib_io.specs.Shelves.{Held, Stood}
use Rattle.grib_stream.specs.Stream.{Message, begins}
use Rattle.grib_command.specs.Judging.{judge_under, fields_of}
use Rattle.grib_file.specs.Filed.{FieldOf, FileFields, Filed, Good, Refused, filed}
use Rattle.grib_file.specs.declared.stop.FileStop.{FileStop}
use Rattle.grib_file.specs.declared.stop.FileStop.TheVariants as stops

-- a field of a message that is accepted by a profile
pub record IsFieldOf (profile : Profile) (field : FieldOf) : Type 0 where
  pub begun : begins field.message ≡ true
  pub accepted : judge_under profile field.message ≡ Message (length field.message)
  pub first : 1 ≤ field.number
  pub last : field.number ≤ fields_of field.message

-- two fields of one message
abbrev pub AreOfOneMessage : Option FieldOf → Option FieldOf → Type 0
AreOfOneMessage None other = ⊥
AreOfOneMessage (Some field) None = ⊥
AreOfOneMessage (Some field) (Some other) = field.message ≡ other.message

-- what stands under the name is this file; where the shelf does not tell it, some file is
abbrev pub StandsAs : Profile → Option Held → List ℕ → Filed → Type 0
StandsAs profile names name file = (text : Option (List ℕ)) × Stood names name text × (filed profile text ≡ file)

abbrev pub ReadsFile : Result FileFields FileStop → Profile → Option Held → List ℕ → Type 0
ReadsFile (Ok file) profile names name = (file.profile ≡ profile) × StandsAs profile names name (Good file.fields)
ReadsFile (Err (stops.Refused refusal)) profile names name = StandsAs profile names name (Refused refusal)
ReadsFile (Err stops.ShelfFault) profile names name = Unit {0}
ReadsFile (Err stops.Memory) profile names name = Unit {0}

-- the count of the shelf's faults: one more where the shelf failed
abbrev pub CountsFileStop : FileStop → ℕ → ℕ → Type 0
CountsFileStop (stops.Refused refusal) before now = now ≡ before
CountsFileStop stops.ShelfFault before now = Counted before now
CountsFileStop stops.Memory before now = now ≡ before

abbrev pub CountsFile : {T : Type 0} → Result T FileStop → ℕ → ℕ → Type 0
CountsFile (Ok read) before now = now ≡ before
CountsFile (Err stop) before now = CountsFileStop stop before now
