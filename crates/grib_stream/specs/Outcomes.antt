-- The outcomes of a run.
use Rattle.std.specs.Prelude.{◌≡◌, ◌⊎◌, ℕ, ◌==◌, Bool, true, false, not, cond}
use Rattle.grib_base.specs.declared.fault.Reason.{Reason}
use Rattle.grib_base.specs.declared.fault.Reason.TheVariants.{Truncated}
use Rattle.grib_stream.specs.declared.outcome.FileRefusal.{FileRefusal}
use Rattle.grib_stream.specs.declared.outcome.FileRefusal.TheVariants as files
use Rattle.grib_stream.specs.declared.outcome.Outcome.{Outcome}
use Rattle.grib_stream.specs.declared.outcome.Outcome.TheVariants.{Done, Passed, Differs, Usage, Refused, Kept, TableRefused, SurfacesRefused, FileRefused, ReadFault, WriteFault, ShelfFault, Memory, InputTooLong}

-- the exit status where a file is not compared: it is absent, or a message of it is refused
abbrev pub file_status : FileRefusal → ℕ
file_status files.Absent = 4
file_status (files.Refused refusal) = 2

-- the exit status
abbrev pub status_of : Outcome → ℕ
status_of Done = 0
status_of (Passed refused kept) = cond (refused == 0) 3 2
status_of Differs = 12
status_of (Usage word) = 1
status_of (Refused refusal) = 2
status_of (Kept kept) = 3
status_of (TableRefused refusal) = 4
status_of (SurfacesRefused refusal) = 4
status_of (FileRefused refusal) = file_status refusal
status_of ReadFault = 5
status_of WriteFault = 6
status_of ShelfFault = 7
status_of Memory = 8
status_of InputTooLong = 9

-- whether octets are refused only for their end, so that more of them may be accepted
abbrev pub is_truncated : Reason → Bool
is_truncated Truncated = true
is_truncated _ = false

-- What brought an outcome: the end of the input, where all was done; a message, and whether more octets may change the
-- outcome; the arguments, a table or the file to compare with, before any input was read; the input; the shelf; the
-- output, the notes or a lack of memory, which cut a run short; or an input of more octets than are taken.
pub data Kind : Type 0 where
  Whole : Kind
  OfMessage : Bool → Kind
  BeforeInput : Kind
  OfInput : Kind
  OfShelf : Kind
  CutShort : Kind
  Long : Kind

abbrev pub kind_of : Outcome → Kind
kind_of Done = Whole
kind_of (Passed refused kept) = Whole
kind_of Differs = Whole
kind_of (Usage word) = BeforeInput
kind_of (Refused refusal) = OfMessage (is_truncated refusal.fault.reason)
kind_of (Kept kept) = OfMessage false
kind_of (TableRefused refusal) = BeforeInput
kind_of (SurfacesRefused refusal) = BeforeInput
kind_of (FileRefused refusal) = BeforeInput
kind_of ReadFault = OfInput
kind_of WriteFault = CutShort
kind_of ShelfFault = OfShelf
kind_of Memory = CutShort
kind_of InputTooLong = Long

abbrev pub ends_whole : Kind → Bool
ends_whole Whole = true
ends_whole _ = false

-- whether a run ends with it at the end of its input, where all was done
abbrev pub is_whole : Outcome → Bool
is_whole outcome = ends_whole (kind_of outcome)

abbrev pub breaks : Kind → Bool
breaks OfInput = true
breaks OfShelf = true
breaks CutShort = true
breaks _ = false

-- whether a device or a lack of memory ended the run, before or after its answer was found
abbrev pub is_broken : Outcome → Bool
is_broken outcome = breaks (kind_of outcome)

abbrev pub cuts_short : Kind → Bool
cuts_short CutShort = true
cuts_short _ = false

-- whether writing the output or the notes broke, or memory ran out: then output and notes may wait for the rest
abbrev pub is_cut_short : Outcome → Bool
is_cut_short outcome = cuts_short (kind_of outcome)

abbrev pub cuts_within : Kind → Bool
cuts_within OfShelf = true
cuts_within CutShort = true
cuts_within _ = false

-- whether a run may end with it within what is done for a message: then some front of that was done. After
-- a fault of the shelf the output and the notes are still brought to their end.
abbrev pub is_cut_within : Outcome → Bool
is_cut_within outcome = cuts_within (kind_of outcome)

abbrev pub stays_open : Kind → Bool
stays_open Whole = true
stays_open (OfMessage truncated) = truncated
stays_open _ = false

-- whether more octets may change the outcome: the end of the input brought it
abbrev pub is_open : Outcome → Bool
is_open outcome = stays_open (kind_of outcome)

abbrev pub ends_before : Kind → Bool
ends_before (OfMessage truncated) = not truncated
ends_before _ = false

-- whether it is of a message, before which the run ends, whatever follows
abbrev pub is_of_message : Outcome → Bool
is_of_message outcome = ends_before (kind_of outcome)

-- the end of a run keeps the outcome, or writing the output or the notes broke, or memory ran out
abbrev pub KeepsOrCuts : Outcome → Outcome → Type 0
KeepsOrCuts outcome result = (result ≡ outcome) ⊎ (is_cut_short result ≡ true)
