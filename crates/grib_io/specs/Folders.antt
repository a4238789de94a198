-- What is said of files that are opened under names: what stands under each name, where the folder tells it, and
-- what an open file holds.
use Rattle.std.specs.Prelude.{◌≡◌, ℕ, ◌⊎◌, cond, List, [], None, Some, IfOk, IfSome, OnOk}
use Rattle.std.specs.declared.option.Option.{Option}
use Rattle.std.specs.declared.result.Result.{Result}
use Rattle.std.specs.Prelude.{Ok, Err}
use Rattle.std.specs.declared.io.Error.{Error}
use Rattle.std.specs.declared.io.ErrorKind.TheVariants.{NotFound}
use Rattle.std.specs.IoError.{error_kind}
use Rattle.std.specs.declared.fs.options.OpenOptions.{OpenOptions}
use Rattle.std.specs.Fs.{asks_create, asks_truncate}
use Rattle.std.specs.Io.KnownBytes.{Keeps, ReadConsumes}
use Rattle.grib_io.specs.Shelves.{Held, Turns, OthersStay, Copies}

-- what stands under a name once a file is opened under it: an absent name is made where that is asked for, and
-- what a file had is cut off where that is
abbrev pub opened : OpenOptions → Option (List ℕ) → Option (List ℕ)
opened how None = cond (asks_create how) (Some []) None
opened how (Some octets) = Some (cond (asks_truncate how) [] octets)

-- An open file holds what then stands under its name. A refused call leaves the name as it was, or opened; that it
-- is not found says that it is absent.
abbrev pub OpensName : {F : Type 0} → (F → Option (List ℕ)) → OpenOptions → Result F Error → Option (List ℕ) → Option (List ℕ) → Type 0
OpensName octets how (Ok file) before now = (held : List ℕ) × (opened how before ≡ Some held) × (now ≡ Some held) × (octets file ≡ Some held)
OpensName octets how (Err error) before now = ((now ≡ before) ⊎ (now ≡ opened how before)) × (error_kind error ≡ NotFound → before ≡ None)

-- a call changes what stands under this name, and under no other
pub record Changes (before now : Option Held) (changed : List ℕ) (Change : Option (List ℕ) → Option (List ℕ) → Type 0) : Type 0 where
  pub name : Turns before now changed Change
  pub others : OthersStay before now changed

-- a read of an open file
abbrev pub ReadsOctets : {E : Type 0} → Option (List ℕ) → ℕ → Result ℕ E → List ℕ → Type 0
ReadsOctets held offset result into = IfSome held (λ octets. IfOk result (λ count. Copies octets offset count into))

-- From `before` on, a file was sought to the offset, and then gave these octets: what it has left there begins with them.
pub record SeeksAndReads {F E : Type 0} (position : F → Option ℕ) (bytes left : F → Option (List ℕ)) (before now : F) (offset : ℕ) (result : Result ℕ E) (into : List ℕ)
    : Type 0 where
  pub sought : F
  pub moved : IfSome (position before) (λ at. position sought ≡ Some offset)
  pub kept : Keeps (bytes before) (bytes sought)
  pub read : ReadConsumes (left sought) (left now) result into

-- so where a read of a file answers how many octets it gave
abbrev pub ReadsPlaced : {F E : Type 0} → (F → Option ℕ) → (F → Option (List ℕ)) → (F → Option (List ℕ)) → F → F → ℕ → Result ℕ E → List ℕ → Type 0
ReadsPlaced position bytes left before now offset result into = OnOk result (SeeksAndReads position bytes left before now offset result into)
