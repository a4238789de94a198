-- A shelf of the files of a folder.
use Rattle.std.proofs.Common.{◌≡◌, ℕ, ◌+◌, ◌-◌, ◌≤◌, true, List, length, take, drop, Option, None, Some, Result, Ok, Err, OnErr, refl, sym, ap, ◌∙◌, subst, arith, ⊎_elim, length-drop, take-append-drop}
use Rattle.std.proofs.lemmas.Bool.{cases_Bool, false≢true}
use Rattle.std.proofs.lemmas.List.{take_all}
use Rattle.std.proofs.lemmas.Slice.Eq.{bytes_eq-Decides}
use Rattle.std.proofs.Math.Seq.{take-add}
use Rattle.std.proofs.KnownBytes.{Appends-trans, Appends-kept}
use Rattle.std.specs.Str.{bytes_eq}
use Rattle.std.specs.declared.io.Error.{Error}
use Rattle.std.specs.declared.fs.options.OpenOptions.{OpenOptions}
use Rattle.std.specs.Fs.{new_options, with_append, with_create, with_read, with_truncate, with_write}
use Rattle.std.specs.Io.KnownBytes.{Appends, Keeps}
use Rattle.grib_io.specs.Outside.{AppendsFront}
use Rattle.grib_io.specs.Shelves.{Held, Stays}
use Rattle.grib_io.specs.Folders.{opened, OpensName, Changes}

-- how a file is opened to be read, to be made, and to be added to
abbrev pub reading : OpenOptions
reading = with_read new_options true

abbrev pub making : OpenOptions
making = with_truncate (with_create (with_write new_options true) true) true

abbrev pub adding : OpenOptions
adding = with_create (with_append new_options true) true

read_opened : (held : Option (List ℕ)) → opened reading held ≡ held
read_opened None = refl
read_opened (Some octets) = refl

-- ---- reading

module _ {F : Type 0} (octets : F → Option (List ℕ)) where
  read_keeps : (how : OpenOptions) → how ≡ reading → (result : Result F Error) (before now : Option (List ℕ)) → OpensName octets how result before now → now ≡ before
  read_keeps how is (Ok file) before now opens = opens.2 ∙ (sym opens.1 ∙ (ap (λ h. opened h before) is ∙ read_opened before))
  read_keeps how is (Err error) before now opens =
      ⊎_elim (λ stayed. stayed) (λ changed. changed ∙ (ap (λ h. opened h before) is ∙ read_opened before)) opens.0

  -- a file that is opened to be read changes nothing
  pub read_stays : (how : OpenOptions) → how ≡ reading → (result : Result F Error) (before now : Option Held) (name : List ℕ)
      → Changes before now name (OpensName octets how result) → Stays before now
  read_stays how is result None now name changes = tt
  read_stays how is result (Some before) None name changes = changes.others
  read_stays how is result (Some before) (Some now) name changes =
      λ other.
      ⊎_elim
      (λ same.
      let e : other ≡ name = (bytes_eq-Decides other name).0 same in
      ap now e ∙ (read_keeps how is result (before name) (now name) changes.name ∙ sym (ap before e)))
      (λ differs. changes.others other (λ e. false≢true (sym differs ∙ (bytes_eq-Decides other name).1 e)))
      (cases_Bool (bytes_eq other name))

-- ---- adding a piece

any_err : {T E : Type 0} (result : Result T E) (P : Type 0) → P → OnErr result P
any_err (Ok value) P holds = tt
any_err (Err error) P holds = holds

-- a front of a piece and some of the rest are a longer front
pub grown : (a b c : Option (List ℕ)) (piece : List ℕ) (done count : ℕ) → done ≤ length piece → Appends a b (take done piece)
    → Appends b c (take count (take (length piece - done) (drop done piece))) → Appends a c (take (done + count) piece)
grown a b c piece done count within added more =
    let rest : take (length piece - done) (drop done piece) ≡ drop done piece = take_all (length piece - done) (drop done piece) (omega (arith, length-drop done piece)) in
    subst (Appends a c) (sym (take-add done count piece))
    (Appends-trans a b c (take done piece) (take count (drop done piece)) added (subst (λ xs. Appends b c (take count xs)) rest more))

pub front_added : (a b : Option (List ℕ)) (piece : List ℕ) (done : ℕ) → Appends a b (take done piece) → AppendsFront a b piece
front_added a b piece done added = (take done piece, drop done piece, sym (take-append-drop done piece), added)

pub front_kept : {T E : Type 0} (result : Result T E) (a b c : Option (List ℕ)) (piece : List ℕ) (done : ℕ) → Appends a b (take done piece) → Keeps b c
    → OnErr result (AppendsFront a c piece)
front_kept result a b c piece done added kept =
    any_err result (AppendsFront a c piece) (front_added a c piece done (Appends-kept a b c (take done piece) added kept))

pub whole_added : (a b : Option (List ℕ)) (piece : List ℕ) (done : ℕ) → length piece ≤ done → Appends a b (take done piece) → Appends a b piece
whole_added a b piece done all added = subst (Appends a b) (take_all done piece all) added
