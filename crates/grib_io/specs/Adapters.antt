-- A reader, a writer and a folder of files with a count of their faults.
use Rattle.std.specs.Prelude.{ℕ, Bool}

pub record CountedReader (R : Type 0) : Type 0 where
  pub reader : R
  pub faults : ℕ

pub record CountedWriter (W : Type 0) : Type 0 where
  pub writer : W
  pub faults : ℕ
  pub settled : Bool
  -- whether something was written that the writer was not yet made to pass on
  pub held : Bool

pub record CountedFolder (D : Type 0) : Type 0 where
  pub folder : D
  pub faults : ℕ
