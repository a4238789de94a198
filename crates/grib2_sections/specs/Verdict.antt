-- What is said of octets that begin like a message.
use Rattle.std.specs.Prelude.{ℕ}
use Rattle.grib_base.specs.declared.fault.Fault.{Fault}

-- accepted, with the length of the message in octets, or refused
pub data Verdict : Type 0 where
  Accepted : ℕ → Verdict
  Refused : Fault → Verdict
