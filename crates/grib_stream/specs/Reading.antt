-- What reading adds to the octets that are still to be answered.
use Rattle.std.specs.Prelude.{◌≡◌, ◌≢◌, ℕ, ◌+◌, ◌<◌, ◌≤◌, ◌⊎◌, List, [], ◌++◌, length, All, OnOk, IfErr}
use Rattle.std.specs.declared.option.Option.{Option}
use Rattle.std.specs.declared.result.Result.{Result}
use Rattle.std.specs.Prelude.{Err}
use Rattle.grib_io.specs.Outside.{Counted}
use Rattle.grib_stream.specs.declared.outcome.Outcome.{Outcome}
use Rattle.grib_stream.specs.declared.outcome.Outcome.TheVariants.{ReadFault, InputTooLong}
use Rattle.std.specs.Io.KnownBytes.{Consumes, Keeps, IsAtEnd}

-- octets that are still to be answered, and how many the buffer has room for in which they lie
pub record Buffered : Type 0 where
  pub octets : List ℕ
  pub room : ℕ

-- these octets, each below 256, were taken
pub record Takes (before now : Option (List ℕ)) (octets : List ℕ) : Type 0 where
  pub consumed : Consumes before now octets
  pub small : All (λ octet. octet < 256) octets

-- this many octets, no more than `most`, were taken and stand behind the others; none only at the end
pub record Reads (before now : Option (List ℕ)) (old new : List ℕ) (count most : ℕ) : Type 0 where
  pub piece : List ℕ
  pub grown : new ≡ old ++ piece
  pub size : length piece ≡ count
  pub few : count ≤ most
  pub taken : Takes before now piece
  pub end : count ≡ 0 → IsAtEnd now

-- octets were taken, one piece after another, of those that may still be taken, and stand behind the others
pub record Gathers (before now : Option (List ℕ)) (old new : List ℕ) (left left_now : ℕ) : Type 0 where
  pub piece : List ℕ
  pub grown : new ≡ old ++ piece
  pub size : left_now + length piece ≡ left
  pub taken : Takes before now piece

-- one octet more was asked for: the input is at its end, or goes on, or failed
pub record Probes {T : Type 0} (result : Result T Outcome) (before now : Option (List ℕ)) (faults faults_now : ℕ) : Type 0 where
  pub ended : OnOk result (IsAtEnd now × Consumes before now [])
  pub goes_on : result ≡ Err InputTooLong → (piece : List ℕ) × (length piece ≡ 1) × Takes before now piece
  pub failed : result ≡ Err ReadFault → Keeps before now
  pub one_of : IfErr result (λ outcome. (outcome ≡ InputTooLong) ⊎ (outcome ≡ ReadFault))
  pub counted : result ≡ Err ReadFault → Counted faults faults_now
  pub calm : result ≢ Err ReadFault → faults_now ≡ faults
