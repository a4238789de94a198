-- Octets on their way to a sink.
use Rattle.std.specs.Prelude.{◌≡◌, ◌≢◌, ℕ, ◌⊎◌, List, OnOk, IfErr, Err}
use Rattle.std.specs.declared.option.Option.{Option}
use Rattle.std.specs.declared.result.Result.{Result}
use Rattle.std.specs.Io.KnownBytes.{Appends}
use Rattle.grib_io.specs.Outside.{AppendsFront, Counted}
use Rattle.grib_stream.specs.declared.outcome.Outcome.{Outcome}
use Rattle.grib_stream.specs.declared.outcome.Outcome.TheVariants.{WriteFault, Memory}

-- A call that writes these octets: all were appended where it succeeds, and some front of them in any case. A fault by
-- which it stops is counted.
pub record Writes {T : Type 0} (result : Result T Outcome) (before now : Option (List ℕ)) (octets : List ℕ) (faults faults_now : ℕ) : Type 0 where
  pub whole : OnOk result (Appends before now octets)
  pub front : AppendsFront before now octets
  pub one_of : IfErr result (λ outcome. (outcome ≡ WriteFault) ⊎ (outcome ≡ Memory))
  pub counted : result ≡ Err WriteFault → Counted faults faults_now
  pub calm : result ≢ Err WriteFault → faults_now ≡ faults
