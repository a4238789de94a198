-- How a run reads on, or finds that it cannot.
use Rattle.std.specs.Prelude.{◌≡◌, ◌≢◌, ℕ, ◌<◌, ◌⊎◌, Bool, true, false, List, length, OnErr, IfOk, IfErr, Err}
use Rattle.std.specs.declared.option.Option.{Option}
use Rattle.std.specs.declared.result.Result.{Result}
use Rattle.grib_io.specs.Outside.{Counted}
use Rattle.grib_stream.specs.declared.outcome.Outcome.{Outcome}
use Rattle.grib_stream.specs.declared.outcome.Outcome.TheVariants.{ReadFault, Memory}
use Rattle.grib_stream.specs.declared.gathering.Rest.{Rest}
use Rattle.grib_stream.specs.declared.gathering.Rest.TheVariants.{Open, Full, Ended}
use Rattle.grib_stream.specs.Reading.{Gathers, Probes}
use Rattle.grib_stream.specs.Rest.{Stands}

-- as many octets were read as are wanted, or as the input goes and as may be taken, or reading broke before
pub record ReadsOn (result : Result Rest Outcome) (a b : Option (List ℕ)) (old new : List ℕ) (left left_now wanted : ℕ) (faults faults_now : ℕ) : Type 0 where
  pub gathers : Gathers a b old new left left_now
  pub stands : IfOk result (λ rest. Stands rest wanted (length new) left_now b)
  pub fewer : OnErr result (length new < wanted)
  pub one_of : IfErr result (λ outcome. (outcome ≡ ReadFault) ⊎ (outcome ≡ Memory))
  pub counted : result ≡ Err ReadFault → Counted faults faults_now
  pub calm : result ≢ Err ReadFault → faults_now ≡ faults

-- no more may be taken, and one octet more was asked for: the input is at its end, or goes on, or failed
pub record FindsEnd (result : Result Rest Outcome) (a b : Option (List ℕ)) (old new : List ℕ) (left left_now : ℕ) (faults faults_now : ℕ) : Type 0 where
  pub kept : new ≡ old
  pub none_taken : left_now ≡ left
  pub probes : Probes result a b faults faults_now
  pub ended : IfOk result (λ rest. rest ≡ Ended)

abbrev pub Advances : Rest → Result Rest Outcome → Option (List ℕ) → Option (List ℕ) → List ℕ → List ℕ → ℕ → ℕ → ℕ → ℕ → ℕ → Type 0
Advances Open result a b old new left left_now wanted faults faults_now = ReadsOn result a b old new left left_now wanted faults faults_now
Advances Full result a b old new left left_now wanted faults faults_now = FindsEnd result a b old new left left_now faults faults_now
Advances Ended result a b old new left left_now wanted faults faults_now = FindsEnd result a b old new left left_now faults faults_now

-- how often what may be read can still become less, as a number
abbrev pub advances_left : Rest → ℕ
advances_left Open = 2
advances_left Full = 1
advances_left Ended = 0

-- whether more octets may follow, as far as is known
abbrev pub goes_on : Rest → Bool
goes_on Open = true
goes_on Full = true
goes_on Ended = false
