-- Octets on their way to a sink, at once or through a buffer. A sink is seen by what it tells of its octets, by
-- the count of its faults, and by what is settled.
use Rattle.std.specs.Prelude.{◌≡◌, ℕ, Bool, List, ◌++◌, OnOk}
use Rattle.std.specs.declared.option.Option.{Option}
use Rattle.std.specs.declared.result.Result.{Result}
use Rattle.std.specs.Io.KnownBytes.{Appends}
use Rattle.grib_io.specs.Outside.{AppendsFront, CountsStops, Unfinished}
use Rattle.grib_io.specs.declared.outside.Stop.{Stop}

-- a call that writes these octets: all were appended where it succeeds, and some front of them in any case
pub record Writes {T E : Type 0} (result : Result T E) (before now : Option (List ℕ)) (octets : List ℕ) : Type 0 where
  pub whole : OnOk result (Appends before now octets)
  pub front : AppendsFront before now octets

-- Of these octets, all but the pending ones were appended to what was held.
abbrev pub AppendsAllBut : Option (List ℕ) → Option (List ℕ) → List ℕ → List ℕ → Type 0
AppendsAllBut before now octets pending = (written : List ℕ) × (octets ≡ written ++ pending) × Appends before now written

-- a call that writes these octets through a buffer, in which some are pending where it succeeds
pub record WritesAllBut {T E : Type 0} (result : Result T E) (before now : Option (List ℕ)) (octets pending : List ℕ) : Type 0 where
  pub whole : OnOk result (AppendsAllBut before now octets pending)
  pub front : AppendsFront before now octets

-- A call that writes this text to a sink: the fault by which it stops is counted, and no other. It finishes nothing.
pub record WritesTo {Sink T : Type 0} (contents : Sink → Option (List ℕ)) (faults : Sink → ℕ) (settled : Sink → Bool) (result : Result T Stop) (before now : Sink) (text : List ℕ) : Type 0 where
  pub octets : Writes result (contents before) (contents now) text
  pub counted : CountsStops result (faults before) (faults now)
  pub unfinished : Unfinished (settled before) (settled now)

-- and one that writes it through a buffer
pub record WritesToAllBut {Sink T : Type 0} (contents : Sink → Option (List ℕ)) (faults : Sink → ℕ) (settled : Sink → Bool) (result : Result T Stop) (before now : Sink) (text pending : List ℕ) : Type 0 where
  pub octets : WritesAllBut result (contents before) (contents now) text pending
  pub counted : CountsStops result (faults before) (faults now)
  pub unfinished : Unfinished (settled before) (settled now)
