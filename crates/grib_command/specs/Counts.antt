-- The counts of faults of the output and the notes after a call that used both.
use Rattle.std.specs.Prelude.{◌≡◌, ℕ}
use Rattle.grib_io.specs.declared.outside.Stop.{Stop}
use Rattle.grib_io.specs.declared.outside.Stop.TheVariants.{Failed, Memory}
use Rattle.grib_stream.specs.Faults.{OneCounted}

-- neither count changed
abbrev pub NoneCounted : ℕ → ℕ → ℕ → ℕ → Type 0
NoneCounted first first_now second second_now = (first_now ≡ first) × (second_now ≡ second)

-- after a call that stopped: no memory is no fault
abbrev pub CountsEither : Stop → ℕ → ℕ → ℕ → ℕ → Type 0
CountsEither Failed first first_now second second_now = OneCounted first first_now second second_now
CountsEither Memory first first_now second second_now = NoneCounted first first_now second second_now
