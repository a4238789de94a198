-- What is said of a source and of a sink: the octets that it has left or holds, where it tells them, and
-- a count of its faults, which never falls.
use Rattle.std.specs.Prelude.{◌≡◌, ℕ, ◌+◌, ◌-◌, ◌^◌, ◌≤◌, min, Bool, true, ◌&&◌, ◌==◌, MatchResult, List, ◌++◌}
use Rattle.std.specs.declared.option.Option.{Option}
use Rattle.std.specs.declared.result.Result.{Result}
use Rattle.std.specs.Io.KnownBytes.{Appends}
use Rattle.grib_io.specs.declared.outside.Stop.{Stop}
use Rattle.grib_io.specs.declared.outside.Stop.TheVariants.{Failed, Memory}

-- the count rose, or stands at its end
abbrev pub Rose : ℕ → ℕ → Type 0
Rose before now = min (before + 1) (2 ^ 64 - 1) ≤ now

-- the count rose, and did not fall
abbrev pub Counted : ℕ → ℕ → Type 0
Counted before now = (before ≤ now) × Rose before now

-- the count after a call that failed or not: a call that fails is counted, and no other is
abbrev pub CountsFailure : {T E : Type 0} → Result T E → ℕ → ℕ → Type 0
CountsFailure result before now = MatchResult result (λ _. now ≡ before) (λ _. Counted before now)

-- the count after a call that stopped: that there is no memory is no fault
abbrev pub CountsStop : Stop → ℕ → ℕ → Type 0
CountsStop Failed before now = Counted before now
CountsStop Memory before now = now ≡ before

abbrev pub CountsStops : {T : Type 0} → Result T Stop → ℕ → ℕ → Type 0
CountsStops result before now = MatchResult result (λ _. now ≡ before) (λ stop. CountsStop stop before now)

-- a write that appends leaves something for `finish`, and no other changes that
abbrev pub Settles : {E : Type 0} → Result ℕ E → Bool → Bool → Type 0
Settles result before now = MatchResult result (λ count. now ≡ (before && (count == 0))) (λ _. now ≡ before)

-- nothing was finished: what waited waits
abbrev pub Unfinished : Bool → Bool → Type 0
Unfinished before now = now ≡ true → before ≡ true

-- What was held has now some front of these octets after it. An object that does not tell claims nothing.
abbrev pub AppendsFront : Option (List ℕ) → Option (List ℕ) → List ℕ → Type 0
AppendsFront before now octets = (front rest : List ℕ) × (octets ≡ front ++ rest) × Appends before now front
