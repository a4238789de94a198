-- What tells the points of codes, as these come.
use Rattle.std.specs.Prelude.{◌≡◌, ℕ, ◌+◌, ◌<◌, ◌^◌, false, List, All, ◌++◌, length}
use Rattle.grib_base.specs.declared.code.Code.{Code}
use Rattle.grib_base.specs.Rules.{first_place}
use Rattle.grib_packing.specs.declared.column.Point.{Point}
use Rattle.grib_packing.specs.Entries.{is_out_of_range}
use Rattle.grib_complex_reading.specs.Running.{Run}
use Rattle.grib_complex_reading.specs.declared.runs.Steadily.{Steadily}
use Rattle.grib_complex_reading.specs.declared.telling.Teller.{Teller}
use Rattle.grib_complex_reading.specs.declared.values.PlainValues.{PlainValues}
use Rattle.grib_complex_reading.specs.declared.values.Values.{Values}
use Rattle.grib_complex_reading.specs.Told.{Telling, Plainly, After, told, after, undoing}

abbrev pub telling_of : Run → Telling
telling_of run = After run.told run.last

-- It has told the points of these codes: their number and the place of the first out of range are known,
-- and where there is none, what the next code is told with.
pub record Tells (start : Telling) (seen : List Code) (teller : Teller) : Type 0 where
  pub place : teller.place ≡ length seen
  pub beyond : teller.beyond ≡ first_place is_out_of_range (told start seen)
  pub telling : teller.beyond ≡ 0 → telling_of teller.running ≡ after start seen

-- This many points went to what keeps them.
pub record PointsWent {K : Type 0} (kept : K → List Point → K → Type 0) (before : K) (count : ℕ) (after_them : K) : Type 0 where
  pub points : List Point
  pub counted : length points ≡ count
  pub keeps : kept before points after_them

-- The points of these codes went to what keeps them, as long as none is out of range. It keeps as many points
-- where one is, and the first values and the minimum stay either way.
pub record ValuesTook {K : Type 0} (kept : K → List Point → K → Type 0) (before : Values K) (codes : List Code) (after_them : Values K) : Type 0 where
  pub stays : 0 < before.teller.beyond → after_them.teller.beyond ≡ before.teller.beyond
  pub undoes : undoing (telling_of after_them.teller.running) ≡ undoing (telling_of before.teller.running)
  pub tells : (start : Telling) (seen : List Code) → length seen + length codes < 2 ^ 63 → Tells start seen before.teller → Tells start (seen ++ codes) after_them.teller
  pub keeps : (start : Telling) (seen : List Code) → length seen + length codes < 2 ^ 63 → Tells start seen before.teller → after_them.teller.beyond ≡ 0
      → kept before.keeper (told (after start seen) codes) after_them.keeper
  pub went : PointsWent kept before.keeper (length codes) after_them.keeper

-- The points of these codes, which are the scaled integers themselves, went to what keeps them.
abbrev pub PlainTook : {K : Type 0} → (K → List Point → K → Type 0) → PlainValues K → List Code → PlainValues K → Type 0
PlainTook kept before codes after_them = kept before.keeper (told Plainly codes) after_them.keeper

-- The number of this point, if any, is within plus and minus 2 ^ 60.
abbrev pub IsWithin : Point → Type 0
IsWithin point = is_out_of_range point ≡ false

-- The points of these codes, which are those of differences, went to what keeps them: none is out of range.
pub record SteadilyTook {K : Type 0} (kept : K → List Point → K → Type 0) (before : Steadily K) (codes : List Code) (after_them : Steadily K) : Type 0 where
  pub within : All IsWithin (told (telling_of before.steady.run) codes)
  pub telling : telling_of after_them.steady.run ≡ after (telling_of before.steady.run) codes
  pub keeps : kept before.keeper (told (telling_of before.steady.run) codes) after_them.keeper
