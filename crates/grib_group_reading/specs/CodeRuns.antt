-- Codes of a group that follow one another.
use Rattle.std.specs.Prelude.{◌≡◌, ℕ, ◌+◌, ◌*◌, ◌^◌, ◌<◌, ◌≤◌, List, ◌++◌, length, drop, map, replicate}
use Rattle.grib_bits.specs.Bits.{bits}
use Rattle.grib_bits.specs.Plain.{plain}
use Rattle.grib_base.specs.declared.code.Code.{Code}
use Rattle.grib_group_reading.specs.declared.code_run.SameRun.{SameRun}
use Rattle.grib_group_reading.specs.declared.code_run.WordRun.{WordRun}
use Rattle.grib_group_reading.specs.Taking.{code_by, number_of}

-- the codes of numbers that stand after the first bits of some octets
abbrev pub codes_in_words : WordRun → List Code
codes_in_words run = map (code_by run.coding) (plain (drop run.place (bits run.octets.now)) run.width run.count)

-- their numbers are below this
abbrev pub limit_of : WordRun → ℕ
limit_of run = run.coding.reference + 2 ^ run.width

-- Each of these numbers begins where eight octets are left.
pub record AreInWords (run : WordRun) : Type 0 where
  pub some : 1 ≤ run.width
  pub narrow : run.width ≤ 48
  pub reference : run.coding.reference < 2 ^ 32
  pub short : length run.octets.now < 2 ^ 32
  pub within : 0 < run.count → run.place + run.count * run.width + 64 ≤ 8 * length run.octets.now + run.width

-- the codes of a run of one code
abbrev pub same_codes : SameRun → List Code
same_codes run = replicate run.count run.code

abbrev pub IsBelowItsLimit : SameRun → Type 0
IsBelowItsLimit run = number_of run.code < run.limit

-- The first codes of a run, of which these are left, went to what takes them.
pub record Passed {S : Type 0} (took : List Code → S → Type 0) (all left : List Code) (taker : S) : Type 0 where
  pub codes : List Code
  pub joined : codes ++ left ≡ all
  pub passed : took codes taker
