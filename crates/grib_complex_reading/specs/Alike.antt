-- Fields whose groups are all alike.
use Rattle.std.specs.Prelude.{◌≡◌, ◌⊎◌, ℕ, ◌+◌, ◌*◌, ◌≤◌, Bool, Option, None, Some, List}
use Rattle.grib_base.specs.declared.fault.Fault.{Fault}
use Rattle.grib_base.specs.declared.fault.Reason.TheVariants.{ScaledRange}
use Rattle.grib_base.specs.Rules.{first_place, refusal}
use Rattle.grib_packing.specs.declared.layout.Layout.{Layout}
use Rattle.grib_packing.specs.Differences.{NoNumber}
use Rattle.grib_packing.specs.Entries.{is_out_of_range}
use Rattle.grib_packing.specs.Groups.{codes_from, groups, lengths, references, widths}
use Rattle.grib_group_reading.specs.Lists.{lists_fault}
use Rattle.grib_complex_reading.specs.declared.alike.Outcome.{Outcome}
use Rattle.grib_complex_reading.specs.declared.alike.Outcome.TheVariants.{Passes, Refused, Open}
use Rattle.grib_complex_reading.specs.declared.noted.Told.{Told}
use Rattle.grib_complex_reading.specs.declared.representation.Complex.{Complex}
use Rattle.grib_complex_reading.specs.Descriptors.{descriptors_in}
use Rattle.grib_complex_reading.specs.Told.{After, told as points_of}

-- No list has any bits: the groups differ in the length of the last alone.
pub record AreAlike (layout : Layout) : Type 0 where
  pub references : layout.reference_bits ≡ 0
  pub widths : layout.width_bits ≡ 0
  pub lengths : layout.length_bits ≡ 0
  pub narrow : layout.width_reference ≤ 32

-- the refusal of the lists that these octets begin with, in a Section 7 of l octets
abbrev pub refusal_of_lists : Complex → ℕ → ℕ → List ℕ → Option Fault
refusal_of_lists complex start l octets =
    lists_fault complex.layout start ((complex.order + 1) * complex.extra) l complex.simple.values (references complex.layout octets) (widths complex.layout octets) (lengths complex.layout octets)

-- the place, from 1, of the first number out of range, where the lists begin these octets and these are the packed numbers
abbrev pub place_beyond : Complex → Told → List ℕ → List Bool → ℕ
place_beyond complex told octets numbers =
    first_place is_out_of_range (points_of (After (descriptors_in told) NoNumber) (codes_from complex.layout (groups complex.layout octets) numbers))

-- No rule fails, whatever octets come.
pub record AllPass (complex : Complex) (told : Told) (start l : ℕ) : Type 0 where
  pub alike : AreAlike complex.layout
  pub lists : (octets : List ℕ) → refusal_of_lists complex start l octets ≡ None
  pub within : (told.order ≡ 0) ⊎ ((octets : List ℕ) (numbers : List Bool) → place_beyond complex told octets numbers ≡ 0)

-- The lists are refused, whatever octets come.
pub record ListsFail (complex : Complex) (start l : ℕ) (fault : Fault) : Type 0 where
  pub alike : AreAlike complex.layout
  pub lists : (octets : List ℕ) → refusal_of_lists complex start l octets ≡ Some fault

-- Or a number is out of range.
pub record RangeFails (complex : Complex) (told : Told) (start l : ℕ) (fault : Fault) : Type 0 where
  pub alike : AreAlike complex.layout
  pub lists : (octets : List ℕ) → refusal_of_lists complex start l octets ≡ None
  pub order : told.order ≡ 0 → ⊥
  pub place : ℕ
  pub some : 1 ≤ place
  pub beyond : (octets : List ℕ) (numbers : List Bool) → place_beyond complex told octets numbers ≡ place
  pub fault_is : fault ≡ refusal start ScaledRange place

abbrev pub Becomes : Complex → Told → ℕ → ℕ → Outcome → Type 0
Becomes complex told start l Passes = AllPass complex told start l
Becomes complex told start l (Refused fault) = ListsFail complex start l fault ⊎ RangeFails complex told start l fault
Becomes complex told start l Open = Unit {0}
