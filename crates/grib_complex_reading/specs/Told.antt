-- The points that codes tell, one after another.
use Rattle.std.specs.Prelude.{Option, None, Some, List, [], ◌∷◌, pos}
use Rattle.grib_base.specs.declared.code.Code.{Code}
use Rattle.grib_base.specs.declared.code.Code.TheVariants.{Present, Primary, Secondary}
use Rattle.grib_packing.specs.declared.column.Point.{Point}
use Rattle.grib_packing.specs.declared.column.Point.TheVariants.{Scaled, Missing, Missing2}
use Rattle.grib_packing.specs.Differences.{Descriptors, Last, next_number, last_after}

-- what the next code is told with: a code is the scaled integer itself, or the code of a difference
-- after the last numbers
pub data Telling : Type 0 where
  Plainly : Telling
  After : Descriptors → Last → Telling

-- the point of the next code
abbrev pub point_of : Telling → Code → Point
point_of telling Primary = Missing
point_of telling Secondary = Missing2
point_of Plainly (Present n) = Scaled (pos n)
point_of (After d last) (Present n) = Scaled (next_number d last n)

-- and what the code after it is told with
abbrev pub telling_after : Telling → Code → Telling
telling_after telling Primary = telling
telling_after telling Secondary = telling
telling_after Plainly (Present n) = Plainly
telling_after (After d last) (Present n) = After d (last_after d last (next_number d last n))

-- the points of codes
abbrev pub told : Telling → List Code → List Point
told telling [] = []
told telling (code ∷ codes) = point_of telling code ∷ told (telling_after telling code) codes

-- what is told with after codes
abbrev pub after : Telling → List Code → Telling
after telling [] = telling
after telling (code ∷ codes) = after (telling_after telling code) codes

-- the first values and the minimum that codes are told with, if they are those of differences
abbrev pub undoing : Telling → Option Descriptors
undoing Plainly = None
undoing (After d last) = Some d
