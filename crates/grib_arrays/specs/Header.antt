-- The header of an array in the form .npy 1.0 (numpy.lib.format): a magic text, the version, the length of what follows in two
-- octets, the least one first, and a dictionary of Python, filled up with blanks to 128 octets in all, the last one a newline.
use Rattle.std.specs.Prelude.{ℕ, ◌-◌, List, [], ◌∷◌, ◌++◌, codes, length, replicate}
use Rattle.std.specs.Fmt.{decimal}
use Rattle.grib_nearest.specs.declared.format.Format.{Format}
use Rattle.grib_nearest.specs.declared.format.Format.TheVariants.{Binary32, Binary64}
use Rattle.grib_arrays.specs.declared.shape.Shape.{Shape}
use Rattle.grib_arrays.specs.declared.shape.Shape.TheVariants.{Table, Points}

-- the type of the values, the least octet of each first
abbrev pub type_name : Format → List ℕ
type_name Binary32 = codes "<f4"
type_name Binary64 = codes "<f8"

-- what stands between the brackets of a tuple of Python
abbrev pub shape_text : Shape → List ℕ
shape_text (Table outer inner) = decimal outer ++ codes ", " ++ decimal inner
shape_text (Points count) = decimal count ++ codes ","

abbrev pub dictionary_with : List ℕ → List ℕ → List ℕ
dictionary_with name tuple = codes "{'descr': '" ++ name ++ codes "', 'fortran_order': False, 'shape': (" ++ tuple ++ codes "), }"

abbrev pub dictionary : Format → Shape → List ℕ
dictionary f shape = dictionary_with (type_name f) (shape_text shape)

-- 10 octets, and 118 that follow
abbrev pub header : Format → Shape → List ℕ
header f shape =
    (147 ∷ codes "NUMPY") ++ 1 ∷ 0 ∷ 118 ∷ 0 ∷ (dictionary f shape ++ replicate (117 - length (dictionary f shape)) 32 ++ 10 ∷ [])
