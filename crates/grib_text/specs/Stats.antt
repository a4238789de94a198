-- The lines of `stats`, with their newline (10).
use Rattle.std.specs.Prelude.{ℕ, Option, Some, None, List, [], ◌∷◌, ◌++◌, codes}
use Rattle.std.specs.Fmt.{decimal, signed_decimal}
use Rattle.grib_decimal.specs.declared.extreme.Extremes.{Extremes}
use Rattle.grib_decimal.specs.declared.extreme.Summary.{Summary}

-- the least and the greatest scaled number with their places; nothing where there is none
abbrev pub extremes_text : Option Extremes → List ℕ
extremes_text None = []
extremes_text (Some m) =
    codes " least " ++ signed_decimal m.least ++ codes " at " ++ decimal m.least_place
    ++ codes " greatest " ++ signed_decimal m.greatest ++ codes " at " ++ decimal m.greatest_place

-- of field i of message m
abbrev pub stats_line : ℕ → ℕ → Summary → List ℕ
stats_line m i s =
    decimal m ++ codes "." ++ decimal i ++ codes " present " ++ decimal s.present ++ codes " missing " ++ decimal s.missing
    ++ codes " missing2 " ++ decimal s.missing2 ++ extremes_text s.extremes ++ 10 ∷ []
