-- Vertical coordinates of two fields (WMO-No. 306, Volume I.2, FM 92 GRIB edition 2, Section 4): binary32 words.
use Rattle.std.specs.Prelude.{ℕ, List, [], ◌∷◌}
use Rattle.grib_dyadic.specs.Reference.{SameNumber, ieee}

-- as many words, and each stands for the same number; zero has two words
abbrev pub SameWords : List ℕ → List ℕ → Type 0
SameWords [] [] = Unit {0}
SameWords (x ∷ xs) (y ∷ ys) = SameNumber (ieee x) (ieee y) × SameWords xs ys
SameWords _ _ = ⊥
