-- The line of `stats`, printed piece by piece, is the line.
use Rattle.std.proofs.Common.{◌≡◌, ℕ, List, [], ◌∷◌, ◌++◌, codes, append_assoc}
use Rattle.std.specs.Fmt.{decimal}
use Rattle.grib_decimal.specs.declared.extreme.Summary.{Summary}
use Rattle.grib_text.specs.Stats.{extremes_text, stats_line}

stats_line-regroup : (m i p q r t : List ℕ) → m ++ (codes "." ++ (i ++ (codes " present " ++ (p ++ (codes " missing " ++ (q ++ (codes " missing2 " ++ (r ++ (t ++ 10 ∷ []))))))))) ≡ m ++ codes "." ++ i ++ codes " present " ++ p ++ codes " missing " ++ q ++ codes " missing2 " ++ r ++ t ++ 10 ∷ []
stats_line-regroup m i p q r t = simp append_assoc

pub stats_line-pieces : (m i : ℕ) (s : Summary) → decimal m ++ (codes "." ++ (decimal i ++ (codes " present " ++ (decimal s.present ++ (codes " missing " ++ (decimal s.missing ++ (codes " missing2 " ++ (decimal s.missing2 ++ (extremes_text s.extremes ++ 10 ∷ []))))))))) ≡ stats_line m i s
stats_line-pieces m i s = stats_line-regroup (decimal m) (decimal i) (decimal s.present) (decimal s.missing) (decimal s.missing2) (extremes_text s.extremes)
