-- The line of a point with its value, piece by piece.
use Rattle.std.proofs.Common.{◌≡◌, ℕ, List, [], ◌∷◌, ◌++◌, codes, OnOk, ℤ, sym, ap, ◌∙◌, append_assoc}
use Rattle.std.specs.declared.result.Result.{Result}
use Rattle.std.specs.Fmt.{decimal}
use Rattle.std.proofs.lemmas.Result.{on_ok_weaker}
use Rattle.grib_packing.specs.declared.column.Point.{Point}
use Rattle.grib_packing.specs.declared.column.Point.TheVariants.{Scaled}
use Rattle.grib_decimal.specs.Decimal.{Scale, decimal_text, value_at}
use Rattle.grib_text.specs.Values.{value_line}

regroup : (old place space text end : List ℕ) → old ++ place ++ space ++ text ++ end ≡ old ++ (place ++ space ++ text ++ end)
regroup old place space text end = simp append_assoc

value_is : (s : Scale) (place : ℕ) (p : Point) (x : ℤ) → p ≡ Scaled x → decimal place ++ codes " " ++ decimal_text (value_at s x) s.places ++ 10 ∷ [] ≡ value_line s place p
value_is s place p x is = ap (value_line s place) (sym is)

pub line_of : {T E : Type 0} (result : Result T E) (now old : List ℕ) (s : Scale) (place : ℕ) (p : Point) (x : ℤ) → p ≡ Scaled x → OnOk result (now ≡ old ++ decimal place ++ codes " " ++ decimal_text (value_at s x) s.places ++ 10 ∷ []) → OnOk result (now ≡ old ++ value_line s place p)
line_of result now old s place p x is appended =
    on_ok_weaker result
    (λ e. e ∙ regroup old (decimal place) (codes " ") (decimal_text (value_at s x) s.places) (10 ∷ []) ∙ ap (λ text. old ++ text) (value_is s place p x is)) appended
