use Rattle.std.proofs.Common.{◌≡◌, IfOk, FitsSigned, to_z-of_z, sym, subst, rules}
use Rattle.std.specs.Int.{w64}
use Rattle.grib_arrays.specs.Values.{point_word}
use Rattle.grib_arrays.proofs.scale.ArrayScale.point_word.Goals as goal

pub returns-in-Scaled : goal.returns-in-Scaled
returns-in-Scaled c f r e d is =
    let fits : FitsSigned w64 c.in-Scaled.x = search rules in
    let word = rw (to_z-of_z fits) at (c.value_word.ensures f r e d is) in
    subst (λ p. IfOk c.value_word.result (λ w. w ≡ point_word f r e d p)) (sym c.in-Scaled.is) word
