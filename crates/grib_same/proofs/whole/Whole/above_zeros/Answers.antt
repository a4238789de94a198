use Rattle.std.proofs.Common.{ℕ, List, ◌++◌, FitsSigned, to_z-of_z, ap, ◌∙◌, rules}
use Rattle.std.specs.Int.{w64}
use Rattle.grib_same.specs.Wholes.{number_of}
use Rattle.grib_same.proofs.Wholes.{number_append}
use Rattle.grib_same.proofs.whole.Whole.above_zeros.Goals as goal

pub returns : goal.returns
returns c =
    let top = c.args.self.top in
    let zeros = c.in_ok-digits.digits.items in
    let digits = c.args.self.digits.items in
    let fits : FitsSigned w64 c.args.self.top = search rules in
    rw (to_z-of_z fits) (ap (λ (l : List ℕ). number_of l top) (c.in_ok-extend_from_slice.ensures.items ∙ ap (λ (l : List ℕ). zeros ++ l) c.as_slice.ensures.value)
    ∙ number_append zeros digits top ∙ c.in_ok-digits.ensures (number_of digits top))
