use Rattle.std.proofs.Common.{ℕ, List, ap, ◌∙◌}
use Rattle.grib_same.specs.Wholes.{number_of}
use Rattle.grib_same.proofs.Wholes.{zeros_more}
use Rattle.grib_same.proofs.digits.zero_digits.Goals as goal

pub loop-preserved : goal.loop-preserved
loop-preserved c = λ top. ap (λ (l : List ℕ). number_of l top) c.in_ok-push.ensures.items ∙ zeros_more c.loop.digits.items c.loop.counter top c.loop.invariant
