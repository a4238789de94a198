use Rattle.std.proofs.Common.{true, sym, ◌∙◌}
use Rattle.std.proofs.lemmas.Bool.{not-true}
use Rattle.grib_decimal.proofs.Ranges.{all_near_fit}
use Rattle.grib_decimal.proofs.scale.DecimalScale.holds_all.Goals as goal

pub returns-then-not-is_too_large : goal.returns-then-not-is_too_large
returns-then-not-is_too_large c = λ holds points near.
    all_near_fit c.args.self.now (sym c.is_too_large.ensures ∙ c.if-not-is_too_large.true)
    (sym c.is_too_large-then-not-is_too_large.ensures ∙ not-true c.is_too_large-then-not-is_too_large.result holds) points near
