use Rattle.std.proofs.Common.{◌≡◌, Bool, true, false, not, refl, sym, ap, ◌∙◌}
use Rattle.std.specs.Prelude.{is_some}
use Rattle.grib_dates.specs.declared.rule.Dates.{Dates}
use Rattle.grib_dates.specs.declared.rule.Dates.TheVariants.{Valid}
use Rattle.grib_edit.specs.Setting.{date_cause}
use Rattle.grib_edit.proofs.dated.is_refused.Goals as goal

asked : (valid : Bool) → not valid ≡ is_some (date_cause Valid valid)
asked true = refl
asked false = refl

pub returns-in-Valid : goal.returns-in-Valid
returns-in-Valid c = asked c.args.is_valid ∙ ap (λ (d : Dates). is_some (date_cause d c.args.is_valid)) (sym c.in-Valid.is)
