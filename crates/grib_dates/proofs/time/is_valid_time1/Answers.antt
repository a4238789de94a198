use Rattle.std.proofs.Common.{ap, ◌∙◌}
use Rattle.std.proofs.lemmas.List.{take_rest}
use Rattle.grib_dates.specs.Times.{is_civil, time1_in}
use Rattle.grib_dates.proofs.time.is_valid_time1.Goals as goal

pub returns : goal.returns
returns c = c.is_civil.ensures ∙ ap is_civil (c.time1_in.ensures ∙ ap time1_in (take_rest c.args.message.now 8))
