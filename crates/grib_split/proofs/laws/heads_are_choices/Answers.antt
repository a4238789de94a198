use Rattle.grib_split.proofs.Heads.{heads_choices}
use Rattle.grib_split.proofs.laws.heads_are_choices.Goals as goal

pub returns : goal.returns
returns c header width codes choices same heads = heads_choices header width codes choices same heads
