use Rattle.grib_split.proofs.Following.{following_chosen}
use Rattle.grib_split.proofs.laws.lengths_of_heads_are_chosen.Goals as goal

pub returns : goal.returns
returns c header width codes choices lengths same heads follows = following_chosen header width lengths codes choices same heads follows
