use Rattle.grib_split.proofs.Following.{only_chosen}
use Rattle.grib_split.proofs.laws.one_grouping_is_chosen.Goals as goal

pub returns : goal.returns
returns c header width codes a b p q = only_chosen header width codes a b p q
