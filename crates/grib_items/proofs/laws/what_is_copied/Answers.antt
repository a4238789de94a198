use Rattle.grib_items.proofs.Copied.{all_copied}
use Rattle.grib_items.proofs.laws.what_is_copied.Goals as goal

pub returns : goal.returns
returns c = all_copied
