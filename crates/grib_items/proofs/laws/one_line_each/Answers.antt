use Rattle.grib_items.proofs.Lines.{line_each}
use Rattle.grib_items.proofs.laws.one_line_each.Goals as goal

pub returns : goal.returns
returns c = line_each
