use Rattle.std.proofs.Common.{refl}
use Rattle.grib_fewest.proofs.Ours.{all_ours}
use Rattle.grib_fewest.proofs.laws.what_is_written_is_such_a_list.Goals as goal

pub returns : goal.returns
returns c = record {
  bits = λ coding numbers. refl;
  items = λ coding numbers fits within. all_ours coding numbers fits within;
}
