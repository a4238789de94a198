use Rattle.std.proofs.Common.{refl}
use Rattle.grib1_sections.specs.Acceptance.{grid_start, bitmap_start, data_start, end_start}
use Rattle.grib_examples.proofs.edition1.worked_messages.Goals as goal

pub returns : goal.returns
unfolding grid_start bitmap_start data_start end_start
returns c = record {
  g1_octets = refl;
  g1 = refl;
  before_another = refl;
  wide = refl;
  masked = refl;
  masked_points = refl;
  masked_values = refl;
  reduced = refl;
  reduced_points = refl;
}
