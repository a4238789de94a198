use Rattle.std.proofs.Common.{refl}
use Rattle.grib1_sections.specs.Acceptance.{grid_start, bitmap_start, data_start, end_start}
use Rattle.grib_examples.proofs.edition1.cut_messages.Goals as goal

pub returns : goal.returns
unfolding grid_start bitmap_start data_start end_start
returns c = record {
  after_8 = refl;
  after_11 = refl;
  after_50 = refl;
  after_84 = refl;
  after_87 = refl;
}
