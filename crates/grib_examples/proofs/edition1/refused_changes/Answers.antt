use Rattle.std.proofs.Common.{refl}
use Rattle.grib1_sections.specs.Acceptance.{grid_start, bitmap_start, data_start, end_start}
use Rattle.grib_examples.proofs.edition1.refused_changes.Goals as goal

pub returns : goal.returns
unfolding grid_start bitmap_start data_start end_start
returns c = record {
  eleven = refl;
  shorter = refl;
  no_grid = refl;
  space_view = refl;
  harmonics = refl;
  second_order = refl;
  extra_flags = refl;
  no_list = refl;
  long_list = refl;
  small_bitmap = refl;
}
