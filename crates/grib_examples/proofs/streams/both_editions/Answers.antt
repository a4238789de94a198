-- The clauses compute, once the places of sections do.
use Rattle.std.proofs.Common.{refl}
use Rattle.grib1_sections.specs.Acceptance.{grid_start, bitmap_start, data_start, end_start}
use Rattle.grib_examples.proofs.streams.both_editions.Goals as goal

pub returns : goal.returns
unfolding grid_start bitmap_start data_start end_start
returns c = record { found = refl; refused = refl }
