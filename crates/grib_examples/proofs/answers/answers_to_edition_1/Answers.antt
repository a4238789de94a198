-- The clauses compute, once the digits of numbers and the places of sections do.
use Rattle.std.proofs.Common.{refl}
use Rattle.std.specs.Fmt.{digits}
use Rattle.grib1_sections.specs.Acceptance.{grid_start, bitmap_start, data_start, end_start}
use Rattle.grib_examples.proofs.answers.answers_to_edition_1.Goals as goal

pub returns : goal.returns
unfolding digits grid_start bitmap_start data_start end_start
returns c = record { check = refl; list = refl; dump = refl; repack = refl; set = refl; grid_type = refl }
