use Rattle.std.proofs.Common.{None, Some, refl}
use Rattle.grib_params.proofs.Meaning.{of_text}
use Rattle.grib_params.proofs.laws.a_table_has_the_rows_of_its_text.Goals as goal

pub returns : goal.returns
returns c text table good centre version parameter =
    rw (of_text text table (Some centre, version, parameter) good, of_text text table (None, version, parameter) good) refl
