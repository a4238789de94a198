use Rattle.std.proofs.Common.{None, Some, refl}
use Rattle.grib_params.proofs.Meaning.{of_surface_text}
use Rattle.grib_params.proofs.laws.a_table_of_surfaces_has_the_rows_of_its_text.Goals as goal

pub returns : goal.returns
returns c text table good centre version parameter kind level = rw (
  of_surface_text text table ((Some centre, version, parameter), kind, Some level) good,
  of_surface_text text table ((Some centre, version, parameter), kind, None) good,
  of_surface_text text table ((None, version, parameter), kind, Some level) good,
  of_surface_text text table ((None, version, parameter), kind, None) good,
) refl
